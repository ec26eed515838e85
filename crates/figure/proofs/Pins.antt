-- Going through the pins of two arrays: the last pin is spread first, the first is folded first. Assumes nothing.
use Prim.Native.Nat.{ℕ, zero, suc, ◌+◌, ◌-◌, ◌*◌, ◌%◌, ◌^◌, ◌≤◌, ◌<◌}
use mathlib.Core.List.{List, [], ◌∷◌, map}
use mathlib.Core.Path.{◌≡◌, refl, ap}
use native.Mathlib.Omega.{arith}
use Rattle.std.proofs.Math.Nat.{pow-succ'}
use lib.ListN.{length, get_or, take, drop}
use lib.Seq.{get_or-take, drop-cons, length-take-le}
use Rattle.std.proofs.lemmas.List.{drop_all}
use Rattle.figure.specs.Figure.{failure_of, fold_step, fold_pins}
use Rattle.figure.specs.Steps.{Pin, pins_from, first_pins, room, spread_pin, spread_pins}

-- numbers of patterns of up to four pins
pub few : (n : ℕ) → n ≤ 4 → 1 * 2 ^ n % 18446744073709551616 ≡ 2 ^ n
few zero h = refl
few (suc zero) h = refl
few (suc (suc zero)) h = refl
few (suc (suc (suc zero))) h = refl
few (suc (suc (suc (suc zero)))) h = refl
few (suc (suc (suc (suc (suc n))))) h = absurd (large h)
  where
    large : suc (suc (suc (suc (suc n)))) ≤ 4 → ⊥
    large h = omega arith

pub at-most-eight : (n : ℕ) → n ≤ 3 → (0 < 2 ^ n) × (2 ^ n ≤ 8)
at-most-eight zero h = (omega arith, omega arith)
at-most-eight (suc zero) h = (omega arith, omega arith)
at-most-eight (suc (suc zero)) h = (omega arith, omega arith)
at-most-eight (suc (suc (suc zero))) h = (omega arith, omega arith)
at-most-eight (suc (suc (suc (suc n)))) h = absurd (large h)
  where
    large : suc (suc (suc (suc n))) ≤ 3 → ⊥
    large h = omega arith

-- the last `more` of `count` pins
abbrev pub last_pins : ℕ → ℕ → List ℕ → List ℕ → List Pin
last_pins count more words bits = pins_from (count - more) more (λ i. get_or words i 0) (λ i. get_or bits i 0)

-- one more pin from the end
last-more : (count more : ℕ) (words bits : List ℕ) → more < count
    → last_pins count (more + 1) words bits
    ≡ record { word = get_or words (count - 1 - more) 0; bit = get_or bits (count - 1 - more) 0 } ∷ last_pins count more words bits
last-more count more words bits h =
    let k = count - 1 - more in
    let here : count - (more + 1) ≡ k = omega arith in
    let next : count - more ≡ suc k = omega arith in
    let one : more + 1 ≡ suc more = omega arith in
    rw (here, next, one)

-- what pins from a later one on add is no more than what all add
room-later : (j k n : ℕ) (word bit : ℕ → ℕ) → room (pins_from (k + j) n word bit) ≤ room (pins_from k (j + n) word bit)
room-later zero k n word bit =
    let same : k + 0 ≡ k = omega arith in
    let same_n : 0 + n ≡ n = omega arith in
    rw (same, same_n) (omega arith)
room-later (suc j) k n word bit =
    let e : k + suc j ≡ suc k + j = omega arith in
    let f : suc j + n ≡ suc (j + n) = omega arith in
    let later : room (pins_from (suc k + j) n word bit) ≤ room (pins_from (suc k) (j + n) word bit) = room-later j (suc k) n word bit in
    rw (e, f) (omega arith)

pub room-left : (count more : ℕ) (words bits : List ℕ) → more < count
    → room (last_pins count more words bits) + get_or bits (count - 1 - more) 0 ≤ room (first_pins count words bits)
room-left count more words bits h =
    let k = count - 1 - more in
    let word : ℕ → ℕ = λ i. get_or words i 0 in
    let bit : ℕ → ℕ = λ i. get_or bits i 0 in
    let first : 0 + k ≡ k = omega arith in
    let all : k + suc more ≡ count = omega arith in
    let next : count - more ≡ suc k = omega arith in
    let later : room (pins_from k (suc more) word bit) ≤ room (pins_from 0 count word bit)
    = rw (first, all) at (room-later k 0 (suc more) word bit) in
    rw next (omega arith)

pub two-more : (n : ℕ) → 2 ^ (n + 1) ≡ 2 * 2 ^ n
two-more n =
    let one : n + 1 ≡ suc n = omega arith in
    rw one (pow-succ' 2 n)

-- one pin more is spread
pub spread-next : (count more start : ℕ) (words bits at next : List ℕ) → more < count
    → take (2 ^ more) at ≡ spread_pins (last_pins count more words bits) (start ∷ [])
    → take (2 * 2 ^ more) next ≡ spread_pin (get_or words (count - 1 - more) 0) (get_or bits (count - 1 - more) 0) (take (2 ^ more) at)
    → take (2 ^ (more + 1)) next ≡ spread_pins (last_pins count (more + 1) words bits) (start ∷ [])
spread-next count more start words bits at next h so_far step =
    let twice : 2 ^ (more + 1) ≡ 2 * 2 ^ more = two-more more in
    rw (twice, step, so_far, last-more count more words bits h)

-- one pin more is folded
pub fold-next : (u count pin : ℕ) (words values next : List ℕ) → pin < count → count ≤ length words
    → take (2 ^ (count - 1 - pin)) next ≡ fold_step u (failure_of (get_or words pin 0)) (take (2 * 2 ^ (count - 1 - pin)) values)
    → fold_pins u (map failure_of (drop (pin + 1) (take count words))) (take (2 ^ (count - (pin + 1))) next)
    ≡ fold_pins u (map failure_of (drop pin (take count words))) (take (2 ^ (count - pin)) values)
fold-next u count pin words values next h fits step =
    let half = 2 ^ (count - 1 - pin) in
    let here : count - (pin + 1) ≡ count - 1 - pin = omega arith in
    let before : count - pin ≡ (count - 1 - pin) + 1 = omega arith in
    let one : pin + 1 ≡ suc pin = omega arith in
    let inside : pin < length (take count words) = omega (arith, length-take-le count words fits) in
    rw (before, two-more (count - 1 - pin), here, one, drop-cons (take count words) pin 0, get_or-take count words pin 0 h, step)

-- the last value is what is left when every pin is folded
pub fold-end : (u count : ℕ) (words values : List ℕ) → count ≤ length words
    → fold_pins u (map failure_of (drop count (take count words))) (take (2 ^ (count - count)) values) ≡ get_or values 0 0
fold-end u count words values fits =
    let none : count - count ≡ 0 = omega arith in
    let all : length (take count words) ≤ count = omega (arith, length-take-le count words fits) in
    rw (none, drop_all count (take count words) all) (get_or-take 1 values 0 0 (omega arith))

-- the failures of the first pins of two arrays
failures-from : (n k : ℕ) (words bits : List ℕ) → k + n ≤ length words
    → map (λ (p : Pin). failure_of p.word) (pins_from k n (λ i. get_or words i 0) (λ i. get_or bits i 0))
    ≡ map failure_of (take n (drop k words))
failures-from zero k words bits h = refl
failures-from (suc n) k words bits h =
    let inside : k < length words = omega arith in
    rw (drop-cons words k 0) (ap (λ (l : List ℕ). failure_of (get_or words k 0) ∷ l) (failures-from n (suc k) words bits (omega arith)))

pub failures-first : (n : ℕ) (words bits : List ℕ) → n ≤ length words
    → map (λ (p : Pin). failure_of p.word) (first_pins n words bits) ≡ map failure_of (take n words)
failures-first n words bits h = failures-from n 0 words bits (omega arith)
