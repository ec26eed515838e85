-- A table's answer by its last pin, and by a single pin; pins of which one is inverted. Assumes nothing.
use Prim.Native.Nat.{ℕ, zero, suc, ◌+◌, ◌*◌, ◌/◌, ◌%◌, ◌^◌, ◌<◌}
use mathlib.Core.Bool.{Bool, true, false, cond, not, beq}
use mathlib.Core.List.{List, [], ◌∷◌, ◌++◌, map}
use mathlib.Core.Path.{◌≡◌, refl, sym, ap, ap₂, ◌∙◌}
use native.Mathlib.Nat.{div-one, pow-succ', mod-lt, zero-lt-suc}
use native.Mathlib.Omega.{arith}
use lib.Bits.{bit_xor}
use lib.Dec.{eqb}
use lib.ListN.{length, get_or, set, take}
use lib.Pow.{shr-shr}
use Rattle.figure.specs.Figure.{bit_of, is_odd, index_of, answer, invert_if, inverted}
use Rattle.lists.proofs.Parts.{four-of}
use Rattle.netlist.specs.Seen.{alone, sensitive}
use Rattle.signals.specs.Signals.{lane_count, lane, pin_lanes}
use Rattle.signals.proofs.Lanes.{lane_xor, lane-zero, ones_below}

-- the last pin decides between the upper and the lower part of the table
index-last : (vs : List Bool) (v : Bool) → index_of (vs ++ (v ∷ [])) ≡ 2 ^ length vs * bit_of v + index_of vs
index-last [] v = omega arith
index-last (w ∷ vs) v =
    omega (arith, ap (λ (i : ℕ). 2 * i) (index-last vs v), ap (λ (p : ℕ). p * bit_of v) (pow-succ' 2 (length vs)))

pub answer-last : (table : ℕ) (vs : List Bool) (v : Bool)
    → answer table (vs ++ (v ∷ [])) ≡ cond v (answer (table / 2 ^ 2 ^ length vs) vs) (answer table vs)
unfolding answer
answer-last table vs true =
    ap (λ (i : ℕ). is_odd (table / 2 ^ i)) (index-last vs true ∙ omega arith) ∙ ap is_odd (sym (shr-shr table (2 ^ length vs) (index_of vs)))
answer-last table vs false = ap (λ (i : ℕ). is_odd (table / 2 ^ i)) (index-last vs false ∙ omega arith)

-- values chosen by the last pin between the answers of both parts
pub by_last : (table : ℕ) (vs : List Bool) (v : Bool) {one zero : Bool} → one ≡ answer (table / 2 ^ 2 ^ length vs) vs → zero ≡ answer table vs
    → cond v one zero ≡ answer table (vs ++ (v ∷ []))
by_last table vs v upper lower = ap₂ (cond v) upper lower ∙ sym (answer-last table vs v)

-- a word with every bit set, and a word inverted
pub lane-all : (l : ℕ) → l < lane_count → lane l 18_446_744_073_709_551_615 ≡ true
lane-all l less = ones_below 64 l less

pub lane-inverted : (l w : ℕ) → l < lane_count → lane l (bit_xor w 18_446_744_073_709_551_615) ≡ not (lane l w)
lane-inverted l w less = lane_xor l w _ ∙ ap (invert_if (lane l w)) (lane-all l less) ∙ go (lane l w)
  where
    go : (b : Bool) → invert_if b true ≡ not b
    go true = refl
    go false = refl

odd-by : (x digit : ℕ) {b : Bool} → b ≡ eqb digit 1 → x ≡ digit → b ≡ eqb x 1
odd-by x digit h e = h ∙ ap (λ (y : ℕ). eqb y 1) (sym e)

-- a value chosen among four by the table's lowest two bits is the answer of a table with one pin
module _ (table l w : ℕ) (less : l < lane_count) where
  abbrev choices : List ℕ
  choices = 0 ∷ bit_xor w 18_446_744_073_709_551_615 ∷ w ∷ 18_446_744_073_709_551_615 ∷ []

  one_of : (t : ℕ) → table % 4 ≡ t → t < 4 → (v : Bool) → lane l w ≡ v → lane l (get_or choices t 0) ≡ eqb (table / 2 ^ bit_of v % 2) 1
  one_of zero e h true q = odd-by (table / 2 ^ 1 % 2) 0 (lane-zero l) (omega arith)
  one_of zero e h false q = odd-by (table / 2 ^ 0 % 2) 0 (lane-zero l) (omega (arith, div-one table))
  one_of (suc zero) e h true q = odd-by (table / 2 ^ 1 % 2) 0 (lane-inverted l w less ∙ ap not q) (omega arith)
  one_of (suc zero) e h false q = odd-by (table / 2 ^ 0 % 2) 1 (lane-inverted l w less ∙ ap not q) (omega (arith, div-one table))
  one_of (suc (suc zero)) e h true q = odd-by (table / 2 ^ 1 % 2) 1 (q) (omega arith)
  one_of (suc (suc zero)) e h false q = odd-by (table / 2 ^ 0 % 2) 0 (q) (omega (arith, div-one table))
  one_of (suc (suc (suc zero))) e h true q = odd-by (table / 2 ^ 1 % 2) 1 (lane-all l less) (omega arith)
  one_of (suc (suc (suc zero))) e h false q = odd-by (table / 2 ^ 0 % 2) 1 (lane-all l less) (omega (arith, div-one table))
  one_of (suc (suc (suc (suc t)))) e h v q = absurd (omega arith)

  pub answer-first : lane l (get_or choices (table % 4) 0) ≡ answer table (lane l w ∷ [])
  unfolding answer
  answer-first = one_of (table % 4) refl (mod-lt table (zero-lt-suc 3)) (lane l w) refl ∙ ap (λ (i : ℕ). is_odd (table / 2 ^ i)) (omega arith)

  pub answer-bare : lane l (get_or (0 ∷ 18_446_744_073_709_551_615 ∷ []) (table % 2) 0) ≡ answer table []
  unfolding answer
  answer-bare = go (table % 2) refl (mod-lt table (zero-lt-suc 1))
    where
      go : (t : ℕ) → table % 2 ≡ t → t < 2 → lane l (get_or (0 ∷ 18_446_744_073_709_551_615 ∷ []) t 0) ≡ is_odd (table / 2 ^ 0)
      go zero e h = odd-by (table / 2 ^ 0 % 2) 0 (lane-zero l) (omega (arith, div-one table))
      go (suc zero) e h = odd-by (table / 2 ^ 0 % 2) 1 (lane-all l less) (omega (arith, div-one table))
      go (suc (suc t)) e h = absurd (omega arith)

-- four words one by one are the list that they make
abbrev pub first-lanes : ℕ → ℕ → List ℕ → List Bool
first-lanes l count words = pin_lanes l count (get_or words 0 0 ∷ get_or words 1 0 ∷ get_or words 2 0 ∷ get_or words 3 0 ∷ [])

pub lanes-of : (l count : ℕ) (words : List ℕ) → length words ≡ 4 → first-lanes l count words ≡ pin_lanes l count words
lanes-of l count words four = ap (pin_lanes l count) (sym (four-of words four))

-- ---- one pin inverted

-- in lane l, pins of which the word of pin i is inverted
pub pins-inverted : (l : ℕ) → l < lane_count → (count i : ℕ) (words : List ℕ) → i < count → i < length words
    → pin_lanes l count (set words i (bit_xor (get_or words i 0) 18_446_744_073_709_551_615)) ≡ inverted (pin_lanes l count words) (alone i)
pins-inverted l less zero i words h k = absurd (omega arith)
pins-inverted l less (suc count) i [] h k = absurd (omega arith)
pins-inverted l less (suc count) zero (w ∷ words) h k = ap₂ ◌∷◌ (lane-inverted l w less) (sym (inverted-none (map (lane l) (take count words))))
  where
    inverted-none : (vs : List Bool) → inverted vs [] ≡ vs
    inverted-none [] = refl
    inverted-none (v ∷ vs) = refl
pins-inverted l less (suc count) (suc i) (w ∷ words) h k =
    ap (λ (vs : List Bool). lane l w ∷ vs) (pins-inverted l less count i words (omega arith) (omega arith))

-- values differ
pub differs : (x y : Bool) → invert_if x y ≡ not (beq x y)
differs true true = refl
differs true false = refl
differs false true = refl
differs false false = refl

-- the difference of two answers is where the gate is sensitive
pub sensitive-lane : (l table count i wrong right : ℕ) (words : List ℕ) → l < lane_count → i < count → i < length words
    → lane l wrong ≡ answer table (pin_lanes l count (set words i (bit_xor (get_or words i 0) 18_446_744_073_709_551_615)))
    → lane l right ≡ answer table (pin_lanes l count words)
    → lane l (bit_xor wrong right) ≡ sensitive table (pin_lanes l count words) i
unfolding sensitive
sensitive-lane l table count i wrong right words less h k w r =
    lane_xor l wrong right
    ∙ ap₂ invert_if (w ∙ ap (answer table) (pins-inverted l less count i words h k)) r
    ∙ differs (answer table (inverted (pin_lanes l count words) (alone i))) (answer table (pin_lanes l count words))
