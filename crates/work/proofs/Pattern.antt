-- A pattern with one bit inverted: it stays below 2^n, that bit is the other one, and every other bit is as it was. Assumes nothing.
use Prim.Native.Nat.{ℕ, suc, ◌+◌, ◌-◌, ◌*◌, ◌/◌, ◌%◌, ◌^◌, ◌≤◌, ◌<◌}
use mathlib.Core.Bool.{Bool, true, false, cond}
use mathlib.Core.List.{List}
use mathlib.Core.Logic.{◌≢◌, by_cases}
use mathlib.Core.Path.{◌≡◌, refl, sym, ap, ◌∙◌}
use native.Mathlib.Nat.{div-add-mod', div-mul-le_self, mod-lt, mod-eq_of_lt, div-lt_iff_lt-mul, one-mul, mul-le-mul_right, pow-suc, lt_of_lt_of_le}
use native.Mathlib.Nat.{div-div-eq-div-mul, add-mul-div_right, add-div_right, add-mul-mod_self_right}
use native.Mathlib.Decide.{dec_lt}
use native.Mathlib.Omega.{arith}
use lib.Dec.{eqb}
use lib.Pow.{pow_pos, pow-add, pow_mono}
use borrow.Author.Tests.{eqb-true, eqb-false}
use Rattle.area.specs.Layout.{most_inputs, most_patterns, inputs, pattern}
use Rattle.area.specs.Rules.{Workable}
use Rattle.work.specs.Work.{invert_bit}

-- ---- patterns and bits that fit

-- one bit, and 1 shifted to its place as the machine has it
pub bit-fits : (i : ℕ) → i < most_inputs → 2 ^ i ≤ most_patterns
bit-fits i h = pow_mono {i = i} {j = most_inputs} (omega arith)

pub bit_is : (i : ℕ) → i < most_inputs → 1 * 2 ^ i % 2 ^ 32 ≡ 2 ^ i
bit_is i h = ap (λ (x : ℕ). x % 2 ^ 32) (one-mul (2 ^ i)) ∙ mod-eq_of_lt (omega (arith, bit-fits i h))

-- a set bit is at most the pattern
pub bit_below : (q i : ℕ) → q / 2 ^ i % 2 ≡ 1 → 2 ^ i ≤ q
bit_below q i e =
    let some : 1 ≤ q / 2 ^ i = omega arith in
    omega (arith, one-mul (2 ^ i), mul-le-mul_right {m = 1} {n = q / 2 ^ i} (2 ^ i) some, div-mul-le_self q (2 ^ i))

pub pattern-small : (ws : List ℕ) → Workable ws → pattern ws < most_patterns
pattern-small ws w = lt_of_lt_of_le w.figures.pattern_fits (pow_mono {i = inputs ws} {j = most_inputs} w.net.inputs_fit)

-- ---- one bit inverted

-- the powers of two beside i: 2^n is 2^i, twice, so many times more
power-above : (i n : ℕ) → i < n → 2 ^ n ≡ 2 ^ (n - suc i) * 2 * 2 ^ i
power-above i n l =
    let apart : n ≡ n - suc i + suc i = omega arith in
    ap (λ (k : ℕ). 2 ^ k) apart ∙ omega (arith, pow-add 2 (n - suc i) (suc i), ap (λ (x : ℕ). 2 ^ (n - suc i) * x) (pow-suc 2 i))

-- a bit that is not set can be added
add-fits : (q p k : ℕ) → 0 < p → q / p % 2 ≡ 0 → q < k * 2 * p → q + p < k * 2 * p
add-fits q p k pos bit h =
    let x = q / p in
    let split : x * p + q % p ≡ q = div-add-mod' q p in
    let rest : q % p < p = mod-lt q pos in
    let low : x < k * 2 = (div-lt_iff_lt-mul pos).1 h in
    let room : x + 2 ≤ k * 2 = omega arith in
    omega (arith, mul-le-mul_right {m = x + 2} {n = k * 2} p room)

pub invert-fits : (q i n : ℕ) → i < n → q < 2 ^ n → invert_bit q i < 2 ^ n
unfolding invert_bit
invert-fits q i n l h = go (eqb (q / 2 ^ i % 2) 1) refl
  where
    go : (c : Bool) → eqb (q / 2 ^ i % 2) 1 ≡ c → cond c (q - 2 ^ i) (q + 2 ^ i) < 2 ^ n
    go true e = omega arith
    go false e =
        let unset : q / 2 ^ i % 2 ≡ 0 = omega (arith, eqb-false (q / 2 ^ i % 2) 1 e) in
        rw (power-above i n l) (add-fits q (2 ^ i) (2 ^ (n - suc i)) (pow_pos i) unset (rw (power-above i n l) at h))

-- a number's digits from i on give its bits above i
above : (q i s : ℕ) → i < s → q / 2 ^ s ≡ q / 2 ^ i / 2 / 2 ^ (s - suc i)
above q i s l =
    let k = 2 ^ (s - suc i) in
    let parts : 2 ^ s ≡ 2 ^ i * 2 * k = omega (arith, power-above i s l) in
    ap (λ (x : ℕ). q / x) parts ∙ sym (div-div-eq-div-mul q (2 ^ i * 2) k) ∙ ap (λ (x : ℕ). x / k) (sym (div-div-eq-div-mul q (2 ^ i) 2))

-- setting a bit that is not set changes no other
add-other : (q i s : ℕ) → q / 2 ^ i % 2 ≡ 0 → s ≢ i → (q + 2 ^ i) / 2 ^ s % 2 ≡ q / 2 ^ s % 2
add-other q i s unset other = by_cases (dec_lt s i) lower (λ no. higher (omega arith))
  where
    lower : s < i → (q + 2 ^ i) / 2 ^ s % 2 ≡ q / 2 ^ s % 2
    lower l =
        let k = 2 ^ (i - suc s) in
        ap (λ (x : ℕ). (q + x) / 2 ^ s % 2) (power-above s i l)
        ∙ ap (λ (x : ℕ). x % 2) (add-mul-div_right q (k * 2) (pow_pos s))
        ∙ add-mul-mod_self_right (q / 2 ^ s) k 2

    higher : i < s → (q + 2 ^ i) / 2 ^ s % 2 ≡ q / 2 ^ s % 2
    higher l =
        let one_more : (q + 2 ^ i) / 2 ^ i ≡ q / 2 ^ i + 1 = add-div_right q (pow_pos i) in
        let half : (q + 2 ^ i) / 2 ^ i / 2 ≡ q / 2 ^ i / 2 = omega arith in
        ap (λ (x : ℕ). x % 2) (above (q + 2 ^ i) i s l ∙ ap (λ (x : ℕ). x / 2 ^ (s - suc i)) half ∙ sym (above q i s l))

-- a bit that is set: what is left without it, where it is not set
taken : (q i : ℕ) → q / 2 ^ i % 2 ≡ 1 → (q - 2 ^ i + 2 ^ i ≡ q) × ((q - 2 ^ i) / 2 ^ i % 2 ≡ 0)
taken q i bit =
    let p = 2 ^ i in
    let r = q - p in
    let back : r + p ≡ q = omega (arith, bit_below q i bit) in
    let more : q / p ≡ r / p + 1 = ap (λ (x : ℕ). x / p) (sym back) ∙ add-div_right r (pow_pos i) in
    (back, omega arith)

-- inverting bit i changes no other bit
pub invert-other : (q i s : ℕ) → s ≢ i → invert_bit q i / 2 ^ s % 2 ≡ q / 2 ^ s % 2
unfolding invert_bit
invert-other q i s other = go (eqb (q / 2 ^ i % 2) 1) refl
  where
    go : (c : Bool) → eqb (q / 2 ^ i % 2) 1 ≡ c → cond c (q - 2 ^ i) (q + 2 ^ i) / 2 ^ s % 2 ≡ q / 2 ^ s % 2
    go true e =
        let t = taken q i (eqb-true (q / 2 ^ i % 2) 1 e) in
        sym (add-other (q - 2 ^ i) i s t.1 other) ∙ ap (λ (x : ℕ). x / 2 ^ s % 2) t.0
    go false e = add-other q i s (omega (arith, eqb-false (q / 2 ^ i % 2) 1 e)) other

-- and makes bit i the other one
pub invert-same : (q i : ℕ) → invert_bit q i / 2 ^ i % 2 ≡ 1 - q / 2 ^ i % 2
unfolding invert_bit
invert-same q i = go (eqb (q / 2 ^ i % 2) 1) refl
  where
    go : (c : Bool) → eqb (q / 2 ^ i % 2) 1 ≡ c → cond c (q - 2 ^ i) (q + 2 ^ i) / 2 ^ i % 2 ≡ 1 - q / 2 ^ i % 2
    go true e =
        let bit = eqb-true (q / 2 ^ i % 2) 1 e in
        omega (arith, (taken q i bit).1)
    go false e = omega (arith, eqb-false (q / 2 ^ i % 2) 1 e, add-div_right q (pow_pos i))
