-- The conversion of a chance to units, from its bit pattern: the digits, with the leading one, over a power of two, rounded by the rounding of the bench;
-- and the chance held to 0.5, by its bit pattern too. Assumes nothing.
use Prim.Native.Nat.{ℕ, zero, suc, ◌+◌, ◌-◌, ◌*◌, ◌/◌, ◌%◌, ◌^◌, ◌≤◌, ◌<◌}
use mathlib.Core.Path.{◌≡◌, refl, sym, ap, ◌∙◌, subst}
use mathlib.Core.Bool.{Bool, true, false, not, cond, false≢true}
use native.Mathlib.Nat.{le_of_lt, le_trans, lt_of_le_of_lt, mod-lt, mod-eq_of_lt, mul-one, mul_assoc, add_comm, mul-div_cancel, mul-le-mul}
use native.Mathlib.Nat.{mul-le-mul_left, mul-le-mul_right}
use native.Mathlib.Omega.{arith}
use borrow.Author.Tests.{leb-true, leb-false, le-leb, lt-leb, eqb-true}
use lib.Dec.{T, leb, eqb, lit<, lit≤}
use lib.Pow.{pow_pos, pow_mono, pow-add}
use lib.Ieee.{Float, nan, inf, binary64, hid, ones, top, odd, of_fields, of_bits, to_bits, fits}
use lib.Ieee.Bits.{of_bits-to_bits}
use lib.Ieee.Exact.{HasValue, odd_sign}
use lib.Ieee.Positive.{num, den, den_pos}
use Rattle.rounding.specs.Rounding.{units_in_one, round_div, to_units}
use Rattle.rounding.proofs.Laws.{at_most, below_half, same-fraction}
use Rattle.chance.specs.Number.{chance_scale, whole_chance, at_most_half, from_zero_to_one}
use Rattle.chance.proofs.Range.{same_test, field-test, fields-range, two_fields}
use Rattle.chance.proofs.Product.{cross}

-- ---- what an exponent's field and digits stand for, in 2^-1074

abbrev pub size : ℕ → ℕ → ℕ
size zero t = t
size (suc e) t = (hid binary64 + t) * 2 ^ e

no_number : (b s : Bool) → from_zero_to_one (cond b (inf s) nan) ≡ true → ⊥
unfolding from_zero_to_one
no_number true s h = false≢true h
no_number false s h = false≢true h

value : (s : Bool) (e t : ℕ) → from_zero_to_one (of_fields binary64 s e t) ≡ true → HasValue (of_fields binary64 s e t) s (size e t) (2 ^ 1074)
unfolding of_fields
value s zero t h = subst (λ (n : ℕ). HasValue (odd 53 s t 0 1074) s n (2 ^ 1074)) (mul-one t) (odd_sign 53 s t 0 1074)
value s (suc e) t h = go (eqb (suc e) (ones binary64)) h
  where
    number : Bool → Float
    number b = cond b (cond (eqb t 0) (inf s) nan) (odd 53 s (hid binary64 + t) e 1074)

    go : (b : Bool) → from_zero_to_one (number b) ≡ true → HasValue (number b) s ((hid binary64 + t) * 2 ^ e) (2 ^ 1074)
    go true n = absurd (no_number (eqb t 0) s n)
    go false n = odd_sign 53 s (hid binary64 + t) e 1074

whole : (x : Float) (s : Bool) (n : ℕ) → HasValue x s n (2 ^ 1074) → whole_chance (num x) (den x) ≡ n
unfolding whole_chance chance_scale
whole x s n v = ap (λ (z : ℕ). z / den x) (cross x s n (2 ^ 1074) v) ∙ mul-div_cancel n (den_pos x)

-- ---- in units

-- below 2^-31 there are none
tiny : (e t : ℕ) → t < hid binary64 → e < 992 → 2 * (size e t * 2 ^ 30) < 2 ^ 1074
tiny zero t l h = lt_of_le_of_lt (mul-le-mul_left 2 (mul-le-mul_right (2 ^ 30) (le_of_lt l))) (lit< tt)
tiny (suc e) t l h =
    let digits : hid binary64 + t ≤ 2 ^ 53 - 1 = omega arith in
    let power : 2 ^ e ≤ 2 ^ 990 = pow_mono {i = e} {j = 990} (omega arith) in
    lt_of_le_of_lt (mul-le-mul_left 2 (mul-le-mul_right (2 ^ 30) (mul-le-mul digits power))) (lit< tt)

-- m × 2^e of 2^-(e + j + k), in units of 2^-j
shifted : (m e j k : ℕ) → round_div (m * 2 ^ e * 2 ^ j) (2 ^ (e + j + k)) ≡ round_div m (2 ^ k)
shifted m e j k =
    same-fraction (m * 2 ^ e * 2 ^ j) (2 ^ (e + j + k)) m (2 ^ k) (pow_pos (e + j + k)) (pow_pos k)
    (ap (λ (z : ℕ). z * 2 ^ k) (mul_assoc m (2 ^ e) (2 ^ j))
    ∙ mul_assoc m (2 ^ e * 2 ^ j) (2 ^ k)
    ∙ ap (λ (z : ℕ). m * (z * 2 ^ k)) (sym (pow-add 2 e j))
    ∙ ap (λ (z : ℕ). m * z) (sym (pow-add 2 (e + j) k)))

from_fields : (e t : ℕ) → e ≤ 1022
    → round_div ((hid binary64 + t) * 2 ^ e * 2 ^ 30) (2 ^ 1074) ≡ round_div (hid binary64 + t) (2 ^ (1045 - suc e))
from_fields e t to =
    let all : e + 30 + (1045 - suc e) ≡ 1074 = omega arith in
    sym (ap (λ (z : ℕ). round_div ((hid binary64 + t) * 2 ^ e * 2 ^ 30) (2 ^ z)) all) ∙ shifted (hid binary64 + t) e 30 (1045 - suc e)

-- ---- held to 0.5

doubled : (a b : ℕ) → leb (2 * a) (2 * b) ≡ leb a b
doubled a b =
    same_test (leb (2 * a) (2 * b)) (leb a b)
    (λ t. le-leb a b (omega (arith, leb-true (2 * a) (2 * b) t)))
    (λ t. le-leb (2 * a) (2 * b) (omega (arith, leb-true a b t)))

-- the exponent's field and the digits, as one number, rise with what they stand for
by-fields : (e t : ℕ) → t < hid binary64 → leb (2 * size e t) (2 ^ 1074) ≡ leb (e * hid binary64 + t) (1022 * hid binary64)
by-fields zero t l =
    le-leb (2 * t) (2 ^ 1074) (le_trans (mul-le-mul_left 2 (le_of_lt l)) (lit≤ tt))
    ∙ sym (le-leb (0 * hid binary64 + t) (1022 * hid binary64) (omega arith))
by-fields (suc e) t l = doubled ((hid binary64 + t) * 2 ^ e) (2 ^ 1073) ∙ field-test (hid binary64) 1022 e t l (lit< tt)

-- ---- a chance

module _ (x : Float) (held : T (fits binary64 x)) (h : from_zero_to_one x ≡ true) where
  abbrev pub bits : ℕ
  bits = to_bits binary64 x

  -- its exponent's field and its digits
  abbrev pub exponent : ℕ
  exponent = bits % top binary64 / hid binary64

  abbrev pub digits : ℕ
  digits = bits % hid binary64

  abbrev sign : Bool
  sign = leb (top binary64) bits

  few : digits < hid binary64
  few = mod-lt bits (pow_pos 52)

  is : of_fields binary64 sign exponent digits ≡ x
  unfolding of_bits
  is = of_bits-to_bits binary64 x held

  range : from_zero_to_one (of_fields binary64 sign exponent digits) ≡ true
  range = ap from_zero_to_one is ∙ h

  -- what the pattern of a chance says without its sign
  pattern-range : cond sign (eqb (exponent * hid binary64 + digits) 0) (leb (exponent * hid binary64 + digits) (1023 * hid binary64)) ≡ true
  pattern-range = sym (fields-range binary64 sign exponent digits few) ∙ range

  pub at_most_one : exponent ≤ 1023
  at_most_one = go sign pattern-range
    where
      go : (s : Bool) → cond s (eqb (exponent * hid binary64 + digits) 0) (leb (exponent * hid binary64 + digits) (1023 * hid binary64)) ≡ true
          → exponent ≤ 1023
      go true r = omega (arith, eqb-true (exponent * hid binary64 + digits) 0 r)
      go false r = omega (arith, leb-true (exponent * hid binary64 + digits) (1023 * hid binary64) r)

  whole_is : whole_chance (num x) (den x) ≡ size exponent digits
  whole_is =
      whole x sign (size exponent digits)
      (subst (λ (y : Float). HasValue y sign (size exponent digits) (2 ^ 1074)) is (value sign exponent digits range))

  in-units : to_units units_in_one chance_scale (whole_chance (num x) (den x)) ≡ round_div (size exponent digits * 2 ^ 30) (2 ^ 1074)
  unfolding to_units chance_scale
  in-units = ap (λ (n : ℕ). round_div (n * 2 ^ 30) (2 ^ 1074)) whole_is

  pub none : exponent < 992 → 0 ≡ to_units units_in_one chance_scale (whole_chance (num x) (den x))
  none below = sym (in-units ∙ below_half (size exponent digits * 2 ^ 30) (2 ^ 1074) (pow_pos 1074) (tiny exponent digits few below))

  pub some : 0 < exponent → round_div (digits + hid binary64) (2 ^ (1045 - exponent)) ≡ to_units units_in_one chance_scale (whole_chance (num x) (den x))
  some p = go exponent refl ∙ sym in-units
    where
      go : (e : ℕ) → exponent ≡ e → round_div (digits + hid binary64) (2 ^ (1045 - e)) ≡ round_div (size e digits * 2 ^ 30) (2 ^ 1074)
      go zero q = absurd (omega arith)
      go (suc e) q =
          ap (λ (m : ℕ). round_div m (2 ^ (1045 - suc e))) (add_comm digits (hid binary64)) ∙ sym (from_fields e digits (omega (arith, at_most_one)))

  -- 32 bits hold them
  pub room : round_div (digits + hid binary64) (2 ^ (1045 - exponent)) ≤ 2 ^ 31
  room =
      let power : 2 ^ 22 ≤ 2 ^ (1045 - exponent) = pow_mono {i = 22} {j = 1045 - exponent} (omega (arith, at_most_one)) in
      at_most (digits + hid binary64) (2 ^ (1045 - exponent)) (pow_pos (1045 - exponent)) (2 ^ 31) (omega (arith, power, few))

  -- at most 0.5 exactly where the pattern without its sign is at most that of 0.5
  low : at_most_half (whole_chance (num x) (den x)) ≡ leb (bits % top binary64) 0x3fe0_0000_0000_0000
  unfolding at_most_half chance_scale
  low =
      ap (λ (n : ℕ). leb (2 * n) (2 ^ 1074)) whole_is
      ∙ by-fields exponent digits few
      ∙ ap (λ (z : ℕ). leb z (1022 * hid binary64)) (two_fields binary64 bits)

  low_of : (z : ℕ) → bits % top binary64 ≡ z → at_most_half (whole_chance (num x) (den x)) ≡ leb z 0x3fe0_0000_0000_0000
  low_of z e = low ∙ ap (λ (n : ℕ). leb n 0x3fe0_0000_0000_0000) e

  -- by the pattern itself: up to that of 0.5; past it up to that of 1; and past that, where of chances only minus zero's is
  pub low-within : bits ≤ 0x3fe0_0000_0000_0000 → at_most_half (whole_chance (num x) (den x)) ≡ true
  low-within l = low_of bits (mod-eq_of_lt (omega arith)) ∙ le-leb bits 0x3fe0_0000_0000_0000 l

  low-between : 0x3fe0_0000_0000_0000 < bits → bits ≤ 0x3ff0_0000_0000_0000 → at_most_half (whole_chance (num x) (den x)) ≡ false
  low-between l m = low_of bits (mod-eq_of_lt (omega arith)) ∙ lt-leb bits 0x3fe0_0000_0000_0000 l

  low-beyond : 0x3ff0_0000_0000_0000 < bits → at_most_half (whole_chance (num x) (den x)) ≡ true
  low-beyond m = low_of 0 (sym (two_fields binary64 bits) ∙ go sign refl pattern-range)
    where
      go : (s : Bool) → sign ≡ s
          → cond s (eqb (exponent * hid binary64 + digits) 0) (leb (exponent * hid binary64 + digits) (1023 * hid binary64)) ≡ true
          → exponent * hid binary64 + digits ≡ 0
      go true q r = eqb-true (exponent * hid binary64 + digits) 0 r
      go false q r =
          let unsigned : bits % top binary64 ≡ bits = mod-eq_of_lt (leb-false (top binary64) bits q) in
          let up_to : exponent * hid binary64 + digits ≤ 1023 * hid binary64 = leb-true (exponent * hid binary64 + digits) (1023 * hid binary64) r in
          absurd (omega (arith, two_fields binary64 bits, unsigned, up_to))

  pub low-past : 0x3fe0_0000_0000_0000 < bits → leb bits 0x3ff0_0000_0000_0000 ≡ not (at_most_half (whole_chance (num x) (den x)))
  low-past l = go (leb bits 0x3ff0_0000_0000_0000) refl
    where
      go : (b : Bool) → leb bits 0x3ff0_0000_0000_0000 ≡ b → b ≡ not (at_most_half (whole_chance (num x) (den x)))
      go true e = sym (ap not (low-between l (leb-true bits 0x3ff0_0000_0000_0000 e)))
      go false e = sym (ap not (low-beyond (leb-false bits 0x3ff0_0000_0000_0000 e)))
