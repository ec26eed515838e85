-- A flip written from its units is read back. Assumes nothing.
use Prim.Native.Nat.{ℕ, zero, suc, ◌+◌, ◌-◌, ◌*◌, ◌/◌, ◌%◌, ◌^◌, ◌≤◌, ◌<◌}
use mathlib.Core.Path.{◌≡◌, refl, sym, ap, ◌∙◌, subst}
use mathlib.Core.Bool.{Bool, true, false}
use native.Mathlib.Nat.{zero-lt-suc, le_trans, le_of_eq, lt_of_lt_of_le, mul_assoc, mul_right_comm, zero-mul, mod-eq_of_lt, mod-lt}
use native.Mathlib.Nat.{eq_of_mul-eq-mul_right, mul-le-mul_right, mul-lt-mul_of_pos_right}
use native.Mathlib.Omega.{arith}
use borrow.Author.Tests.{le-leb, lt-leb, ne_eqb, leb-true, leb-false}
use lib.Dec.{leb, eqb}
use lib.Count.{count_leading_zeros, leading_top}
use lib.Pow.{pow_pos, pow_mono, pow-add, high, low}
use lib.Ieee.{Float, nan, inf, fin, binary64, hid, top, ones, of_fields, of_bits, up, down}
use lib.Ieee.Exact.{HasValue, odd_sign}
use lib.Ieee.Digits.{Equals}
use lib.Ieee.Fits.{down_pos}
use Rattle.rounding.specs.Rounding.{units_in_one, units_in_half, round_div, to_units}
use Rattle.rounding.proofs.Laws.{no-units, exact}
use Rattle.chance.specs.Number.{chance_scale, at_most_half, from_zero_to_one}
use Rattle.chance.specs.Flip.{whole_field, in_range, flip_of, flip_accepted, chance_of, flip_chance, flip_units}
use Rattle.chance.proofs.Range.{range-of-value}
use Rattle.chance.proofs.Exact.{scale-pos}
use Rattle.chance.proofs.Laws.{plain-exact}
use Rattle.flips.specs.Written.{highest_bit, leading_one, shifted_up, units_bits, low_bytes, units_kind, units_field}
use Rattle.flips.specs.Statements.{ReadBack, UnitsReadBack}

-- ---- bytes

parted : (x : ℕ) → x ≡ x % 256 + 256 * (x / 256)
parted x = omega arith

eight : (x a b c d e f g r₀ r₁ r₂ r₃ r₄ r₅ r₆ r₇ : ℕ) → x ≡ r₀ + 256 * a → a ≡ r₁ + 256 * b → b ≡ r₂ + 256 * c → c ≡ r₃ + 256 * d
    → d ≡ r₄ + 256 * e → e ≡ r₅ + 256 * f → f ≡ r₆ + 256 * g → g ≡ r₇
    → r₀ + 256 * r₁ + 65_536 * r₂ + 16_777_216 * r₃ + 4_294_967_296 * (r₄ + 256 * r₅ + 65_536 * r₆ + 16_777_216 * r₇) ≡ x
eight x a b c d e f g r₀ r₁ r₂ r₃ r₄ r₅ r₆ r₇ p₀ p₁ p₂ p₃ p₄ p₅ p₆ p₇ = omega arith

-- eight bytes hold a number of 64 bits
pub bytes-again : (x : ℕ) → x < 2 ^ 64 → whole_field (low_bytes 8 x) ≡ x
bytes-again x h =
    let a = x / 256 in
    let b = a / 256 in
    let c = b / 256 in
    let d = c / 256 in
    let e = d / 256 in
    let f = e / 256 in
    let g = f / 256 in
    let last : g < 256 = omega arith in
    eight x a b c d e f g (x % 256) (a % 256) (b % 256) (c % 256) (d % 256) (e % 256) (f % 256) (g % 256)
    (parted x) (parted a) (parted b) (parted c) (parted d) (parted e) (parted f) (sym (mod-eq_of_lt last))

-- ---- fractions

-- a float that is a / c is every a' / c' that is the same fraction
pub other-fraction : (x : Float) (s : Bool) (a c b d : ℕ) → 0 < c → a * d ≡ b * c → HasValue x s a c → HasValue x s b d
other-fraction nan s a c b d C e v = absurd v
other-fraction (inf t) s a c b d C e v = absurd v
other-fraction (fin t m g) s a c b d C e v = (v.0, go (m * up g) (down g) v.1)
  where
    go : (p q : ℕ) → p * c ≡ a * q → p * d ≡ b * q
    go p q w =
        eq_of_mul-eq-mul_right c C (p * d) (b * q)
        (mul_right_comm p d c ∙ ap (λ (z : ℕ). z * d) w ∙ mul_right_comm a q d ∙ ap (λ (z : ℕ). z * q) e ∙ mul_right_comm b c q)

-- two fractions of one float are equal
pub same-value : (x : Float) (s : Bool) (a c b d : ℕ) → HasValue x s a c → Equals x b d → b * c ≡ a * d
same-value nan s a c b d v w = absurd v
same-value (inf t) s a c b d v w = absurd v
same-value (fin t m g) s a c b d v w = go (m * up g) (down g) (down_pos g) v.1 w
  where
    go : (p q : ℕ) → 0 < q → p * c ≡ a * q → p * d ≡ b * q → b * c ≡ a * d
    go p q Q e f =
        eq_of_mul-eq-mul_right q Q (b * c) (a * d)
        (mul_right_comm b c q ∙ ap (λ (z : ℕ). z * c) (sym f) ∙ mul_right_comm p d c ∙ ap (λ (z : ℕ). z * d) e ∙ mul_right_comm a q d)

-- ---- the bits of a number above 0

-- two powers of two whose exponents make up n
powers : (i k n : ℕ) → i + k ≡ n → 2 ^ i * 2 ^ k ≡ 2 ^ n
powers i k n e = sym (pow-add 2 i k) ∙ ap (λ (z : ℕ). 2 ^ z) e

module _ (u : ℕ) (some : 0 < u) (most : u ≤ units_in_one) where
  found : (j : ℕ) × (count_leading_zeros 32 u + suc j ≡ 32) × (2 ^ j ≤ u) × (u < 2 ^ suc j)
  found = leading_top 32 u some (omega arith)

  highest-is : highest_bit u ≡ found.0
  unfolding highest_bit
  highest-is = omega (arith, found.1)

  reaches : 2 ^ highest_bit u ≤ u
  reaches = subst (λ (h : ℕ). 2 ^ h ≤ u) (sym highest-is) found.2

  pub leading-few : count_leading_zeros 32 u ≤ 31
  leading-few = omega (arith, found.1)

  pub highest-most : highest_bit u ≤ 30
  highest-most = go (leb 31 (highest_bit u)) refl
    where
      go : (b : Bool) → leb 31 (highest_bit u) ≡ b → highest_bit u ≤ 30
      go true e = absurd (omega (arith, most, reaches, pow_mono {i = 31} {j = highest_bit u} (leb-true 31 (highest_bit u) e)))
      go false e = omega (arith, leb-false 31 (highest_bit u) e)

  -- shifted up, the highest bit is the leading one
  pub shifted-low : leading_one ≤ shifted_up u
  unfolding shifted_up
  shifted-low =
      le_trans (le_of_eq (sym (powers (highest_bit u) (52 - highest_bit u) 52 (omega (arith, highest-most)))))
      (mul-le-mul_right (2 ^ (52 - highest_bit u)) reaches)

  pub shifted-high : shifted_up u < 2 ^ 53
  unfolding shifted_up
  shifted-high =
      lt_of_lt_of_le
      (mul-lt-mul_of_pos_right (subst (λ (h : ℕ). u < 2 ^ suc h) (sym highest-is) found.3) (pow_pos (52 - highest_bit u)))
      (le_of_eq (powers (suc (highest_bit u)) (52 - highest_bit u) 53 (omega (arith, highest-most))))

  abbrev field : ℕ
  field = highest_bit u + 993

  abbrev digits : ℕ
  digits = shifted_up u % leading_one

  pub bits_are : units_bits u ≡ (highest_bit u + 993) * leading_one + shifted_up u % leading_one
  unfolding units_bits
  bits_are = go u some
    where
      go : (v : ℕ) → 0 < v → units_bits v ≡ (highest_bit v + 993) * leading_one + shifted_up v % leading_one
      go zero h = absurd (omega arith)
      go (suc v) h = refl

  -- shifted by the leading zeros, from the bits of 1 on
  pub shifted-is : u * 2 ^ 21 * 2 ^ count_leading_zeros 32 u ≡ shifted_up u
  unfolding highest_bit shifted_up
  shifted-is =
      mul_assoc u (2 ^ 21) (2 ^ count_leading_zeros 32 u)
      ∙ ap (λ (z : ℕ). u * z) (powers 21 (count_leading_zeros 32 u) (52 - (31 - count_leading_zeros 32 u)) (omega (arith, leading-few)))

  pub bits-made : units_bits u ≡ 1023 * leading_one - count_leading_zeros 32 u * leading_one + shifted_up u
  unfolding highest_bit
  bits-made = bits_are ∙ omega (arith, leading-few, shifted-low, shifted-high)

  few : digits < leading_one
  few = mod-lt (shifted_up u) (pow_pos 52)

  together : leading_one + digits ≡ shifted_up u
  together = omega (arith, shifted-low, shifted-high)

  pub bits_small : units_bits u < 2 ^ 63
  bits_small = omega (arith, bits_are, few, highest-most)

  fields : of_bits binary64 (units_bits u) ≡ of_fields binary64 false field digits
  unfolding of_bits
  fields =
      let b = units_bits u in
      let sign : leb (top binary64) b ≡ false = lt-leb (top binary64) b bits_small in
      let below : b % top binary64 ≡ b = mod-eq_of_lt bits_small in
      let upper : b / hid binary64 ≡ field = ap (λ (z : ℕ). z / hid binary64) bits_are ∙ high field 52 few in
      let lower : b % hid binary64 ≡ digits = ap (λ (z : ℕ). z % hid binary64) bits_are ∙ low field 52 few in
      rw (sign, below, upper, lower)

  finite : HasValue (of_fields binary64 false field digits) false ((leading_one + digits) * 2 ^ (highest_bit u + 992)) (2 ^ 1074)
  unfolding of_fields
  finite = go field (omega arith)
    where
      go : (e : ℕ) → e ≡ suc (highest_bit u + 992)
          → HasValue (of_fields binary64 false e digits) false ((leading_one + digits) * 2 ^ (highest_bit u + 992)) (2 ^ 1074)
      go zero e = absurd (omega arith)
      go (suc e) q =
          let less : eqb (suc e) (ones binary64) ≡ false = ne_eqb (suc e) (ones binary64) (λ same. omega (arith, highest-most)) in
          let same : e ≡ highest_bit u + 992 = omega arith in
          rw (less, same) (odd_sign 53 false (leading_one + digits) (highest_bit u + 992) 1074)

  as-fraction : (leading_one + digits) * 2 ^ (highest_bit u + 992) * units_in_one ≡ u * 2 ^ 1074
  unfolding shifted_up
  as-fraction =
      let h = highest_bit u in
      ap (λ (z : ℕ). z * 2 ^ (h + 992) * 2 ^ 30) together
      ∙ ap (λ (z : ℕ). z * 2 ^ 30)
      (mul_assoc u (2 ^ (52 - h)) (2 ^ (h + 992)) ∙ ap (λ (z : ℕ). u * z) (powers (52 - h) (h + 992) 1044 (omega (arith, highest-most))))
      ∙ mul_assoc u (2 ^ 1044) (2 ^ 30)
      ∙ ap (λ (z : ℕ). u * z) (powers 1044 30 1074 refl)

  pub bits-value : HasValue (of_bits binary64 (units_bits u)) false u units_in_one
  bits-value =
      subst (λ (x : Float). HasValue x false u units_in_one) (sym fields)
      (other-fraction (of_fields binary64 false field digits) false ((leading_one + digits) * 2 ^ (highest_bit u + 992)) (2 ^ 1074) u units_in_one (pow_pos 1074)
      as-fraction finite)

  whole-field : whole_field (units_field u) ≡ units_bits u
  whole-field = bytes-again (units_bits u) (omega (arith, bits_small))

  plain-accepted : flip_accepted 1 (units_field u) ≡ true
  unfolding flip_accepted in_range
  plain-accepted =
      ap (λ (b : ℕ). from_zero_to_one (of_bits binary64 b)) whole-field
      ∙ range-of-value (of_bits binary64 (units_bits u)) u units_in_one (omega arith) bits-value
      ∙ le-leb u units_in_one most

  plain-chance : flip_chance 1 (units_field u) * units_in_one ≡ u * chance_scale
  plain-chance =
      same-value (of_bits binary64 (units_bits u)) false u units_in_one (flip_chance 1 (units_field u)) chance_scale bits-value
      (subst (λ (b : ℕ). Equals (of_bits binary64 b) (flip_chance 1 (units_field u)) chance_scale) whole-field (plain-exact (units_field u) plain-accepted))

  plain-again : flip_units 1 (units_field u) ≡ u
  unfolding flip_units to_units
  plain-again = ap (λ (z : ℕ). round_div z chance_scale) plain-chance ∙ exact u chance_scale scale-pos

-- ---- every number of units

-- a chance that is so many units exactly, and these at most U / 2
low-chance : (chance units : ℕ) → chance * units_in_one ≡ units * chance_scale → units ≤ units_in_half → at_most_half chance ≡ true
unfolding at_most_half
low-chance chance units e h =
    let most : units * chance_scale ≤ units_in_half * chance_scale = mul-le-mul_right chance_scale h in
    le-leb (2 * chance) chance_scale (omega arith)

pub units-read-back : UnitsReadBack
unfolding units_kind
units-read-back zero most = none
  where
    accepted : flip_accepted 0 (units_field 0) ≡ true
    accepted = unfold flip_accepted in unfold units_bits in refl

    chance : flip_chance 0 (units_field 0) ≡ 0
    chance = unfold flip_chance in unfold flip_of in unfold chance_of in refl

    exact_none : flip_chance 0 (units_field 0) * units_in_one ≡ 0 * chance_scale
    exact_none = ap (λ (z : ℕ). z * units_in_one) chance ∙ sym (zero-mul chance_scale)

    none : ReadBack 0
    none =
        record {
          value = unfold of_bits in unfold units_bits in (refl, refl);
          accepted = accepted;
          exact = exact_none;
          again = unfold flip_units in ap (to_units units_in_one chance_scale) chance ∙ no-units units_in_one chance_scale scale-pos;
          low = low-chance (flip_chance 0 (units_field 0)) 0 exact_none;
        }
units-read-back (suc u) most =
    let some : 0 < suc u = zero-lt-suc u in
    record {
      value = bits-value (suc u) some most;
      accepted = plain-accepted (suc u) some most;
      exact = plain-chance (suc u) some most;
      again = plain-again (suc u) some most;
      low = low-chance (flip_chance 1 (units_field (suc u))) (suc u) (plain-chance (suc u) some most);
    }
