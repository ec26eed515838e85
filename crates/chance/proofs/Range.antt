-- Which floats are chances: by the fraction that a float equals, and by its bit pattern, once for both formats. Assumes nothing.
use Prim.Native.Nat.{ℕ, zero, suc, ◌+◌, ◌-◌, ◌*◌, ◌/◌, ◌%◌, ◌^◌, ◌≤◌, ◌<◌, zero-le}
use mathlib.Core.Path.{◌≡◌, refl, sym, ap, ◌∙◌, subst}
use mathlib.Core.Logic.{◌⊎◌, inl, inr}
use mathlib.Core.Bool.{Bool, true, false, not, cond, ◌&&◌, ◌||◌, true≢false, false≢true}
use native.Mathlib.Nat.{le_trans, le_of_eq, le_of_lt, lt_irrefl, lt_of_lt_of_le, lt_of_le_of_lt, eq-or-lt_of_le, zero-lt-suc, zero-mul, one-mul, mul-one}
use native.Mathlib.Nat.{mul_comm, mul_assoc, mul-pos, mul-le-mul_left, mul-le-mul_right, le_of_mul-le-mul_right, mul-lt-mul_of_pos_right, zero-add, add-zero}
use native.Mathlib.Nat.{le_of_suc-le-suc, le-add_right, pow-succ', lt_of_mul-lt-mul_right, mul-lt-mul_of_pos_left, div-add-mod', mod-lt, mod-eq_of_lt}
use native.Mathlib.Nat.{mod-eq-sub-mod, mod-mod_of_dvd, dvd-mul_right}
use native.Mathlib.Omega.{arith}
use borrow.Author.Tests.{lt-ltb, le-leb, lt-leb, eq-eqb, ne_eqb, leb-true, leb-false, eqb-true, ltb-true}
use lib.Dec.{T, leb, ltb, eqb, lit≤}
use lib.Pow.{pow_pos, pow_mono, pow-lt}
use lib.IntN.{pos}
use lib.Ieee.{Float, nan, inf, fin, Format, binary32, binary64, prec, emax, low, hid, ones, top, up, down, odd, of_fields, of_bits, le, level, is_nan, nan_bits}
use lib.Ieee.Fits.{up_pos, down_pos}
use lib.Ieee.Exact.{HasValue, odd_sign}
use lib.Ieee.Order.{le_of_values}
use lib.Ieee.Scale.{finite}
use lib.Ieee.Bits.{is_true, nan_bits_is}
use Rattle.chance.specs.Number.{from_zero_to_one, chance_bits}

-- two tests that follow from each other are equal
pub same_test : (a b : Bool) → (a ≡ true → b ≡ true) → (b ≡ true → a ≡ true) → a ≡ b
same_test true b p q = sym (p refl)
same_test false true p q = q refl
same_test false false p q = refl

-- ---- by a fraction

-- x / d is a / c, and at most 1: so is a / c
pub at_most_one : (x d a c : ℕ) → 0 < d → x * c ≡ a * d → x ≤ d → a ≤ c
at_most_one x d a c D e h =
    le_of_mul-le-mul_right (le_trans (le_of_eq (sym e)) (le_trans (mul-le-mul_right c h) (le_of_eq (mul_comm d c)))) D

-- a product is 0 only where the first factor is, the second being above 0
pub no-factor : (a b : ℕ) → 0 < b → a * b ≡ 0 → a ≡ 0
no-factor zero b B e = refl
no-factor (suc a) b B e = absurd (lt_irrefl 0 (subst (λ (z : ℕ). 0 < z) e (mul-pos (zero-lt-suc a) B)))

pub range-of-value : (x : Float) (a c : ℕ) → 0 < c → HasValue x false a c → from_zero_to_one x ≡ leb a c
unfolding from_zero_to_one
range-of-value nan a c C v = absurd v
range-of-value (inf s) a c C v = absurd v
range-of-value (fin true m e) a c C v = absurd (true≢false v.0)
range-of-value (fin false m e) a c C v =
    same_test (leb (m * up e) (down e)) (leb a c)
    (λ t. le-leb a c (at_most_one (m * up e) (down e) a c (down_pos e) v.1 (leb-true (m * up e) (down e) t)))
    (λ t. le-leb (m * up e) (down e) (at_most_one a c (m * up e) (down e) C (sym v.1) (leb-true a c t)))

pub range-of-minus : (x : Float) (a c : ℕ) → 0 < c → HasValue x true a c → from_zero_to_one x ≡ eqb a 0
unfolding from_zero_to_one
range-of-minus nan a c C v = absurd v
range-of-minus (inf s) a c C v = absurd v
range-of-minus (fin false m e) a c C v = absurd (false≢true v.0)
range-of-minus (fin true m e) a c C v =
    same_test (eqb m 0) (eqb a 0)
    (λ t. eq-eqb a 0 (no-factor a (down e) (down_pos e) (sym v.1 ∙ ap (λ (z : ℕ). z * up e * c) (eqb-true m 0 t) ∙ simp zero-mul)))
    (λ t.
    eq-eqb m 0 (no-factor m (up e) (up_pos e) (no-factor (m * up e) c C (v.1 ∙ ap (λ (z : ℕ). z * down e) (eqb-true a 0 t) ∙ zero-mul (down e)))))

-- ---- by the fields of a pattern

-- an exponent's field of suc x with digits t below h is the number (h + t) × 2^x of units, of which h × 2^(e - 1) make 1
module _ (h e x t : ℕ) (digits : t < h) where
  field_in : suc x * h + t ≤ e * h → (h + t) * 2 ^ x ≤ h * 2 ^ (e - 1)
  field_in le = go (eq-or-lt_of_le up_to)
    where
      up_to : suc x ≤ e
      up_to = le_of_mul-le-mul_right {k = h} (omega arith) (omega arith)

      go : (suc x ≡ e) ⊎ (suc x < e) → (h + t) * 2 ^ x ≤ h * 2 ^ (e - 1)
      go (inl same) =
          let none : t ≡ 0 = omega (arith, ap (λ (z : ℕ). z * h) same) in
          let last : x ≡ e - 1 = omega arith in
          le_of_eq (ap (λ (z : ℕ). (h + z) * 2 ^ x) none ∙ ap (λ (z : ℕ). z * 2 ^ x) (add-zero h) ∙ ap (λ (z : ℕ). h * 2 ^ z) last)
      go (inr less) =
          let room : suc x ≤ e - 1 = omega arith in
          le_trans (mul-le-mul_right {m = h + t} {n = h * 2} (2 ^ x) (omega arith))
          (le_trans (le_of_eq (mul_assoc h 2 (2 ^ x) ∙ ap (λ (z : ℕ). h * z) (sym (pow-succ' 2 x)))) (mul-le-mul_left h (pow_mono room)))

  field_out : 0 < e → e * h < suc x * h + t → h * 2 ^ (e - 1) < (h + t) * 2 ^ x
  field_out some gt = go (eq-or-lt_of_le from)
    where
      from : e ≤ suc x
      from = le_of_suc-le-suc (lt_of_mul-lt-mul_right h {m = e} {n = suc (suc x)} (omega arith))

      go : (e ≡ suc x) ⊎ (e < suc x) → h * 2 ^ (e - 1) < (h + t) * 2 ^ x
      go (inl same) =
          let last : e - 1 ≡ x = omega arith in
          let more : h < h + t = omega (arith, ap (λ (z : ℕ). z * h) same) in
          subst (λ (z : ℕ). h * 2 ^ z < (h + t) * 2 ^ x) (sym last) (mul-lt-mul_of_pos_right more (pow_pos x))
      go (inr more) =
          let less : e - 1 < x = omega arith in
          lt_of_lt_of_le (mul-lt-mul_of_pos_left (pow-lt less) (lt_of_le_of_lt zero-le digits)) (mul-le-mul_right (2 ^ x) (le-add_right h t))

  pub field-test : 0 < e → leb ((h + t) * 2 ^ x) (h * 2 ^ (e - 1)) ≡ leb (suc x * h + t) (e * h)
  field-test some =
      same_test (leb ((h + t) * 2 ^ x) (h * 2 ^ (e - 1))) (leb (suc x * h + t) (e * h))
      (λ t'. go (leb (suc x * h + t) (e * h)) refl t')
      (λ t'. le-leb ((h + t) * 2 ^ x) (h * 2 ^ (e - 1)) (field_in (leb-true (suc x * h + t) (e * h) t')))
    where
      go : (b : Bool) → leb (suc x * h + t) (e * h) ≡ b → leb ((h + t) * 2 ^ x) (h * 2 ^ (e - 1)) ≡ true → b ≡ true
      go true p q = refl
      go false p q = sym (lt-leb ((h + t) * 2 ^ x) (h * 2 ^ (e - 1)) (field_out some (leb-false (suc x * h + t) (e * h) p))) ∙ q

-- of a format: 1 is hid × 2^(emax - 1) of its smallest values, and no digits alone reach 1
unit : (f : Format) → 2 ^ low f ≡ hid f * 2 ^ (emax f - 1)
unit binary32 = refl
unit binary64 = refl

emax-pos : (f : Format) → 0 < emax f
emax-pos binary32 = lit≤ tt
emax-pos binary64 = lit≤ tt

hid-low : (f : Format) → hid f ≤ 2 ^ low f
hid-low binary32 = lit≤ tt
hid-low binary64 = lit≤ tt

no_number : (b s : Bool) → from_zero_to_one (cond b (inf s) nan) ≡ false
unfolding from_zero_to_one
no_number true s = refl
no_number false s = refl

above_zero : (h x t : ℕ) → 0 < h → suc x * h + t ≡ 0 → ⊥
above_zero h x t H e = omega (arith, mul-pos (zero-lt-suc x) H)

pub fields-range : (f : Format) (s : Bool) (x t : ℕ) → t < hid f
    → from_zero_to_one (of_fields f s x t) ≡ cond s (eqb (x * hid f + t) 0) (leb (x * hid f + t) (emax f * hid f))
unfolding of_fields
fields-range f true zero t d =
    range-of-minus (odd (prec f) true t 0 (low f)) (t * 2 ^ 0) (2 ^ low f) (pow_pos (low f)) (odd_sign (prec f) true t 0 (low f))
    ∙ ap (λ (z : ℕ). eqb z 0) (digits-alone (hid f))
  where
    digits-alone : (h : ℕ) → t * 2 ^ 0 ≡ 0 * h + t
    digits-alone h = mul-one t ∙ sym (ap (λ (z : ℕ). z + t) (zero-mul h) ∙ zero-add t)
fields-range f false zero t d =
    range-of-value (odd (prec f) false t 0 (low f)) (t * 2 ^ 0) (2 ^ low f) (pow_pos (low f)) (odd_sign (prec f) false t 0 (low f))
    ∙ le-leb (t * 2 ^ 0) (2 ^ low f) (le_trans (le_of_eq (mul-one t)) (le_trans (le_of_lt d) (hid-low f)))
    ∙ sym (le-leb (zero * hid f + t) (emax f * hid f) (low-digits (hid f) (emax f) (emax-pos f) d))
  where
    low-digits : (h e : ℕ) → 0 < e → t < h → 0 * h + t ≤ e * h
    low-digits h e E l = omega (arith, mul-le-mul_right h E)
fields-range f true (suc x) t d = go (eqb (suc x) (ones f))
  where
    none : eqb (suc x * hid f + t) 0 ≡ false
    none = ne_eqb (suc x * hid f + t) 0 (above_zero (hid f) x t (pow_pos (prec f - 1)))

    some : (hid f + t) * 2 ^ x ≡ 0 → ⊥
    some e = above_zero (hid f) 0 t (pow_pos (prec f - 1)) (ap (λ (z : ℕ). z + t) (one-mul (hid f)) ∙ no-factor (hid f + t) (2 ^ x) (pow_pos x) e)

    go : (b : Bool) → from_zero_to_one (cond b (cond (eqb t 0) (inf true) nan) (odd (prec f) true (hid f + t) x (low f))) ≡ eqb (suc x * hid f + t) 0
    go true = no_number (eqb t 0) true ∙ sym none
    go false =
        range-of-minus (odd (prec f) true (hid f + t) x (low f)) ((hid f + t) * 2 ^ x) (2 ^ low f) (pow_pos (low f))
        (odd_sign (prec f) true (hid f + t) x (low f))
        ∙ ne_eqb ((hid f + t) * 2 ^ x) 0 some
        ∙ sym none
fields-range f false (suc x) t d = go (eqb (suc x) (ones f)) (eqb-true (suc x) (ones f))
  where
    past : (h e : ℕ) → 0 < h → suc x ≡ 2 * e + 1 → e * h < suc x * h + t
    past h e H same = omega (arith, ap (λ (z : ℕ). z * h) same)

    go : (b : Bool) → (b ≡ true → suc x ≡ ones f)
        → from_zero_to_one (cond b (cond (eqb t 0) (inf false) nan) (odd (prec f) false (hid f + t) x (low f))) ≡ leb (suc x * hid f + t) (emax f * hid f)
    go true last =
        no_number (eqb t 0) false
        ∙ sym (lt-leb (suc x * hid f + t) (emax f * hid f) (past (hid f) (emax f) (pow_pos (prec f - 1)) (last refl)))
    go false last =
        range-of-value (odd (prec f) false (hid f + t) x (low f)) ((hid f + t) * 2 ^ x) (2 ^ low f) (pow_pos (low f))
        (odd_sign (prec f) false (hid f + t) x (low f))
        ∙ ap (leb ((hid f + t) * 2 ^ x)) (unit f)
        ∙ field-test (hid f) (emax f) x t d (emax-pos f)

-- ---- by a whole pattern

-- the exponent's field and the digits make up the pattern without its sign
pub two_fields : (f : Format) (b : ℕ) → b % top f / hid f * hid f + b % hid f ≡ b % top f
two_fields f b =
    ap (λ (y : ℕ). b % top f / hid f * hid f + y) (sym (mod-mod_of_dvd (hid f) b (dvd-mul_right (hid f) (suc (ones f)))))
    ∙ div-add-mod' (b % top f) (hid f)

or-false : (a b : Bool) → b ≡ false → a ≡ (a || b)
or-false true b e = refl
or-false false b e = sym e

by_sign : (sign one b : ℕ) → one < sign → b < 2 * sign
    → cond (leb sign b) (eqb (b % sign) 0) (leb (b % sign) one) ≡ chance_bits one sign b
by_sign sign one b O B = go (leb sign b) refl
  where
    rest : sign ≤ b → b % sign ≡ b - sign
    rest le = mod-eq-sub-mod le ∙ mod-eq_of_lt (omega arith)

    apart : b < sign → b ≡ sign → ⊥
    apart l e = omega arith

    go : (s : Bool) → leb sign b ≡ s → cond s (eqb (b % sign) 0) (leb (b % sign) one) ≡ chance_bits one sign b
    go true p =
        let le : sign ≤ b = leb-true sign b p in
        ap (λ (z : ℕ). eqb z 0) (rest le)
        ∙ same_test (eqb (b - sign) 0) (eqb b sign)
        (λ q. let z : b - sign ≡ 0 = eqb-true (b - sign) 0 q in eq-eqb b sign (omega arith))
        (λ q. let z : b ≡ sign = eqb-true b sign q in eq-eqb (b - sign) 0 (omega arith))
        ∙ ap (λ (z : Bool). z || eqb b sign) (sym (lt-leb b one (omega arith)))
    go false p =
        let less : b < sign = leb-false sign b p in
        ap (λ (z : ℕ). leb z one) (mod-eq_of_lt less) ∙ or-false (leb b one) (eqb b sign) (ne_eqb b sign (apart less))

one_below : (f : Format) → emax f * hid f < top f
one_below binary32 = lit≤ tt
one_below binary64 = lit≤ tt

-- a pattern of the format's width is that of a number from 0 to 1 exactly where it is at most the pattern of 1, or minus zero's
pub range-of-bits : (f : Format) (b : ℕ) → b < 2 * top f → from_zero_to_one (of_bits f b) ≡ chance_bits (emax f * hid f) (top f) b
unfolding of_bits
range-of-bits f b B =
    fields-range f (leb (top f) b) (b % top f / hid f) (b % hid f) (mod-lt b (pow_pos (prec f - 1)))
    ∙ ap (λ (z : ℕ). cond (leb (top f) b) (eqb z 0) (leb z (emax f * hid f))) (two_fields f b)
    ∙ by_sign (top f) (emax f * hid f) b (one_below f) B

-- ---- what a number from 0 to 1 is not

pub range-finite : (x : Float) → from_zero_to_one x ≡ true → T (finite x)
unfolding from_zero_to_one
range-finite nan h = absurd (false≢true h)
range-finite (inf s) h = absurd (false≢true h)
range-finite (fin s m e) h = tt

no_nan : (x : Float) → from_zero_to_one x ≡ true → is_nan x ≡ false
unfolding from_zero_to_one is_nan
no_nan nan h = sym h
no_nan (inf s) h = refl
no_nan (fin s m e) h = refl

pub range-no-nan : (x : Float) → from_zero_to_one x ≡ true → T (not (is_nan x))
range-no-nan x h = subst (λ (b : Bool). T (not b)) (sym (no_nan x h)) tt

pub range-no-nan-bits : (f : Format) (b : ℕ) → from_zero_to_one (of_bits f b) ≡ true → T (not (nan_bits f b))
range-no-nan-bits f b h = subst (λ (z : Bool). T (not z)) (sym (nan_bits_is f b)) (range-no-nan (of_bits f b) h)

-- ---- by IEEE's own comparisons

or-true : (a b : Bool) → (a || b) ≡ true → (a ≡ true) ⊎ (b ≡ true)
or-true true b h = inl refl
or-true false b h = inr h

and_first : (a b : Bool) → (a && b) ≡ true → a ≡ true
and_first true b h = refl
and_first false b h = h

below-or-level : (a b : ℕ) (c : Bool) → (ltb a b || (eqb a b && c)) ≡ true → a ≤ b
below-or-level a b c h = elim (or-true (ltb a b) (eqb a b && c) h) [
  | inl p ↦ le_of_lt (ltb-true a b p)
  | inr p ↦ le_of_eq (eqb-true a b (and_first (eqb a b) c p))
]

or_left : (a b : Bool) → a ≡ true → (a || b) ≡ true
or_left a b h = ap (λ (x : Bool). x || b) h

-- with a minus sign: m × u is the size, and z is zero
minus-level : (m u z : ℕ) → 0 < u → z ≡ 0 → eqb m 0 ≡ (eqb z (m * u * 1) && (false || eqb z 0))
minus-level m u z U e =
    same_test (eqb m 0) (eqb z (m * u * 1) && (false || eqb z 0))
    (λ h.
    let none : m * u * 1 ≡ 0 = mul-one (m * u) ∙ ap (λ (n : ℕ). n * u) (eqb-true m 0 h) ∙ zero-mul u in
    ap (λ (b : Bool). b && (false || eqb z 0)) (eq-eqb z (m * u * 1) (e ∙ sym none)) ∙ eq-eqb z 0 e)
    (λ h.
    eq-eqb m 0
    (no-factor m u U (sym (mul-one (m * u)) ∙ sym (eqb-true z (m * u * 1) (and_first (eqb z (m * u * 1)) (false || eqb z 0) h)) ∙ e)))

and-with : (a b : Bool) → b ≡ true → a ≡ (a && b)
and-with true b h = sym h
and-with false b h = refl

-- a float is in range exactly where it is at least 0 and at most 1: minus zero equals zero there, and a NaN passes no comparison
pub range-of-order : (x : Float) → from_zero_to_one x ≡ (le (fin false 0 (pos 0)) x && le x (fin false 1 (pos 0)))
unfolding from_zero_to_one le
range-of-order nan = refl
range-of-order (inf true) = refl
range-of-order (inf false) = refl
range-of-order (fin false m e) =
    let x = fin false m e in
    let zero-le : le (fin false 0 (pos 0)) x ≡ true =
    is_true (le (fin false 0 (pos 0)) x)
    (le_of_values (fin false 0 (pos 0)) x 0 1 (m * up e) (down e) (zero-lt-suc 0) (down_pos e) (refl, refl) (refl, refl) (omega arith)) in
    same_test (leb (m * up e) (down e)) (le x (fin false 1 (pos 0)))
    (λ h.
    is_true (le x (fin false 1 (pos 0)))
    (le_of_values x (fin false 1 (pos 0)) (m * up e) (down e) 1 1 (down_pos e) (zero-lt-suc 0) (refl, refl) (refl, refl)
    (omega (arith, leb-true (m * up e) (down e) h))))
    (λ h. le-leb (m * up e) (down e) (omega (arith, below-or-level (m * up e * 1) (1 * 1 * down e) true h)))
    ∙ ap (λ (b : Bool). b && le x (fin false 1 (pos 0))) (sym zero-le)
range-of-order (fin true m e) =
    minus-level m (up e) (0 * 1 * down e) (up_pos e) (zero-mul (down e))
    ∙ and-with (level false (0 * 1 * down e) true (m * up e * 1)) (le (fin true m e) (fin false 1 (pos 0)))
    (or_left (ltb 0 (m * up e * 1 + 1 * 1 * down e)) (level true (m * up e * 1) false (1 * 1 * down e))
    (lt-ltb 0 (m * up e * 1 + 1 * 1 * down e) (omega (arith, down_pos e))))
