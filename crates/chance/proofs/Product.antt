-- Products of chances as floats: exact, with a minus sign only at zero, and no larger than they should be. Assumes nothing.
use Prim.Native.Nat.{ℕ, ◌*◌, ◌^◌, ◌≤◌, ◌<◌}
use mathlib.Core.Path.{◌≡◌, refl, sym, ap, ◌∙◌, subst}
use mathlib.Core.Bool.{Bool, true, false, false≢true}
use native.Mathlib.Nat.{le_trans, le_of_eq, le_of_lt, lt_of_le_of_lt, zero-mul, mul-zero, one-mul, mul_left_comm, mul-pos, mul-le-mul, mul_right_comm}
use native.Mathlib.Nat.{mul-lt-mul_of_pos_right}
use native.Mathlib.Omega.{arith}
use borrow.Author.Tests.{leb-true, eqb-true, le-leb, eq-eqb}
use lib.IntN.{ℤ}
use lib.Dec.{T, lit<, lit≤}
use lib.Ieee.{Float, nan, inf, fin, binary32, binary64, up, down, unlike, mul, fits}
use lib.Ieee.Fits.{down_pos}
use lib.Ieee.Exact.{HasValue}
use lib.Ieee.Nearest.{div_same}
use lib.Ieee.Positive.{num, den, den_pos}
use Rattle.chance.specs.Number.{chance_scale, whole_chance, from_zero_to_one}
use Rattle.chance.proofs.Range.{range-of-value, range-of-minus}
use Rattle.chance.proofs.Exact.{fits-says, mul-exact}

-- what is known of a float p that stands for a / c, at most k
pub record Known (p : Float) (a c k : ℕ) : Type 0 where
  pub sign : Bool
  pub value : HasValue p sign a c
  pub minus : sign ≡ true → a ≡ 0
  pub small : a ≤ k * c

-- ---- a finite chance

pub no_number : (x : Float) → from_zero_to_one x ≡ false → from_zero_to_one x ≡ true → ⊥
no_number x p q = false≢true (sym p ∙ q)

-- at most 1 in size, and only zero has a minus sign
pub range-says : (s : Bool) (m : ℕ) (e : ℤ) → from_zero_to_one (fin s m e) ≡ true → (m * up e ≤ down e) × (s ≡ true → m ≡ 0)
unfolding from_zero_to_one
range-says false m e h = (leb-true (m * up e) (down e) h, λ p. absurd (false≢true p))
range-says true m e h =
    let z : m ≡ 0 = eqb-true m 0 h in
    (subst (λ (n : ℕ). n * up e ≤ down e) (sym z) (le_trans (le_of_eq (zero-mul (up e))) (omega arith)), λ p. z)

-- ---- a chance times a number of at most k

zero-where-minus : (s t : Bool) (m n a b : ℕ) → (s ≡ true → m ≡ 0) → (t ≡ true → n ≡ 0) → unlike s t ≡ true → m * a * (n * b) ≡ 0
zero-where-minus true t m n a b p q r = ap (λ (z : ℕ). z * a * (n * b)) (p refl) ∙ ap (λ (z : ℕ). z * (n * b)) (zero-mul a) ∙ zero-mul (n * b)
zero-where-minus false true m n a b p q r = ap (λ (z : ℕ). m * a * (z * b)) (q refl) ∙ ap (λ (z : ℕ). m * a * z) (zero-mul b) ∙ mul-zero (m * a)
zero-where-minus false false m n a b p q r = absurd (false≢true r)

pub product : (s t : Bool) (m n : ℕ) (e d : ℤ) (k : ℕ) → k < 2 ^ 1024
    → (m * up e ≤ down e) × (s ≡ true → m ≡ 0) → n * up d ≤ k * down d → (t ≡ true → n ≡ 0)
    → m * n < 2 ^ 53 → down e * down d ≤ 2 ^ 1074
    → Known (mul binary64 (fin s m e) (fin t n d)) (m * up e * (n * up d)) (down e * down d) k
product s t m n e d k room x y minus few deep =
    let small : m * up e * (n * up d) ≤ k * (down e * down d) =
    le_trans (mul-le-mul x.0 y) (le_of_eq (mul_left_comm (down e) k (down d))) in
    record {
      sign = unlike s t;
      value =
          mul-exact binary64 s t m n e d few deep
          (lt_of_le_of_lt small (mul-lt-mul_of_pos_right room (mul-pos (down_pos e) (down_pos d))));
      minus = zero-where-minus s t m n (up e) (up d) x.1 minus;
      small = small;
    }

-- ---- a strike's chance times its window

pub struck : (x y : Float) → T (fits binary32 x) → T (fits binary32 y) → from_zero_to_one x ≡ true → from_zero_to_one y ≡ true
    → Known (mul binary64 x y) (num x * num y) (den x * den y) 1
struck nan y t u h k = absurd (no_number nan (unfold from_zero_to_one in refl) h)
struck (inf s) y t u h k = absurd (no_number (inf s) (unfold from_zero_to_one in refl) h)
struck (fin s m e) nan t u h k = absurd (no_number nan (unfold from_zero_to_one in refl) k)
struck (fin s m e) (inf r) t u h k = absurd (no_number (inf r) (unfold from_zero_to_one in refl) k)
struck (fin s m e) (fin r n d) t u h k =
    let f = fits-says binary32 s m e t in
    let g = fits-says binary32 r n d u in
    let y = range-says r n d k in
    product s r m n e d 1 (lit< tt) (range-says s m e h) (le_trans y.0 (le_of_eq (sym (one-mul (down d))))) y.1
    (lt_of_le_of_lt (mul-le-mul (le_of_lt f.0) (le_of_lt g.0)) (lit< tt))
    (le_trans (mul-le-mul f.1 g.1) (lit≤ tt))

-- what is known makes it a chance
pub known-range : (p : Float) (a c : ℕ) → 0 < c → Known p a c 1 → from_zero_to_one p ≡ true
known-range p a c C k = go k.sign k.value k.minus
  where
    go : (s : Bool) → HasValue p s a c → (s ≡ true → a ≡ 0) → from_zero_to_one p ≡ true
    go false v z = range-of-value p a c C v ∙ le-leb a c (le_trans k.small (le_of_eq (one-mul c)))
    go true v z = range-of-minus p a c C v ∙ eq-eqb a 0 (z refl)

-- and whole numbers of 2^-1074 see only the value
pub cross : (p : Float) (s : Bool) (a c : ℕ) → HasValue p s a c → num p * c ≡ a * den p
cross nan s a c v = absurd v
cross (inf t) s a c v = absurd v
cross (fin t m e) s a c v = v.1

pub known-whole : (p : Float) (a c : ℕ) → 0 < c → Known p a c 1 → whole_chance (num p) (den p) ≡ whole_chance a c
unfolding whole_chance
known-whole p a c C k =
    div_same (num p * chance_scale) (den p) (a * chance_scale) c (den_pos p) C
    (mul_right_comm (num p) chance_scale c ∙ ap (λ (z : ℕ). z * chance_scale) (cross p k.sign a c k.value) ∙ mul_right_comm a (den p) chance_scale)
