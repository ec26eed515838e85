-- Where arithmetic on floats loses nothing: a product with few enough digits, and a fraction over a power of two as a whole number of 2^-1074.
-- Assumes nothing.
use Prim.Native.Nat.{ℕ, zero, suc, ◌+◌, ◌-◌, ◌*◌, ◌/◌, ◌%◌, ◌^◌, ◌≤◌, ◌<◌}
use mathlib.Core.Path.{◌≡◌, refl, sym, ap, ◌∙◌, subst}
use mathlib.Core.Bool.{Bool, false, ◌&&◌}
use native.Mathlib.Nat.{le_trans, le_of_eq, le_of_lt, lt_of_lt_of_le, lt_of_not-le, lt_irrefl, le_of_suc-le-suc, mul_comm, mul_assoc, mul_left_comm, mul-pos}
use native.Mathlib.Nat.{mul-mul-mul_comm, mul-le-mul_right, one-mul, mul-one, mul-lt-mul_of_pos_right, lt_of_mul-lt-mul_right, mul-div_cancel}
use native.Mathlib.Omega.{arith}
use lib.IntN.{ℤ, pos, negsuc}
use lib.Dec.{T, leb, ltb, eqb, leb→le, ltb→lt, eqb→eq, lit<, lit≤}
use lib.Pow.{pow_pos, pow-add, pow-lt}
use lib.Ieee.{Float, nan, inf, fin, Format, prec, emax, low, up, down, binary64, unlike, round, mul, of_int, fits}
use lib.Ieee.Fits.{up_pos, down_pos, and_l, and_r}
use lib.Ieee.Exact.{HasValue, round_exact}
use lib.Ieee.Scale.{round_same}
use lib.Ieee.Back.{round_whole}
use lib.Ieee.Positive.{den}
use Rattle.chance.specs.Number.{chance_scale, whole_chance}

-- ---- powers of two

powers : (e : ℤ) → (u : ℕ) × (v : ℕ) × (up e ≡ 2 ^ u) × (down e ≡ 2 ^ v)
powers (pos k) = (k, 0, refl, refl)
powers (negsuc k) = (0, suc k, refl, refl)

exponent-le : (a l : ℕ) → 2 ^ a ≤ 2 ^ l → a ≤ l
exponent-le a l h = le_of_suc-le-suc (lt_of_not-le (λ (g : suc l ≤ a). lt_irrefl (2 ^ l) (lt_of_lt_of_le (pow-lt g) h)))

-- a smaller power of two divides a larger one
divided : (l v : ℕ) → v ≤ l → 2 ^ l ≡ 2 ^ (l - v) * 2 ^ v
divided l v h = ap (λ (z : ℕ). 2 ^ z) (back l v h) ∙ pow-add 2 (l - v) v
  where
    back : (l v : ℕ) → v ≤ l → l ≡ l - v + v
    back l v h = omega arith

-- ---- a value that a format holds

-- its digits are few, and its denominator divides that of the smallest value
pub fits-says : (f : Format) (s : Bool) (m : ℕ) (e : ℤ) → T (fits f (fin s m e)) → (m < 2 ^ prec f) × (down e ≤ 2 ^ low f)
unfolding fits
fits-says f s zero e t = (
  pow_pos (prec f),
  le_trans (le_trans (le_of_eq (sym (one-mul (down e)))) (mul-le-mul_right (down e) (up_pos e)))
      (le_trans (le_of_eq (eqb→eq (up e * down e) 1 t)) (pow_pos (low f))),
)
fits-says f s (suc m) e t =
    let a = eqb (suc m % 2) 1 in
    let b = ltb (suc m) (2 ^ prec f) in
    let c = leb (down e) (2 ^ low f) in
    let d = ltb (suc m * up e) (2 ^ suc (emax f) * down e) in (
      ltb→lt (suc m) (2 ^ prec f) (and_r a b (and_l (a && b) c (and_l (a && b && c) d t))),
      leb→le (down e) (2 ^ low f) (and_r (a && b) c (and_l (a && b && c) d t)),
    )

pub den-power : (f : Format) (x : Float) → T (fits f x) → (v : ℕ) × (den x ≡ 2 ^ v) × (v ≤ low f)
den-power f nan t = (0, refl, omega arith)
den-power f (inf s) t = (0, refl, omega arith)
den-power f (fin s m e) t =
    let p = powers e in
    (p.1, p.3, exponent-le p.1 (low f) (subst (λ (z : ℕ). z ≤ 2 ^ low f) p.3 (fits-says f s m e t).1))

-- ---- products

regroup : (m n a b w d : ℕ) → m * a * (n * b) * (w * d) ≡ m * n * (a * b * w) * d
regroup m n a b w d = simp (mul_assoc, mul_left_comm)

-- a product loses nothing where its digits are few enough, its denominator is not too large, and it does not overflow
pub mul-exact : (f : Format) (s t : Bool) (m n : ℕ) (e d : ℤ) → m * n < 2 ^ prec f → down e * down d ≤ 2 ^ low f
    → m * up e * (n * up d) < 2 ^ suc (emax f) * (down e * down d)
    → HasValue (mul f (fin s m e) (fin t n d)) (unlike s t) (m * up e * (n * up d)) (down e * down d)
unfolding mul
mul-exact f s t m n e d few deep below =
    let p = powers e in
    let q = powers d in
    let l = low f in
    let c = down e * down d in
    let C : 0 < c = mul-pos (down_pos e) (down_pos d) in
    let v = p.1 + q.1 in
    let cv : c ≡ 2 ^ v = ap (λ (z : ℕ). z * down d) p.3 ∙ ap (λ (z : ℕ). 2 ^ p.1 * z) q.3 ∙ sym (pow-add 2 p.1 q.1) in
    let w = l - v in
    let lw : 2 ^ l ≡ 2 ^ w * c =
    divided l v (exponent-le v l (subst (λ (z : ℕ). z ≤ 2 ^ l) cv deep)) ∙ ap (λ (z : ℕ). 2 ^ w * z) (sym cv) in
    let j = p.0 + q.0 + w in
    let jw : up e * up d * 2 ^ w ≡ 2 ^ j =
    ap (λ (z : ℕ). z * up d * 2 ^ w) p.2 ∙ ap (λ (z : ℕ). 2 ^ p.0 * z * 2 ^ w) q.2
    ∙ ap (λ (z : ℕ). z * 2 ^ w) (sym (pow-add 2 p.0 q.0)) ∙ sym (pow-add 2 (p.0 + q.0) w) in
    let k = m * up e * (n * up d) in
    let is : k * 2 ^ l ≡ m * n * 2 ^ j * c =
    ap (λ (z : ℕ). k * z) lw ∙ regroup m n (up e) (up d) (2 ^ w) c ∙ ap (λ (z : ℕ). m * n * z * c) jw in
    round_exact f (unlike s t) k c (m * n) j C few
    (lt_of_mul-lt-mul_right c
    (subst (λ (z : ℕ). z < 2 ^ (l + suc (emax f)) * c) is
    (subst (λ (z : ℕ). k * 2 ^ l < z)
    (mul_assoc (2 ^ suc (emax f)) c (2 ^ l) ∙ mul_left_comm (2 ^ suc (emax f)) c (2 ^ l) ∙ mul_comm c (2 ^ suc (emax f) * 2 ^ l)
    ∙ ap (λ (z : ℕ). z * c) (mul_comm (2 ^ suc (emax f)) (2 ^ l) ∙ sym (pow-add 2 l (suc (emax f)))))
    (mul-lt-mul_of_pos_right below (pow_pos l)))))
    is

-- a product is the rounded product of any fractions that its factors equal
mul-value : (f : Format) (x y : Float) (s t : Bool) (a c b d : ℕ) → 0 < c → 0 < d → HasValue x s a c → HasValue y t b d
    → mul f x y ≡ round f (unlike s t) (a * b) (c * d)
unfolding mul
mul-value f nan y s t a c b d C D v w = absurd v
mul-value f (inf r) y s t a c b d C D v w = absurd v
mul-value f (fin r m e) nan s t a c b d C D v w = absurd w
mul-value f (fin r m e) (inf q) s t a c b d C D v w = absurd w
mul-value f (fin r m e) (fin q n g) s t a c b d C D v w =
    ap (λ (z : Bool). round f z (m * up e * (n * up g)) (down e * down g)) (ap (λ (z : Bool). unlike z q) v.0 ∙ ap (unlike s) w.0)
    ∙ round_same f (unlike s t) (m * up e * (n * up g)) (down e * down g) (a * b) (c * d) (mul-pos (down_pos e) (down_pos g)) (mul-pos C D)
    (mul-mul-mul_comm (m * up e) (n * up g) c d
    ∙ ap (λ (z : ℕ). z * (n * up g * d)) v.1
    ∙ ap (λ (z : ℕ). a * down e * z) w.1
    ∙ mul-mul-mul_comm a (down e) b (down g))

-- a number of 32 bits, as a float and times 2^-30
pub scaled_exact : (n : ℕ) → n < 2 ^ 32 → HasValue (mul binary64 (of_int binary64 (pos n)) (fin false 1 (negsuc 29))) false n 1_073_741_824
unfolding of_int
scaled_exact n h =
    let whole : HasValue (round binary64 false n 1) false n 1 = round_whole binary64 false n (le_trans (le_of_lt h) (lit≤ tt)) in
    let is : mul binary64 (round binary64 false n 1) (fin false 1 (negsuc 29)) ≡ round binary64 false (n * 1) (1 * 1_073_741_824) =
    mul-value binary64 (round binary64 false n 1) (fin false 1 (negsuc 29)) false false n 1 1 1_073_741_824 (lit< tt) (lit< tt) whole (refl, refl) in
    subst (λ (x : Float). HasValue x false n 1_073_741_824) (sym (is ∙ ap (λ (z : ℕ). round binary64 false z 1_073_741_824) (mul-one n)))
    (round_exact binary64 false n 1_073_741_824 n 1044 (lit< tt) (lt_of_lt_of_le h (lit≤ tt))
    (lt_of_lt_of_le (mul-lt-mul_of_pos_right h (pow_pos 1044)) (lit≤ tt))
    (sym (mul_assoc n (2 ^ 1044) 1_073_741_824)))

-- ---- whole numbers of 2^-1074

pub scale-pos : 0 < chance_scale
unfolding chance_scale
scale-pos = pow_pos 1074

over : (n s k d : ℕ) → 0 < d → s ≡ k * d → n * s ≡ n * s / d * d
over n s k d D e =
    let f : n * s ≡ n * k * d = ap (λ (z : ℕ). n * z) e ∙ sym (mul_assoc n k d) in
    f ∙ ap (λ (z : ℕ). z * d) (sym (ap (λ (z : ℕ). z / d) f ∙ mul-div_cancel (n * k) D))

-- a fraction over a power of two, not too large, is a whole number of 2^-1074
pub whole-exact : (n d v : ℕ) → d ≡ 2 ^ v → v ≤ 1074 → n * chance_scale ≡ whole_chance n d * d
unfolding whole_chance chance_scale
whole-exact n d v e h =
    over n (2 ^ 1074) (2 ^ (1074 - v)) d (subst (λ (z : ℕ). 0 < z) (sym e) (pow_pos v)) (divided 1074 v h ∙ ap (λ (z : ℕ). 2 ^ (1074 - v) * z) (sym e))
