-- The laws of `round_div` and `blend`, for all sizes together. Assumes nothing.
use Prim.Native.Nat.{ℕ, ◌+◌, ◌-◌, ◌*◌, ◌/◌, ◌%◌, ◌≤◌, ◌<◌, compare, Ordering}
use mathlib.Core.Bool.{Bool, true, false, cond, false≢true}
use mathlib.Core.Logic.{by_cases}
use mathlib.Core.Path.{◌≡◌, refl, sym, ap, subst, ◌∙◌}
use native.Mathlib.Nat.{div-add-mod', mod-lt, div-eq_of_lt-le, le_of_mul-le-mul_right, le_antisymm, mul-le-mul_right, mul-zero, zero-mul, sub-zero, add-zero}
use native.Mathlib.Nat.{lt_of_mul-lt-mul_right, sub_self, zero-add, sub-add_cancel}
use native.Mathlib.Decide.{dec_le}
use native.Mathlib.Omega.{arith}
use borrow.Author.Tests.{ltb-true, ltb-false, le-leb, lt-leb, eq-eqb, ne_eqb}
use lib.Dec.{ltb, is_le, compare_is_eq}
use lib.Ieee.{nearest}
use lib.Ieee.Nearest.{closest, closest_same}
use Rattle.rounding.specs.Rounding.{Near, HalfEven, next_to, round_div, to_units, blend}

-- whatever holds of the number next to q + r / d in each of its cases holds of it
next-to : (P : ℕ → Type 0) (q r d : ℕ)
    → (2 * r < d → P q) → (d < 2 * r → P (q + 1)) → (2 * r ≡ d → q % 2 ≡ 0 → P q) → (2 * r ≡ d → q % 2 ≡ 1 → P (q + 1)) → P (next_to q r d)
next-to P q r d less more even odd = go (ltb (2 * r) d) (ltb d (2 * r)) refl refl
  where
    half : 2 * r ≡ d → P (q + q % 2)
    half e =
        by_cases (dec_le (q % 2) 0)
        (λ z. let none : q % 2 ≡ 0 = omega arith in subst P (omega arith) (even e none))
        (λ z. let one : q % 2 ≡ 1 = omega arith in subst P (omega arith) (odd e one))

    go : (a b : Bool) → ltb (2 * r) d ≡ a → ltb d (2 * r) ≡ b → P (cond a q (cond b (q + 1) (q + q % 2)))
    go true b p s = less (ltb-true (2 * r) d p)
    go false true p s = more (ltb-true d (2 * r) s)
    go false false p s = half (le_antisymm (ltb-false d (2 * r) s) (ltb-false (2 * r) d p))

module _ (n d : ℕ) (pos : 0 < d) where
  -- the quotient and the remainder
  whole : n / d * d + n % d ≡ n
  whole = div-add-mod' n d

  small : n % d < d
  small = mod-lt n pos

  -- the rounded quotient times the divisor is at most half a divisor away
  pub near : Near d (2 * (round_div n d * d)) (2 * n)
  unfolding round_div
  near =
      next-to (λ m. Near d (2 * (m * d)) (2 * n)) (n / d) (n % d) d
      (λ h. record { up = omega (arith, whole); down = omega (arith, whole) })
      (λ h. record { up = omega (arith, whole); down = omega (arith, whole, small) })
      (λ h e. record { up = omega (arith, whole); down = omega (arith, whole) })
      (λ h e. record { up = omega (arith, whole); down = omega (arith, whole) })

  -- and where it is half a divisor away, it is even
  pub half-even : HalfEven n d (round_div n d)
  unfolding round_div
  half-even =
      next-to (HalfEven n d) (n / d) (n % d) d
      (λ h. record { below = λ e. omega (arith, whole); above = λ e. omega (arith, whole) })
      (λ h. record { below = λ e. omega (arith, whole, small); above = λ e. omega (arith, whole) })
      (λ h z. record { below = λ e. z; above = λ e. z })
      (λ h z. record { below = λ e. omega arith; above = λ e. omega arith })

  -- the same as a formula: just short of half a divisor is added, and half a divisor where the quotient is odd
  pub without-cases : (2 * n + (d - 1) + n / d % 2) / (2 * d) ≡ round_div n d
  unfolding round_div
  without-cases =
      next-to (λ m. (2 * n + (d - 1) + n / d % 2) / (2 * d) ≡ m) (n / d) (n % d) d
      (λ h. div-eq_of_lt-le (2 * d) (omega (arith, whole)) (omega (arith, whole)))
      (λ h. div-eq_of_lt-le (2 * d) (omega (arith, whole)) (omega (arith, whole, small)))
      (λ h e. div-eq_of_lt-le (2 * d) (omega (arith, whole)) (omega (arith, whole)))
      (λ h e. div-eq_of_lt-le (2 * d) (omega (arith, whole)) (omega (arith, whole)))

  -- what is at most k divisors rounds to at most k
  pub at_most : (k : ℕ) → n ≤ k * d → round_div n d ≤ k
  at_most k h =
      let twice : 2 * round_div n d ≤ 2 * k + 1 = le_of_mul-le-mul_right (omega (arith, near.up)) pos in
      omega arith

  -- what is at least k divisors rounds to at least k
  pub at_least : (k : ℕ) → k * d ≤ n → k ≤ round_div n d
  at_least k h =
      let twice : 2 * k ≤ 2 * round_div n d + 1 = le_of_mul-le-mul_right (omega (arith, near.down)) pos in
      omega arith

  -- less than half a divisor rounds to nothing
  pub below_half : 2 * n < d → round_div n d ≡ 0
  below_half h =
      let less : round_div n d < 1 = lt_of_mul-lt-mul_right d (omega (arith, near.up)) in
      omega arith

-- no other number is at most half a divisor away, and even where it is just that
module _ (n d : ℕ) (pos : 0 < d) where
  apart : (a b : ℕ) → Near d (2 * (a * d)) (2 * n) → HalfEven n d a → Near d (2 * (b * d)) (2 * n) → HalfEven n d b → a < b → ⊥
  apart a b x p y q less =
      let next : b ≤ a + 1 = le_of_mul-le-mul_right (omega (arith, x.down, y.up)) pos in
      let is : b ≡ a + 1 = omega arith in
      let product : b * d ≡ a * d + d = ap (λ (z : ℕ). z * d) is ∙ omega arith in
      omega (arith, p.below (omega (arith, x.down, y.up)), q.above (omega (arith, x.down, y.up)))

  pub only_one : (m : ℕ) → Near d (2 * (m * d)) (2 * n) → HalfEven n d m → m ≡ round_div n d
  only_one m x p =
      le_antisymm
      (by_cases (dec_le m (round_div n d)) (λ h. h) (λ h. absurd (apart (round_div n d) m (near n d pos) (half-even n d pos) x p (omega arith))))
      (by_cases (dec_le (round_div n d) m) (λ h. h) (λ h. absurd (apart m (round_div n d) x p (near n d pos) (half-even n d pos) (omega arith))))

-- the rule of IEEE 754 for what it keeps of a fraction is the same one
pub as-ieee : (n d : ℕ) → closest n d ≡ round_div n d
unfolding round_div
as-ieee n d =
    next-to (λ m. closest n d ≡ m) (n / d) (n % d) d
    (λ h. below (n / d) (compare (n % d * 2) d) (le-leb (n % d * 2) d (omega arith)) (ne_eqb (n % d * 2) d (λ e. omega arith)))
    (λ h. above (n / d) (compare (n % d * 2) d) (lt-leb (n % d * 2) d (omega arith)))
    (λ h e. at (n / d) (compare (n % d * 2) d) (eq-eqb (n % d * 2) d (omega arith)) ∙ omega arith)
    (λ h e. at (n / d) (compare (n % d * 2) d) (eq-eqb (n % d * 2) d (omega arith)) ∙ omega arith)
  where
    below : (q : ℕ) (o : Ordering) → is_le o ≡ true → compare_is_eq o ≡ false → nearest q o ≡ q
    below q Ordering.lt p e = refl
    below q Ordering.eq p e = absurd (false≢true (sym e))
    below q Ordering.gt p e = absurd (false≢true p)

    above : (q : ℕ) (o : Ordering) → is_le o ≡ false → nearest q o ≡ q + 1
    above q Ordering.lt p = absurd (false≢true (sym p))
    above q Ordering.eq p = absurd (false≢true (sym p))
    above q Ordering.gt p = omega arith

    at : (q : ℕ) (o : Ordering) → compare_is_eq o ≡ true → nearest q o ≡ q + q % 2
    at q Ordering.lt p = absurd (false≢true p)
    at q Ordering.eq p = refl
    at q Ordering.gt p = absurd (false≢true p)

-- equal fractions round alike
pub same-fraction : (a b c d : ℕ) → 0 < b → 0 < d → a * d ≡ c * b → round_div a b ≡ round_div c d
same-fraction a b c d B D e = sym (as-ieee a b) ∙ closest_same a b c d B D e ∙ as-ieee c d

-- an exact multiple is exact
pub exact : (q d : ℕ) → 0 < d → round_div (q * d) d ≡ q
exact q d pos = le_antisymm (at_most (q * d) d pos q (omega arith)) (at_least (q * d) d pos q (omega arith))

-- no chance is no unit
pub no-units : (u d : ℕ) → 0 < d → to_units u d 0 ≡ 0
unfolding to_units
no-units u d pos = ap (λ (z : ℕ). round_div z d) (zero-mul u ∙ sym (zero-mul d)) ∙ exact 0 d pos

-- a share of 0 keeps the right value
pub blend-none : (u r w : ℕ) → 0 < u → blend u r w 0 ≡ r
unfolding blend
blend-none u r w pos = ap (λ (x : ℕ). round_div x u) (simp (sub-zero, mul-zero, add-zero)) ∙ exact r u pos

-- nothing is rounded where both values are whole numbers of u
pub blend-whole : (u a b f : ℕ) → 0 < u → blend u (a * u) (b * u) f ≡ a * (u - f) + b * f
unfolding blend
blend-whole u a b f pos = ap (λ (x : ℕ). round_div x u) (gathered a b u (u - f) f) ∙ exact (a * (u - f) + b * f) u pos
  where
    gathered : (a b u x f : ℕ) → a * u * x + b * u * f ≡ (a * x + b * f) * u
    gathered a b u x f = omega arith

-- shares of two values that keep a bound, added up
shares : (a b u : ℕ) → a + b ≡ u → (r w k : ℕ) → r ≤ k → w ≤ k → r * a + w * b ≤ k * u
shares a b u e r w k hr hw =
    omega (arith, mul-le-mul_right a hr, mul-le-mul_right b hw, ap (λ (x : ℕ). k * x) e)

-- a mean passes no bound that both values keep
pub blend-at-most : (u r w f k : ℕ) → 0 < u → f ≤ u → r ≤ k → w ≤ k → blend u r w f ≤ k
unfolding blend
blend-at-most u r w f k pos hf hr hw =
    at_most (r * (u - f) + w * f) u pos k (shares (u - f) f u (sub-add_cancel hf) r w k hr hw)

-- with the share u it is all wrong
pub blend-all : (u r w : ℕ) → 0 < u → blend u r w u ≡ w
unfolding blend
blend-all u r w pos = ap (λ (x : ℕ). round_div x u) (simp (sub_self, mul-zero, zero-add)) ∙ exact w u pos
