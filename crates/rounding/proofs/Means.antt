-- The sums that means round: what the formulas without a branch work out is what the definitions say. Assumes nothing.
use Prim.Native.Nat.{ℕ, ◌+◌, ◌-◌, ◌*◌, ◌/◌, ◌%◌, ◌≤◌, ◌<◌}
use mathlib.Core.Path.{◌≡◌, sym, ap, ◌∙◌}
use mathlib.Core.Logic.{by_cases}
use native.Mathlib.Nat.{sub-add_cancel, mul-le-mul, div-eq_of_lt-le}
use native.Mathlib.Decide.{dec_le}
use native.Mathlib.Omega.{arith}
use Rattle.rounding.specs.Rounding.{units_in_one, units_in_half, round_div, blend}
use Rattle.rounding.proofs.Laws.{without-cases, same-fraction}

-- two figures multiplied
pub product-fits : (a b : ℕ) → a ≤ units_in_one → b ≤ units_in_one → a * b ≤ units_in_one * units_in_one
product-fits a b ha hb = mul-le-mul {n₁ = a} {m₁ = b} {n₂ = units_in_one} {m₂ = units_in_one} ha hb

-- a mean's sum is at most U × U, and is rounded in one division by U
pub sum_fits : (r w f : ℕ) → r ≤ units_in_one → w ≤ units_in_one → f ≤ units_in_one → r * (units_in_one - f) + w * f ≤ units_in_one * units_in_one
sum_fits r w f hr hw hf =
    omega (
      arith,
      mul-le-mul {n₁ = r} {m₁ = units_in_one - f} {n₂ = units_in_one} {m₂ = units_in_one - f} hr (omega arith),
      mul-le-mul {n₁ = w} {m₁ = f} {n₂ = units_in_one} {m₂ = f} hw (omega arith),
    )

pub mean-made : (n : ℕ) → round_div n units_in_one ≡ (n + 536_870_911 + n / units_in_one % 2) / units_in_one
mean-made n = sym (without-cases n units_in_one (omega arith)) ∙ halved (n / units_in_one % 2) (omega arith)
  where
    halved : (b : ℕ) → b < 2 → (2 * n + (units_in_one - 1) + b) / (2 * units_in_one) ≡ (n + 536_870_911 + b) / units_in_one
    halved b less = div-eq_of_lt-le (2 * units_in_one) (omega arith) (omega arith)

-- ---- a half goes to the even number, without a division of twice the sum

abbrev pub quarter_unit : ℕ
quarter_unit = 268_435_456

-- k and a half, to k or the number above it
odd-or-even : (n b k : ℕ) → n ≡ k * units_in_half + quarter_unit → b < 2 → (2 * n + (units_in_half - 1) + b) / (2 * units_in_half) ≡ k + b
odd-or-even n b k e less =
    by_cases (dec_le b 0)
    (λ none. div-eq_of_lt-le (2 * units_in_half) (omega arith) (omega arith))
    (λ some. div-eq_of_lt-le (2 * units_in_half) (omega arith) (omega arith))

-- a number that is k and a half, and one that is less than a unit short of it
at-half : (n k : ℕ) → n ≡ k * units_in_half + quarter_unit → round_div n units_in_half ≡ k + k % 2
at-half n k e =
    let parity : n / units_in_half % 2 ≡ k % 2 = omega arith in
    sym (without-cases n units_in_half (omega arith)) ∙ odd-or-even n (n / units_in_half % 2) k e (omega arith) ∙ ap (λ (b : ℕ). k + b) parity

below-it : (n k low : ℕ) → n + low ≡ k * units_in_half + quarter_unit → 0 < low → low < units_in_half → round_div n units_in_half ≡ k
below-it n k low e some less = sym (without-cases n units_in_half (omega arith)) ∙ div-eq_of_lt-le (2 * units_in_half) (omega arith) (omega arith)

-- a figure and its rest
module _ (m p : ℕ) (hm : m ≤ units_in_one) (hp : p ≤ units_in_one) where
  whole : (m + p) * units_in_one ≡ m * (units_in_one - p) + (units_in_one - m) * p + 2 * (m * p)
  whole =
      omega (
        arith,
        ap (λ (z : ℕ). m * z) (sub-add_cancel {n = units_in_one} {m = p} hp),
        ap (λ (z : ℕ). z * p) (sub-add_cancel {n = units_in_one} {m = m} hm),
      )

  pub rest_part : m * p ≤ (m + p) * units_in_half
  rest_part = omega (arith, whole)

  -- the rest, over U / 2, in the terms of what is taken off
  abbrev rest : ℕ
  rest = (m + p) * units_in_half - m * p

  abbrev pub near : ℕ
  near = m + p - (m * p + quarter_unit) / units_in_half

  rest-half : blend units_in_one m (units_in_one - m) p ≡ round_div rest units_in_half
  unfolding blend
  rest-half =
      same-fraction (m * (units_in_one - p) + (units_in_one - m) * p) units_in_one ((m + p) * units_in_half - m * p) units_in_half (omega arith) (omega arith)
      (omega (arith, whole))

  -- what the code works out: the part taken off rounded up at a half, and there one put back where an odd number is left
  pub rest-even : (m * p + quarter_unit) % units_in_half ≡ 0 → blend units_in_one m (units_in_one - m) p ≡ near + near % 2
  rest-even none = rest-half ∙ at-half rest near (omega (arith, rest_part))

  pub rest-near : 0 < (m * p + quarter_unit) % units_in_half → blend units_in_one m (units_in_one - m) p ≡ near
  rest-near some = rest-half ∙ below-it rest near ((m * p + quarter_unit) % units_in_half) (omega (arith, rest_part)) some (omega arith)
