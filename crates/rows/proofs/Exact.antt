-- Means of start values, each U or 0: they are exact. Assumes nothing.
use Prim.Native.Nat.{ℕ, ◌+◌, ◌-◌, ◌*◌, ◌≤◌}
use mathlib.Core.Bool.{Bool, true, false, cond}
use mathlib.Core.Path.{◌≡◌, ◌∙◌}
use native.Mathlib.Nat.{zero-mul}
use native.Mathlib.Omega.{arith}
use Rattle.rounding.specs.Rounding.{units_in_one, blend}
use Rattle.rounding.proofs.Laws.{blend-whole}
use Rattle.figure.specs.Figure.{gate_step}
use Rattle.rows.specs.Rows.{value_if}

module _ (f : ℕ) (fits : f ≤ units_in_one) where
  whole : (a b : ℕ) → blend units_in_one (a * units_in_one) (b * units_in_one) f ≡ a * (units_in_one - f) + b * f
  whole a b = blend-whole units_in_one a b f (omega arith)

  pub mean-wrong : blend units_in_one 0 units_in_one f ≡ f
  mean-wrong = whole 0 1 ∙ omega (arith, zero-mul (units_in_one - f))

  pub mean-right : blend units_in_one units_in_one 0 f ≡ units_in_one - f
  mean-right = whole 1 0 ∙ omega (arith, zero-mul f)

  pub mean-both : blend units_in_one units_in_one units_in_one f ≡ units_in_one
  mean-both = whole 1 1 ∙ omega arith

  pub mean-none : blend units_in_one 0 0 f ≡ 0
  mean-none = whole 0 0 ∙ omega (arith, zero-mul (units_in_one - f), zero-mul f)

  -- an answer that is wrong only if the pin is
  pub one-mean : (wrong : Bool) → blend units_in_one 0 (value_if wrong) f ≡ cond wrong f 0
  one-mean true = mean-wrong
  one-mean false = mean-none

  -- a gate none of whose pins fails has its flip for its failure
  pub flip-alone : gate_step units_in_one 0 f ≡ f
  unfolding gate_step
  flip-alone = mean-wrong
