-- `rounding::blended` meets its contract. Assumes nothing.
use Prim.Native.Nat.{ℕ, ◌+◌, ◌-◌, ◌*◌, ◌≤◌}
use mathlib.Core.Path.{sym}
use native.Mathlib.Omega.{arith}
use Rattle.rounding.specs.Rounding.{units_in_one, blend}
use Rattle.rounding.proofs.Means.{sum_fits, mean-made}
use Rattle.rounding.proofs.blended.Goals.{Start}
use Rattle.rounding.proofs.blended.Goals as goal

-- the sum of the products fits
module _ (s : Start) where
  abbrev right : ℕ
  right = s.args.right

  abbrev wrong : ℕ
  wrong = s.args.wrong

  abbrev failure : ℕ
  failure = s.args.failure

  sum : right * (units_in_one - failure) + wrong * failure ≤ units_in_one * units_in_one
  sum = sum_fits right wrong failure s.requires.0 s.requires.1 s.requires.2

pub overflow_mul-sum : goal.overflow_mul-sum
overflow_mul-sum c = omega (arith, sum c)

pub overflow_mul-sum-2 : goal.overflow_mul-sum-2
overflow_mul-sum-2 c = omega (arith, sum c)

pub overflow_add-sum : goal.overflow_add-sum
overflow_add-sum c = omega (arith, sum c)

pub overflow_add-result : goal.overflow_add-result
overflow_add-result c = omega (arith, sum c)

pub overflow_add-result-2 : goal.overflow_add-result-2
overflow_add-result-2 c = omega (arith, sum c)

pub overflow_cast-result : goal.overflow_cast-result
overflow_cast-result c = omega (arith, sum c)

pub returns : goal.returns
unfolding blend
returns c = sym (mean-made (right c * (units_in_one - failure c) + wrong c * failure c))
