-- `figure::first_pair` meets its contract: each value is 0 or U, so a share counts once or not at all, and nothing is rounded. Assumes nothing.
use Prim.Native.Nat.{ℕ, ◌-◌, ◌*◌, ◌/◌, ◌≤◌}
use mathlib.Core.Path.{◌≡◌, sym, ap₂, ◌∙◌}
use native.Mathlib.Omega.{arith}
use Rattle.rounding.specs.Rounding.{units_in_one, blend}
use Rattle.rounding.proofs.Laws.{blend-whole}
use Rattle.figure.proofs.Under.{once}
use Rattle.figure.proofs.first_pair.Goals.{Start}
use Rattle.figure.proofs.first_pair.Goals as goal

-- each share counts at most once
right-once : (c : Start) → c.args.right / units_in_one * (units_in_one - c.args.failure) ≤ units_in_one - c.args.failure
right-once c = once (c.args.right / units_in_one) (units_in_one - c.args.failure) (omega arith)

wrong-once : (c : Start) → c.args.wrong / units_in_one * c.args.failure ≤ c.args.failure
wrong-once c = once (c.args.wrong / units_in_one) c.args.failure (omega arith)

pub overflow_mul-result : goal.overflow_mul-result
overflow_mul-result c = omega (arith, right-once c)

pub overflow_mul-result-2 : goal.overflow_mul-result-2
overflow_mul-result-2 c = omega (arith, wrong-once c)

pub overflow_add-result : goal.overflow_add-result
overflow_add-result c = omega (arith, right-once c, wrong-once c)

pub returns : goal.returns
returns c =
    let a = c.args in
    let right : a.right / units_in_one * units_in_one ≡ a.right = omega arith in
    let wrong : a.wrong / units_in_one * units_in_one ≡ a.wrong = omega arith in
    sym (blend-whole units_in_one (a.right / units_in_one) (a.wrong / units_in_one) a.failure (omega arith))
    ∙ ap₂ (λ (r w : ℕ). blend units_in_one r w a.failure) right wrong
