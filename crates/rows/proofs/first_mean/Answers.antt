-- `rows::first_mean` meets its contract. Assumes nothing.
use mathlib.Core.Path.{sym}
use Rattle.rows.proofs.Exact.{mean-wrong, mean-right, mean-both, mean-none}
use Rattle.rows.proofs.first_mean.Goals as goal

pub returns-in-true-true : goal.returns-in-true-true
returns-in-true-true c = rw (c.in-true-true.is-0, c.in-true-true.is-1) (sym (mean-both c.args.failure c.requires))

pub returns-in-true-false : goal.returns-in-true-false
returns-in-true-false c = rw (c.in-true-false.is-0, c.in-true-false.is-1) (sym (mean-right c.args.failure c.requires))

pub returns-in-false-true : goal.returns-in-false-true
returns-in-false-true c = rw (c.in-false-true.is-0, c.in-false-true.is-1) (sym (mean-wrong c.args.failure c.requires))

pub returns-in-false-false : goal.returns-in-false-false
returns-in-false-false c = rw (c.in-false-false.is-0, c.in-false-false.is-1) (sym (mean-none c.args.failure c.requires))
