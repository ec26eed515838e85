-- `counts::listed_lanes` meets its contract. Assumes nothing.
use mathlib.Core.Path.{sym, ◌∙◌}
use native.Mathlib.Nat.{one-mul}
use native.Mathlib.Omega.{arith}
use borrow.Author.Tests.{lt-ltb, le-ltb}
use lib.Pow.{shl_exact, pow_pos}
use Rattle.signals.proofs.Answers.{lane-all}
use Rattle.signals.proofs.Lanes.{ones_below, ones-past}
use Rattle.counts.proofs.Windows.{by_order}
use Rattle.counts.proofs.listed_lanes.Goals as goal

pub returns-then-many-eq-LANES : goal.returns-then-many-eq-LANES
returns-then-many-eq-LANES c l less = lane-all l less ∙ sym (lt-ltb l c.args.many (omega (arith, c.if-many-eq-LANES.true)))

pub overflow_sub-result : goal.overflow_sub-result
overflow_sub-result c =
    let many = c.args.many in
    rw (shl_exact {a = 1} 1 many 64 (omega arith) (omega arith)) (omega (arith, pow_pos many))

pub returns : goal.returns
returns c l less =
    let many = c.args.many in
    rw (shl_exact {a = 1} 1 many 64 (omega arith) (omega arith), one-mul)
    (by_order l many (λ below. ones_below many l below ∙ sym (lt-ltb l many below)) (λ past. ones-past many l past ∙ sym (le-ltb l many past)))
