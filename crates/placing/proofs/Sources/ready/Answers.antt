-- `placing::Sources::ready` meets its contract. Assumes nothing.
use borrow.Author.Tests.{eq-eqb, ne_eqb}
use Rattle.placing.specs.Placing.{ready}
use Rattle.placing.proofs.Sources.ready.Goals as goal

pub returns-then-place-gate-eq0 : goal.returns-then-place-gate-eq0
unfolding ready
returns-then-place-gate-eq0 c = simp (eq-eqb _ _ c.if-place-gate-eq0.true) (rw c.from.ensures at c.all_placed.ensures)

pub returns-else-place-gate-eq0 : goal.returns-else-place-gate-eq0
unfolding ready
returns-else-place-gate-eq0 c = simp (ne_eqb _ _ c.if-place-gate-eq0.false)
