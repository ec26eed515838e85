-- `loops::Search::mark_gate` meets its contract. Assumes nothing.
use Prim.Native.Nat.{◌+◌, ◌-◌, ◌*◌, suc}
use mathlib.Core.Path.{◌≡◌}
use native.Mathlib.Omega.{arith}
use Rattle.placing.proofs.Search.{entries-more}
use Rattle.loops.proofs.Marks.{marked-join}
use Rattle.loops.proofs.Search.mark_gate.Goals as goal

pub loop-i-preserved : goal.loop-i-preserved
loop-i-preserved c =
    let l = c.loop-i in
    let from = 4 * c.args.gate in
    let more : l.i + 1 - from ≡ suc (l.i - from) = omega arith in
    let at : from + (l.i - from) ≡ l.i = omega arith in
    rw (more, entries-more, at) (marked-join c.args.sources.inputs _ _ _ _ _ _ _ _ _ _ _ l.invariant (rw c.from.ensures at c.mark_source.ensures))
