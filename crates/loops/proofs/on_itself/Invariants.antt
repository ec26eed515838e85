use Prim.Native.Nat.{◌+◌, ◌*◌}
use Rattle.placing.specs.Placing.{sources_of}
use Rattle.loops.specs.Marks.{unseen}
use Rattle.loops.proofs.Tracing.{Tracing}
use Rattle.loops.proofs.on_itself.Given as goal

abbrev pub invariant-loop-taken : goal.invariant-loop-taken
invariant-loop-taken l =
    Tracing (sources_of l.sources.pins.now l.sources.counts.now) l.sources.inputs l.gates l.gate l.clear l.search.marks.now l.search.pile.now l.search.top

abbrev pub decreases-loop-taken : goal.decreases-loop-taken
decreases-loop-taken l = 2 * unseen l.search.marks.now + l.search.top
