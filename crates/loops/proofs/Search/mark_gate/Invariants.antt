use Prim.Native.Nat.{◌-◌}
use Rattle.placing.specs.Placing.{entries}
use Rattle.loops.specs.Marks.{MarkedBy}
use Rattle.loops.proofs.Search.mark_gate.Given as goal

abbrev pub invariant-loop-i : goal.invariant-loop-i
invariant-loop-i l =
    MarkedBy l.sources.inputs (entries l.sources.pins.now l.from (l.i - l.from)) l.initial.self l.self
