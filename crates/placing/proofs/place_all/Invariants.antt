use Rattle.placing.specs.Placing.{sources_of, passed, left}
use Rattle.placing.proofs.Going.{Going}
use Rattle.placing.proofs.place_all.Given as goal

abbrev pub invariant-loop-gate : goal.invariant-loop-gate
invariant-loop-gate l =
    Going (sources_of l.sources.pins.now l.sources.counts.now) l.sources.inputs l.gates l.initial.place l.q l.place l.order
    (passed (sources_of l.sources.pins.now l.sources.counts.now) l.sources.inputs l.place 0 l.gates)

abbrev pub decreases-loop-gate : goal.decreases-loop-gate
decreases-loop-gate l = left l.place l.gates
