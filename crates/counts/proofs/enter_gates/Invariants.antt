use Rattle.counts.specs.Counts.{Reads}
use Rattle.counts.proofs.enter_gates.Given as goal

abbrev pub invariant-loop-gate : goal.invariant-loop-gate
invariant-loop-gate l = Reads l.area l.gate l.spans
