use Rattle.counts.proofs.Readers.{Entering}
use Rattle.counts.proofs.enter_gate.Given as goal

abbrev pub invariant-loop-i : goal.invariant-loop-i
invariant-loop-i l = Entering l.area l.gate l.i l.spans
