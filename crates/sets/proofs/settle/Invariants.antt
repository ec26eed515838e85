use Rattle.sets.specs.Branches.{Settled}
use Rattle.sets.proofs.settle.Given as goal

abbrev pub invariant-loop-gate : goal.invariant-loop-gate
invariant-loop-gate l = Settled l.initial.area l.area l.marks
