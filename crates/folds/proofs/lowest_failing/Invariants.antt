use Rattle.folds.specs.Failing.{InputsBelow}
use Rattle.folds.proofs.lowest_failing.Given as goal

abbrev pub invariant-loop-i : goal.invariant-loop-i
invariant-loop-i l = InputsBelow l.area l.gate l.i
