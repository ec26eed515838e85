use Rattle.counts.specs.Counts.{MaskPassed}
use Rattle.counts.proofs.pass_mask.Given as goal

abbrev pub invariant-loop-i : goal.invariant-loop-i
invariant-loop-i l = MaskPassed l.area l.words l.gate l.i l.initial.masks l.masks
