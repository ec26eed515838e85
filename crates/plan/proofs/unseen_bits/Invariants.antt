use Rattle.plan.specs.Plan.{Unseen}
use Rattle.plan.proofs.unseen_bits.Given as goal

abbrev pub invariant-loop-gate : goal.invariant-loop-gate
invariant-loop-gate l = Unseen l.area l.unseen l.gate
