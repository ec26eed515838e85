use Rattle.plan.specs.Plan.{InputBits}
use Rattle.plan.proofs.input_bits.Given as goal

abbrev pub invariant-loop-input : goal.invariant-loop-input
invariant-loop-input l = InputBits l.unseen l.input
