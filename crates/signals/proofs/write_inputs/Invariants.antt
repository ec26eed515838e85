use Rattle.signals.specs.Signals.{InputWords}
use Rattle.signals.proofs.write_inputs.Given as goal

abbrev pub invariant-loop-input : goal.invariant-loop-input
invariant-loop-input l = InputWords l.input l.patterns l.words
