use Rattle.signals.proofs.Lanes.{Packed}
use Rattle.signals.proofs.input_word.Given as goal

abbrev pub invariant-loop-l : goal.invariant-loop-l
invariant-loop-l l = Packed l.patterns l.input l.word l.l
