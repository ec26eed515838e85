use Rattle.texts.proofs.Reading.{Reading}
use Rattle.texts.proofs.read_words.Given as goal

abbrev pub invariant-loop-at : goal.invariant-loop-at
invariant-loop-at l = Reading l.text l.starts l.lines l.st l.at l.n
