use Rattle.resolve.proofs.Lookup.{Looking}
use Rattle.resolve.proofs.resolve.Given as goal

abbrev pub invariant-loop-i : goal.invariant-loop-i
invariant-loop-i l =
    Looking l.words.text.now l.names.starts.now l.names.count l.words.starts.now l.words.lines.now l.start l.count l.initial.table l.table l.base l.i
