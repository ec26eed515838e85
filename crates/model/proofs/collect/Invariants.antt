use Rattle.statements.specs.Walk.{Walks}
use Rattle.model.proofs.Collecting.{Collecting}
use Rattle.model.proofs.collect.Given as goal

abbrev pub invariant-loop-line : goal.invariant-loop-line
invariant-loop-line l =
    (goal.iterator-loop-line).can_next l.line-iterator
    × (goal.iterator-loop-line).is_finite l.line-iterator
    × Walks l.words l.line-iterator
    × Collecting l.words.text.now l.words.starts.now l.words.lines.now l.words.count l.wanted l.initial.names l.initial.numbers l.from l.names l.numbers l.count l.line-iterator.at
