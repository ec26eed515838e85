use mathlib.Core.Path.{◌≡◌}
use lib.ListN.{length}
use Rattle.statements.specs.Walk.{Walks}
use Rattle.model.proofs.Heading.{Heading}
use Rattle.model.proofs.heads.Given as goal

abbrev pub invariant-loop-line : goal.invariant-loop-line
invariant-loop-line l =
    (goal.iterator-loop-line).can_next l.line-iterator
    × (goal.iterator-loop-line).is_finite l.line-iterator
    × Walks l.words l.line-iterator
    × (length l.heads ≡ length l.initial.heads)
    × Heading l.words.text.now l.words.starts.now l.words.lines.now l.words.count l.heads l.count l.line-iterator.at
