use mathlib.Core.Path.{◌≡◌}
use Rattle.statements.specs.declared.Phase.TheVariants.{Before}
use Rattle.texts.specs.Words.{held}
use Rattle.statements.specs.Fit.{fault}
use Rattle.statements.specs.Lines.{lines_of}
use Rattle.statements.specs.Walk.{Walks}
use Rattle.statements.proofs.Faults.{fault_from}
use Rattle.statements.proofs.fault.Given as goal

abbrev pub invariant-loop-line : goal.invariant-loop-line
invariant-loop-line l =
    (goal.iterator-loop-line).can_next l.line-iterator
    × (goal.iterator-loop-line).is_finite l.line-iterator
    × Walks l.words l.line-iterator
    × (fault_from l.words.text.now l.words.starts.now l.words.lines.now l.words.count l.last l.phase l.line-iterator.at
    ≡ fault Before (lines_of (held l.words.text.now l.words.starts.now l.words.lines.now 0 l.words.count)) l.last)
