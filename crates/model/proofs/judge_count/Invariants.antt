use Prim.Native.Nat.{◌≤◌}
use mathlib.Core.Path.{◌≡◌}
use Rattle.statements.specs.Walk.{Walks}
use Rattle.model.specs.Model.{listed}
use Rattle.model.specs.Counts.{over_fault}
use Rattle.model.specs.Tables.{lines_from}
use Rattle.model.proofs.judge_count.Given as goal

abbrev pub invariant-loop-line : goal.invariant-loop-line
invariant-loop-line l =
    (goal.iterator-loop-line).can_next l.line-iterator
    × (goal.iterator-loop-line).is_finite l.line-iterator
    × Walks l.words l.line-iterator
    × (l.left ≤ l.most)
    × (over_fault (listed l.wanted (lines_from l.words.text.now l.words.starts.now l.words.lines.now l.words.count l.line-iterator.at)) l.left
    ≡ over_fault (listed l.wanted (lines_from l.words.text.now l.words.starts.now l.words.lines.now l.words.count 0)) l.most)
