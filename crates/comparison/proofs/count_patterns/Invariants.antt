use Prim.Native.Nat.{ℕ, ◌≤◌}
use mathlib.Core.List.{List}
use mathlib.Core.Path.{◌≡◌}
use lib.ListN.{length, get_or}
use Rattle.comparison.specs.declared.Verdict.{Verdict}
use Rattle.comparison.specs.declared.Verdict.TheVariants.{First, Second, Undecided}
use Rattle.comparison.specs.Standing.{verdict, how_often}
use Rattle.comparison.proofs.count_patterns.Given as goal

-- the verdict of pattern q
abbrev pub verdict_at : ℕ → List ℕ → List ℕ → ℕ → Verdict
verdict_at errors first second q = verdict errors (get_or first q 0) (get_or second q 0)

abbrev pub invariant-loop-one : goal.invariant-loop-one
invariant-loop-one l =
    (goal.iterator-loop-one).can_next l.one-iterator
    × (goal.iterator-loop-one).is_finite l.one-iterator
    × ((l.counts.first ≤ length l.yielded) × (l.counts.second ≤ length l.yielded) × (l.counts.neither ≤ length l.yielded))
    × (l.counts.first ≡ how_often First (verdict_at l.errors l.fn.first l.fn.second) (length l.yielded))
    × (l.counts.second ≡ how_often Second (verdict_at l.errors l.fn.first l.fn.second) (length l.yielded))
    × (l.counts.neither ≡ how_often Undecided (verdict_at l.errors l.fn.first l.fn.second) (length l.yielded))
