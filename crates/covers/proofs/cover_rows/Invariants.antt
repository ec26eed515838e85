use Prim.Native.Nat.{◌-◌, ◌≤◌}
use mathlib.Core.Path.{◌≡◌}
use lib.Bits.{bit_or}
use Rattle.model.specs.Model.{cover_of}
use Rattle.model.specs.Tables.{lines_in}
use Rattle.covers.specs.Cover.{some_meets, table_of}
use Rattle.covers.proofs.cover_rows.Given as goal

abbrev pub invariant-loop-at : goal.invariant-loop-at
invariant-loop-at l =
    (l.at ≤ l.words.count)
    × (bit_or l.rows (table_of l.width (some_meets (cover_of (lines_in l.words l.at)))) ≡ table_of l.width (some_meets (cover_of (lines_in l.words l.from))))

abbrev pub decreases-loop-at : goal.decreases-loop-at
decreases-loop-at l = l.words.count - l.at
