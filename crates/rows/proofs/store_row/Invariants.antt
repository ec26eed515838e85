use Prim.Native.Nat.{ℕ, ◌+◌, ◌*◌, ◌<◌}
use mathlib.Core.Logic.{◌≢◌}
use mathlib.Core.Path.{◌≡◌}
use lib.ListN.{length, get_or}
use Rattle.rows.specs.Rows.{row_length, row_words}
use Rattle.rows.proofs.store_row.Given as goal

abbrev pub invariant-loop-l : goal.invariant-loop-l
invariant-loop-l l =
    (length l.rows ≡ row_words) × ((i : ℕ) → i < l.l → get_or l.rows (row_length * l.source + i) 0 ≡ get_or l.row i 0)
    × ((t i : ℕ) → t ≢ l.source → i < row_length → get_or l.rows (row_length * t + i) 0 ≡ get_or l.initial.rows (row_length * t + i) 0)
