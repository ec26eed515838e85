-- The entries passed are what the calls gave.
use Prim.Native.Nat.{ℕ, ◌<◌}
use mathlib.Core.Path.{◌≡◌}
use lib.ListN.{length, get_or}
use Rattle.rows.specs.Rows.{row_length}
use Rattle.rows.proofs.row_of.Given as goal

abbrev pub invariant-loop-l : goal.invariant-loop-l
invariant-loop-l g l = (length l.row ≡ row_length) × ((m : ℕ) → m < l.l → goal.F-post g l.entry m (get_or l.row m 0))
