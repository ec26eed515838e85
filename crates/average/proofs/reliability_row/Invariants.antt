use Prim.Native.Nat.{ℕ, ◌<◌}
use mathlib.Core.Path.{◌≡◌}
use lib.ListN.{get_or, drop}
use Rattle.area.specs.Figures.{product_from}
use Rattle.area.specs.Layout.{output_words}
use Rattle.rounding.specs.Rounding.{units_in_one}
use Rattle.rows.specs.Rows.{row_length, RowFits}
use Rattle.average.specs.Blocks.{row_word}
use Rattle.average.proofs.reliability_row.Given as goal

abbrev pub invariant-loop-k : goal.invariant-loop-k
invariant-loop-k l =
    RowFits l.row
    × ((m : ℕ) → m < row_length
    → product_from (row_word l.rows m) (get_or l.row m 0) (drop l.k (output_words l.area)) ≡ product_from (row_word l.rows m) units_in_one (output_words l.area))
