-- `average::HeldRows::walk_block` meets its contract: both rows read the words of one block. Assumes nothing.
use Prim.Native.Nat.{◌*◌}
use native.Mathlib.Omega.{arith}
use Rattle.rows.specs.Rows.{row_length}
use Rattle.signals.specs.Signals.{lane_count}
use Rattle.average.proofs.BlockWords.{values-from}
use Rattle.average.proofs.HeldRows.walk_block.Goals as goal

pub walk_rows-requires-clause-values_from : goal.walk_rows-requires-clause-values_from
walk_rows-requires-clause-values_from g c =
    let a = c.args in
    let made = c.block_patterns-patterns in
    let each = rw c.inputs.ensures at made.ensures.by_index in
    λ n from to.
    values-from a.walk.now.area.now made.result c.requires.planned.0.0.net c.live_words.result (lane_count * a.block) (row_length * n) (omega arith)
    (omega arith) (omega arith) each c.live_words.ensures
