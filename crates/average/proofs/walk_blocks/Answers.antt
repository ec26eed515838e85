-- `average::walk_blocks` meets its contract: block after block, the patterns before it are done. Assumes nothing.
use Rattle.std.proofs.Common.{ℕ, ◌+◌, ◌*◌, refl}
use Rattle.lists.proofs.Parts.{zeros-at}
use Rattle.rows.specs.Rows.{row_words, row_length}
use Rattle.average.proofs.Runs.{held_none}
use Rattle.std.proofs.Math.ListN.{replicate, length-replicate}
use Rattle.average.proofs.walk_blocks.Goals as goal

pub loop-block-init : goal.loop-block-init
loop-block-init g c = (
  (
    record { long = length-replicate {A = ℕ} row_words 0; sure = λ t l input few. zeros-at row_words (row_length * t + l) },
    held_none c.args.area.now c.args.unseen.now (replicate row_words 0) c.requires.planned.0.net c.requires.planned.2,
  ),
  c.requires.done,
  refl,
)
