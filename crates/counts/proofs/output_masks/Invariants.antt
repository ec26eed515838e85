use lib.ListN.{take}
use Rattle.area.specs.Layout as layout
use Rattle.counts.specs.Counts.{OutputMasks}
use Rattle.counts.proofs.output_masks.Given as goal

abbrev pub invariant-loop-k : goal.invariant-loop-k
invariant-loop-k l = OutputMasks (take l.k (layout.output_words l.area)) l.by l.masks
