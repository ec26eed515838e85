-- `writing::write_image` meets its contract. Assumes nothing.
use lib.ListN.{length}
use Rattle.placing.specs.Placing.{sources_of}
use Rattle.writing.specs.Written.{table_at, held_net}
use Rattle.writing.proofs.Whole.{whole}
use Rattle.writing.proofs.write_image.Goals as goal

pub returns : goal.returns
unfolding held_net
returns c =
    let a = c.args in
    whole (sources_of a.model.now.sources.pins.now a.model.now.sources.counts.now) (table_at a.model.now.words.now.text.now a.model.now.words.now.starts.now a.model.now.words.now.lines.now a.model.now.words.now.count a.model.now.heads.now a.model.now.sources.counts.now)
    a.model.now.sources.inputs (length a.model.now.heads.now) (length a.model.now.outs.now) a.placement.now.place.now a.placement.now.order.now a.model.now.outs.now a.image.now _ _ _
    c.write_gates.ensures
    c.write_outputs.ensures
    c.write_trailer.ensures
