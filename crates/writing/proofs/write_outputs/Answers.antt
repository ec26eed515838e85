-- `writing::write_outputs` meets its contract: after k turns the first k words are stored. Assumes nothing.
use Prim.Native.Nat.{◌+◌, ◌*◌}
use mathlib.Core.Path.{refl, ap, ◌∙◌}
use native.Mathlib.Omega.{arith}
use lib.ListN.{length}
use lib.Seq.{length-sets}
use Rattle.lists.specs.Lists.{joined}
use Rattle.lists.proofs.Joined.{length-joined, joined-turn}
use Rattle.image.specs.Image.{record_bytes, output_bytes, middle_bytes}
use Rattle.meaning.specs.Net.{source_of}
use Rattle.writing.specs.Written.{output_in}
use Rattle.writing.proofs.write_outputs.Goals as goal

pub loop-k-preserved : goal.loop-k-preserved
loop-k-preserved c =
    let l = c.loop-k in
    let a = c.args in
    let word = output_in a.model.now.sources.inputs a.place.now a.model.now.outs.now in
    let source = c.source_of-source.ensures.0 ∙ ap (source_of a.model.now.sources.inputs a.place.now) c.entry.ensures in
    let new = joined-turn word a.image.now l.image _ (record_bytes * length a.model.now.heads.now) l.k (middle_bytes (length a.model.now.heads.now) l.k)
    (omega (arith, length-joined word output_bytes (λ i. refl) l.k)) l.invariant.1 (rw source at c.write_output.ensures) in
    (ap length new ∙ length-sets a.image.now (record_bytes * length a.model.now.heads.now) (joined word (l.k + 1)), new)
