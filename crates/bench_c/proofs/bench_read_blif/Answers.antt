-- `bench_c::bench_read_blif` meets its contract. Assumes nothing.
use lib.ListN.{length}
use Rattle.blif.specs.Reading.{text_lines, model_length, blif_refusal}
use Rattle.bench_c.proofs.bench_read_blif.Goals as goal

pub returns : goal.returns
returns c =
    let a = c.args in
    let t = c.read_blif in
    let judged = blif_refusal a.text.now (length a.image.now) in
    let value = model_length (text_lines a.text.now) in
    record { value = c.tell.ensures.value judged value t.ensures.value; bytes_after = c.tell.ensures.out_after judged value t.ensures.value; image_after = t.ensures.image_after }
