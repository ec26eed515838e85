-- `bench_c::bench_write_image` meets its contract. Assumes nothing.
use lib.ListN.{length}
use Rattle.calls.specs.Judgements.{write_image, judgement}
use Rattle.written.specs.Image.{area_image_length}
use Rattle.bench_c.proofs.bench_write_image.Goals as goal

pub returns : goal.returns
returns c =
    let a = c.args in
    let t = c.write_image in
    let judged = judgement a.area.now (write_image (length a.image.now)) in
    let value = area_image_length a.area.now in
    record { value = c.tell.ensures.value judged value t.ensures.value; bytes_after = c.tell.ensures.out_after judged value t.ensures.value; image_after = t.ensures.image_after }
