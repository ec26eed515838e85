-- `bench_c::bench_shared_reliability` meets its contract. Assumes nothing.
use Rattle.shared.specs.Shared.{shared_image_judgement, image_shared}
use Rattle.bench_c.proofs.bench_shared_reliability.Goals as goal

pub returns : goal.returns
returns c =
    let a = c.args in
    let t = c.shared_reliability in
    let judged = shared_image_judgement a.image.now in
    let value = image_shared a.image.now a.pattern in
    record { value = c.tell.ensures.value judged value t.ensures; units_after = c.tell.ensures.out_after judged value t.ensures }
