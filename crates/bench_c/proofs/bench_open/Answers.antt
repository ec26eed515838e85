-- `bench_c::bench_open` meets its contract. Assumes nothing.
use mathlib.Core.Path.{◌∙◌}
use Rattle.calls.specs.Calls.{open_live}
use Rattle.calls.specs.Judgements.{open_image, judgement}
use Rattle.bench.proofs.Answered.{opened-answer}
use Rattle.bench_c.proofs.bench_open.Goals as goal

pub returns : goal.returns
returns c =
    let a = c.args in
    let t = c.open in
    let judged = judgement a.area.now (open_image a.image.now) in
    let value = open_live a.image.now in
    record { value = c.tell.ensures.value judged value (t.ensures.value ∙ opened-answer judged value); live_after = c.tell.ensures.out_after judged value (t.ensures.value ∙ opened-answer judged value); area_after = t.ensures.area_after }
