-- `bench_c::bench_average` meets its contract. Assumes nothing.
use Rattle.calls.specs.Calls.{average_of}
use Rattle.calls.specs.Judgements.{take_average, judgement}
use Rattle.bench_c.proofs.bench_average.Goals as goal

pub returns : goal.returns
returns c =
    let a = c.args in
    let t = c.average in
    let judged = judgement a.area.now (take_average a.weights.now) in
    let value = average_of a.area.now a.weights.now in
    record { value = c.tell.ensures.value judged value t.ensures.value; units_after = c.tell.ensures.out_after judged value t.ensures.value; area_after = t.ensures.area_after }
