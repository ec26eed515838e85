-- `bench::average` meets its contract. Assumes nothing.
use mathlib.Core.Path.{refl, sym, ◌∙◌}
use Rattle.calls.specs.Judgements.{take_average, argument_judgement}
use Rattle.calls.proofs.Judgements.{lent-fine}
use Rattle.refusal.proofs.Laws.{passed-on}
use Rattle.bench.proofs.average.Goals as goal

pub average-requires : goal.average-requires
unfolding argument_judgement
average-requires c =
    let at-judge-average = c.judge_average in
    let a = c.args in
    let p = lent-fine a.area.now (take_average a.weights.now) (sym at-judge-average.ensures ∙ c.in_ok-judge_average.was) in record { workable = p.0.workable; weights_value = p.1 }

pub returns : goal.returns
returns c =
    let at-judge-average = c.judge_average in
    let at-average = c.average in
    let e = sym at-judge-average.ensures ∙ c.in_ok-judge_average.was in record { value = rw (e, at-average.ensures.value) refl; area_after = rw e at-average.ensures.area_after }

pub returns-in_err-judge_average : goal.returns-in_err-judge_average
returns-in_err-judge_average c =
    let at-judge-average = c.judge_average in
    let e = sym at-judge-average.ensures ∙ c.in_err-judge_average.was in record { value = rw (passed-on c.from_residual.result c.in_err-judge_average.field-0.0 c.from_residual.ensures.1, e) refl; area_after = rw e refl }
