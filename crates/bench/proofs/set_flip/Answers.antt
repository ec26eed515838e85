-- `bench::set_flip` meets its contract. Assumes nothing.
use mathlib.Core.Path.{refl, sym, ◌∙◌}
use Rattle.rules.proofs.Sound.{workable, stopped-words}
use Rattle.calls.specs.Judgements.{set_flip}
use Rattle.calls.proofs.Judgements.{lent-stopped}
use Rattle.refusal.proofs.Laws.{passed-on}
use Rattle.bench.proofs.set_flip.Goals as goal

pub count_live-counted-requires : goal.count_live-counted-requires
count_live-counted-requires c =
    (workable c.args.area.now (sym c.judge_words.ensures ∙ c.in_ok-judge_words.was)).net

pub set_counted-requires : goal.set_counted-requires
set_counted-requires c =
    let counted = c.count_live-counted.ensures in record { area_value = (sym c.judge_words.ensures ∙ c.in_ok-judge_words.was, counted.sum_value.0); by_index = counted.by_index }

pub returns : goal.returns
returns c = record { value = c.set_counted.ensures.value; area_after = c.set_counted.ensures.area_after }

pub returns-in_err-judge_words : goal.returns-in_err-judge_words
returns-in_err-judge_words c =
    let a = c.args in
    let stopped = stopped-words a.area.now _ _ (sym c.judge_words.ensures ∙ c.in_err-judge_words.was) in
    let judged = lent-stopped a.area.now (set_flip a.gate a.kind a.field) _ _ stopped in record { value = rw (passed-on c.from_residual.result c.in_err-judge_words.field-0.0 c.from_residual.ensures.1, judged) refl; area_after = rw judged refl }
