-- `bench::count_seen` meets its contract: either method is judged alike. Assumes nothing.
use mathlib.Core.Path.{◌≡◌, refl, sym, ◌∙◌}
use lib.ListN.{length}
use Rattle.area.specs.Layout.{inputs, gates}
use Rattle.calls.specs.Judgements.{Call, count_seen, argument_judgement, lent_judgement}
use Rattle.calls.specs.Calls.{counts_left}
use Rattle.calls.proofs.Judgements.{lent-fine, counts-fine}
use Rattle.refusal.proofs.Laws.{passed-on}
use Rattle.bench.proofs.count_seen.Goals.{After-judge_counts}
use Rattle.bench.proofs.count_seen.Goals as goal

module _ (c : After-judge_counts) where
  abbrev asked : Call
  asked = count_seen c.args.method c.args.patterns.now (length c.args.counts.now)

  judged : c.judge_counts.result ≡ lent_judgement c.args.area.now asked
  unfolding lent_judgement argument_judgement
  judged = c.judge_counts.ensures

pub count-requires : goal.count-requires
unfolding argument_judgement
count-requires c =
    let a = c.args in
    let p = lent-fine a.area.now (asked (goal.at.count-requires c).After-judge_counts) (sym (judged (goal.at.count-requires c).After-judge_counts) ∙ c.in_ok-judge_counts.was) in
    let fit = counts-fine (inputs a.area.now) (gates a.area.now) a.patterns.now (length a.counts.now) p.1 in
    (p.0.workable.net, fit.0, fit.1)

pub returns : goal.returns
unfolding counts_left
returns c =
    let e = sym (judged (goal.at.returns c).After-judge_counts) ∙ c.in_ok-judge_counts.was in record { value = rw e refl; counts_after = rw e c.count.ensures }

pub returns-in_err-judge_counts : goal.returns-in_err-judge_counts
unfolding counts_left
returns-in_err-judge_counts c =
    let e = sym (judged (goal.at.returns-in_err-judge_counts c).After-judge_counts) ∙ c.in_err-judge_counts.was in record { value = rw (passed-on c.from_residual.result c.in_err-judge_counts.field-0.0 c.from_residual.ensures.1, e) refl; counts_after = rw e refl }
