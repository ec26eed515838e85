-- `bench::toggle_input` meets its contract. Assumes nothing.
use mathlib.Core.Path.{refl, sym, ap, ◌∙◌}
use native.Mathlib.Omega.{arith}
use Rattle.area.specs.Layout.{inputs, gates, outputs}
use Rattle.work.specs.Work.{toggle_words}
use Rattle.calls.specs.Judgements.{toggle_input}
use Rattle.calls.proofs.Judgements.{lent-fine, toggle-fine}
use Rattle.refusal.proofs.Laws.{passed-on}
use Rattle.bench.proofs.toggle_input.Goals as goal

pub toggle-requires : goal.toggle-requires
toggle-requires c =
    let at-judge-toggle = c.judge_toggle in
    let a = c.args in
    let p = lent-fine a.area.now (toggle_input a.input) (sym at-judge-toggle.ensures ∙ c.in_ok-judge_toggle.was) in record { workable = p.0.workable; input_bound = omega (arith, c.index.ensures, toggle-fine (inputs a.area.now) (gates a.area.now) (outputs a.area.now) a.input p.1) }

pub returns : goal.returns
returns c =
    let at-judge-toggle = c.judge_toggle in
    let at-index = c.index in
    let e = sym at-judge-toggle.ensures ∙ c.in_ok-judge_toggle.was in record { value = rw e refl; area_after = rw e (c.toggle.ensures ∙ ap (toggle_words c.args.area.now) at-index.ensures) }

pub returns-in_err-judge_toggle : goal.returns-in_err-judge_toggle
returns-in_err-judge_toggle c =
    let at-judge-toggle = c.judge_toggle in
    let e = sym at-judge-toggle.ensures ∙ c.in_err-judge_toggle.was in record { value = rw (passed-on c.from_residual.result c.in_err-judge_toggle.field-0.0 c.from_residual.ensures.1, e) refl; area_after = rw e refl }
