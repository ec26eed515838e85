-- `comparison::read_module` meets its contract: its opening decides. Assumes nothing.
use mathlib.Core.Path.{refl, sym, ap, ◌∙◌}
use Rattle.refusal.proofs.Laws.{refused-not-fine, answer-on}
use Rattle.std.specs.Prelude.{Ok}
use Rattle.comparison.proofs.Opened.{opened-done, opened-refused, opened-left}
use Rattle.calls.specs.Judgements.{image_judgement}
use Rattle.comparison.proofs.read_module.Goals as goal

pub opened_module-requires : goal.opened_module-requires
opened_module-requires c =
    let bs = c.args.image.now in
    let t = c.open in
    let told = opened-done bs _ _ t.ensures.value c.in_ok-live.was in record { area_value = (t.ensures.area_after ∙ opened-left bs told.0, told.0, told.1); most_patterns_in_bounds = c.requires }

pub shape_of-figures : goal.shape_of-figures
shape_of-figures c = c.opened_module.auto.figures

pub returns : goal.returns
returns c =
    let bs = c.args.image.now in
    let told = opened-done bs _ _ c.open.ensures.value
    c.in_ok-live.was in
    let made = c.opened_module.ensures in record { value = rw told.0 (ap Ok made.value); q_after = λ fine. made.by_index }

pub returns-in_err-live : goal.returns-in_err-live
returns-in_err-live c =
    let bs = c.args.image.now in
    let e = opened-refused bs _ _ c.open.ensures.value c.in_err-live.was in
    record {
      value = answer-on (image_judgement bs) _ _ _ e c.from_residual.ensures.1;
      q_after = λ fine. refused-not-fine _ _ (sym e ∙ fine);
    }
