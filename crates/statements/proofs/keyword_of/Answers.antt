-- `statements::keyword_of` meets its contract. Assumes nothing.
use mathlib.Core.Path.{sym, ◌∙◌}
use Rattle.statements.specs.Fit.{key_model, key_inputs, key_outputs, key_names, key_end}
use Rattle.statements.proofs.Fitting.{is-model, is-inputs, is-outputs, is-names, is-end, is-other}
use Rattle.statements.proofs.keyword_of.Goals as goal

pub returns-then-same : goal.returns-then-same
unfolding key_model key_inputs key_outputs key_names key_end
returns-then-same c = is-model c.args.w.now (sym c.same.ensures ∙ c.if-same.true)

pub returns-then-same-2 : goal.returns-then-same-2
unfolding key_model key_inputs key_outputs key_names key_end
returns-then-same-2 c =
    is-inputs c.args.w.now
    (sym c.same.ensures ∙ c.if-same.false)
    (sym c.same-2.ensures ∙ c.if-same-2.true)

pub returns-then-same-3 : goal.returns-then-same-3
unfolding key_model key_inputs key_outputs key_names key_end
returns-then-same-3 c =
    is-outputs c.args.w.now
    (sym c.same.ensures ∙ c.if-same.false)
    (sym c.same-2.ensures ∙ c.if-same-2.false)
    (sym c.same-3.ensures ∙ c.if-same-3.true)

pub returns-then-same-4 : goal.returns-then-same-4
unfolding key_model key_inputs key_outputs key_names key_end
returns-then-same-4 c =
    is-names c.args.w.now
    (sym c.same.ensures ∙ c.if-same.false)
    (sym c.same-2.ensures ∙ c.if-same-2.false)
    (sym c.same-3.ensures ∙ c.if-same-3.false)
    (sym c.same-4.ensures ∙ c.if-same-4.true)

pub returns-then-same-5 : goal.returns-then-same-5
unfolding key_model key_inputs key_outputs key_names key_end
returns-then-same-5 c =
    is-end c.args.w.now
    (sym c.same.ensures ∙ c.if-same.false)
    (sym c.same-2.ensures ∙ c.if-same-2.false)
    (sym c.same-3.ensures ∙ c.if-same-3.false)
    (sym c.same-4.ensures ∙ c.if-same-4.false)
    (sym c.same-5.ensures ∙ c.if-same-5.true)

pub returns : goal.returns
unfolding key_model key_inputs key_outputs key_names key_end
returns c =
    is-other c.args.w.now
    (sym c.same.ensures ∙ c.if-same.false)
    (sym c.same-2.ensures ∙ c.if-same-2.false)
    (sym c.same-3.ensures ∙ c.if-same-3.false)
    (sym c.same-4.ensures ∙ c.if-same-4.false)
    (sym c.same-5.ensures ∙ c.if-same-5.false)
