-- `statements::Part::after_line` meets its contract. Assumes nothing.
use mathlib.Core.Path.{ap, sym, ◌∙◌}
use mathlib.Core.List.{◌∷◌}
use native.Mathlib.Omega.{arith}
use Rattle.statements.specs.Fit.{after_value, value_of}
use Rattle.statements.proofs.Fitting.{bare, bare-many, row-many, row-right, row-wrong, neither}
use Rattle.statements.proofs.Part.after_line.Goals as goal

pub returns-in-0 : goal.returns-in-0
returns-in-0 c =
    let a = c.args in
    c.after_value.ensures
    ∙ ap (after_value a.width a.ending) c.value_of.ensures
    ∙ bare a.width a.ending (a.first.now ∷ a.self.now) c.if-width-eq0.true (omega (arith, c.count.ensures, c.in-0.is))

pub returns-in-1 : goal.returns-in-1
returns-in-1 c =
    let a = c.args in
    c.after_value-in-1.ensures
    ∙ ap (after_value a.width a.ending) (c.value_of-in-1.ensures ∙ ap value_of c.word.ensures)
    ∙ row-right a.width a.ending (a.first.now ∷ a.self.now) c.if-width-ne0.true (omega (arith, c.count.ensures, c.in-1.is)) (sym c.is_row.ensures ∙ c.if-is_row.true)

pub returns-in_default : goal.returns-in_default
returns-in_default c = row-many c.args.width c.args.ending _ c.if-width-eq0.false (λ e. omega (arith, c.count.ensures, c.in-0.is))

pub returns-in_default-2 : goal.returns-in_default-2
returns-in_default-2 c =
    row-wrong c.args.width c.args.ending _ c.if-width-ne0.true (omega (arith, c.count.ensures, c.in-1.is)) (sym c.is_row.ensures ∙ c.if-is_row.false)

pub returns-in_default-3 : goal.returns-in_default-3
returns-in_default-3 c = bare-many c.args.width c.args.ending _ c.if-width-ne0.false (λ e. omega (arith, c.count.ensures, c.in-1.is))

pub returns-in_default-4 : goal.returns-in_default-4
returns-in_default-4 c = neither c.args.width c.args.ending _ (λ e. omega (arith, c.count.ensures)) (λ e. omega (arith, c.count.ensures))
