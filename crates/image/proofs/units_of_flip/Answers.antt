-- `image::units_of_flip` meets its contract: each answer of reading the field is that of its refusal. Assumes nothing.
use mathlib.Core.Path.{sym, ap, ◌∙◌}
use Rattle.std.specs.Prelude.{Ok, Err}
use Rattle.refusal.proofs.Laws.{answer-fine, answer-refused}
use Rattle.image.proofs.Flips.{flip-read, flip-above, flip-bad}
use Rattle.image.proofs.units_of_flip.Goals as goal

pub returns-in-Ok : goal.returns-in-Ok
returns-in-Ok c =
    let a = c.args in
    let said = flip-read a.unreadable a.place a.kind a.field c.in-Ok.units (sym c.read_units.ensures ∙ c.in-Ok.is) in
    ap Ok (sym said.1) ∙ sym (answer-fine _ _ said.0)

pub returns-in-Unreadable : goal.returns-in-Unreadable
returns-in-Unreadable c =
    let a = c.args in
    sym (answer-refused _ _ _ _ (flip-bad a.unreadable a.place a.kind a.field (sym c.read_units.ensures ∙ c.in-Err.is ∙ ap Err c.in-Unreadable.is)))

pub returns-in-AboveHalf : goal.returns-in-AboveHalf
returns-in-AboveHalf c =
    let a = c.args in
    sym (answer-refused _ _ _ _ (flip-above a.unreadable a.place a.kind a.field (sym c.read_units.ensures ∙ c.in-Err.is ∙ ap Err c.in-AboveHalf.is)))
