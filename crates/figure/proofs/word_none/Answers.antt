-- `figure::word_none` meets its contract: with no pin to fold the last value is 0. Assumes nothing.
use Prim.Native.Nat.{ℕ, ◌+◌, ◌*◌, ◌/◌, ◌%◌, ◌^◌}
use mathlib.Core.Bool.{Bool, cond}
use mathlib.Core.Path.{refl, sym, ap, ◌∙◌}
use borrow.Author.Tests.{eq-eqb}
use Rattle.rounding.specs.Rounding.{units_in_one}
use Rattle.figure.specs.Figure.{gate_step}
use Rattle.figure.specs.Steps.{last_value, pins_word}
use Rattle.figure.proofs.word_none.Goals as goal

pub returns : goal.returns
unfolding pins_word last_value
returns c =
    let s = c.args in
    let right = s.table / 2 ^ s.start % 2 in
    c.word_of.ensures
    ∙ ap (λ (r : ℕ). 2 * gate_step units_in_one 0 s.flip + r) c.answer_at.ensures
    ∙ ap (λ (b : Bool). 2 * gate_step units_in_one (cond b 0 units_in_one) s.flip + right) (sym (eq-eqb right right refl))
