-- `rules::pins_sound` meets its contract: each arm tests for its count. Assumes nothing.
use mathlib.Core.Path.{◌≡◌, sym, ◌∙◌}
use native.Mathlib.Omega.{arith}
use lib.ListN.{length}
use Rattle.rules.proofs.Pins.{pass-none, pass-one, pass-two, pass-three, pass-four}
use Rattle.rules.proofs.pins_sound.Goals.{Start}
use Rattle.rules.proofs.pins_sound.Goals as goal

four : (s : Start) → length s.args.pins ≡ 4
four s = omega arith

pub returns-in-0 : goal.returns-in-0
returns-in-0 c = c.pins_below.ensures ∙ sym (pass-none c.args.limit c.args.pins (four (goal.at.returns-in-0 c).Start) c.in-0.is)

pub returns-in-1 : goal.returns-in-1
returns-in-1 c = c.pins_below-in-1.ensures ∙ sym (pass-one c.args.limit c.args.pins (four (goal.at.returns-in-1 c).Start) c.in-1.is)

pub returns-in-2 : goal.returns-in-2
returns-in-2 c = c.pins_below-in-2.ensures ∙ sym (pass-two c.args.limit c.args.pins (four (goal.at.returns-in-2 c).Start) c.in-2.is)

pub returns-in-3 : goal.returns-in-3
returns-in-3 c = c.pins_below-in-3.ensures ∙ sym (pass-three c.args.limit c.args.pins (four (goal.at.returns-in-3 c).Start) c.in-3.is)

pub returns-in_default : goal.returns-in_default
returns-in_default c =
    let most : c.args.count ≡ 4 = omega arith in
    c.pins_below-in_default.ensures ∙ sym (pass-four c.args.limit c.args.pins (four (goal.at.returns-in_default c).Start) most)
