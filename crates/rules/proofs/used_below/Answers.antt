-- `rules::used_below` meets its contract: each arm tests for its count. Assumes nothing.
use mathlib.Core.Bool.{true}
use mathlib.Core.Path.{◌≡◌, sym, ◌∙◌}
use native.Mathlib.Omega.{arith}
use borrow.Author.Tests.{lt-ltb}
use lib.Dec.{ltb}
use lib.ListN.{length, get_or}
use Rattle.rules.proofs.Pins.{used-none, used-one, used-two, used-three, used-four}
use Rattle.rules.proofs.used_below.Goals.{After-above-fourth, Start}
use Rattle.rules.proofs.used_below.Goals as goal

four : (s : Start) → length s.args.pins ≡ 4
four s = omega arith

-- the bounds of pins that are not asked about
module _ (c : After-above-fourth) where
  second : ltb (get_or c.args.pins 1 0) c.above-second.result ≡ true
  second = lt-ltb (get_or c.args.pins 1 0) c.above-second.result c.above-second.ensures

  third : ltb (get_or c.args.pins 2 0) c.above-third.result ≡ true
  third = lt-ltb (get_or c.args.pins 2 0) c.above-third.result c.above-third.ensures

  fourth : ltb (get_or c.args.pins 3 0) c.above-fourth.result ≡ true
  fourth = lt-ltb (get_or c.args.pins 3 0) c.above-fourth.result c.above-fourth.ensures

pub returns-in-0 : goal.returns-in-0
returns-in-0 c =
    sym (used-none c.args.pins (four (goal.at.returns-in-0 c).Start) c.args.limit c.in-0.is)

pub returns-in-1 : goal.returns-in-1
returns-in-1 c =
    let there = (goal.at.returns-in-1 c).After-above-fourth in
    c.pins_below.ensures ∙ sym (used-one c.args.pins (four (goal.at.returns-in-1 c).Start) c.args.limit _ _ _ c.in-1.is (second there) (third there) (fourth there))

pub returns-in-2 : goal.returns-in-2
returns-in-2 c =
    c.pins_below-in-2.ensures ∙ sym (used-two c.args.pins (four (goal.at.returns-in-2 c).Start) c.args.limit _ _ c.in-2.is (third (goal.at.returns-in-2 c).After-above-fourth) (fourth (goal.at.returns-in-2 c).After-above-fourth))

pub returns-in-3 : goal.returns-in-3
returns-in-3 c =
    c.pins_below-in-3.ensures ∙ sym (used-three c.args.pins (four (goal.at.returns-in-3 c).Start) c.args.limit _ c.in-3.is (fourth (goal.at.returns-in-3 c).After-above-fourth))

pub returns-in_default : goal.returns-in_default
returns-in_default c =
    let most : c.args.count ≡ 4 = omega arith in
    c.pins_below-in_default.ensures ∙ sym (used-four c.args.pins (four (goal.at.returns-in_default c).Start) c.args.limit most)
