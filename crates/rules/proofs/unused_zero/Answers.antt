-- `rules::unused_zero` meets its contract: each arm tests for its count. Assumes nothing.
use mathlib.Core.Bool.{true}
use mathlib.Core.Path.{◌≡◌, sym, ◌∙◌}
use native.Mathlib.Omega.{arith}
use borrow.Author.Tests.{lt-ltb}
use lib.Dec.{ltb}
use lib.ListN.{length, get_or}
use Rattle.rules.proofs.Pins.{unused-none, unused-one, unused-two, unused-three, unused-four}
use Rattle.rules.proofs.unused_zero.Goals.{After-above-third, Start}
use Rattle.rules.proofs.unused_zero.Goals as goal

four : (s : Start) → length s.args.pins ≡ 4
four s = omega arith

-- the bounds of pins that are not asked about
module _ (c : After-above-third) where
  first : ltb (get_or c.args.pins 0 0) c.above-first.result ≡ true
  first = lt-ltb (get_or c.args.pins 0 0) c.above-first.result c.above-first.ensures

  second : ltb (get_or c.args.pins 1 0) c.above-second.result ≡ true
  second = lt-ltb (get_or c.args.pins 1 0) c.above-second.result c.above-second.ensures

  third : ltb (get_or c.args.pins 2 0) c.above-third.result ≡ true
  third = lt-ltb (get_or c.args.pins 2 0) c.above-third.result c.above-third.ensures

pub returns-in-0 : goal.returns-in-0
returns-in-0 c =
    c.pins_below.ensures ∙ sym (unused-none c.args.pins (four (goal.at.returns-in-0 c).Start) c.in-0.is)

pub returns-in-1 : goal.returns-in-1
returns-in-1 c =
    c.pins_below-in-1.ensures ∙ sym (unused-one c.args.pins (four (goal.at.returns-in-1 c).Start) _ c.in-1.is (first (goal.at.returns-in-1 c).After-above-third))

pub returns-in-2 : goal.returns-in-2
returns-in-2 c =
    c.pins_below-in-2.ensures ∙ sym (unused-two c.args.pins (four (goal.at.returns-in-2 c).Start) _ _ c.in-2.is (first (goal.at.returns-in-2 c).After-above-third) (second (goal.at.returns-in-2 c).After-above-third))

pub returns-in-3 : goal.returns-in-3
returns-in-3 c =
    let there = (goal.at.returns-in-3 c).After-above-third in
    c.pins_below-in-3.ensures ∙ sym (unused-three c.args.pins (four (goal.at.returns-in-3 c).Start) _ _ _ c.in-3.is (first there) (second there) (third there))

pub returns-in_default : goal.returns-in_default
returns-in_default c =
    let most : c.args.count ≡ 4 = omega arith in
    sym (unused-four c.args.pins (four (goal.at.returns-in_default c).Start) most)
