-- `rules::gate_sound` meets its contract: each test that fails decides. Assumes nothing.
use Prim.Native.Nat.{◌+◌, ◌^◌}
use mathlib.Core.Bool.{Bool, true, ◌&&◌}
use mathlib.Core.Path.{◌≡◌, sym, ◌∙◌}
use borrow.Author.Tests.{le-leb, lt-leb}
use lib.Dec.{leb, ltb}
use lib.ListN.{drop}
use Rattle.lists.specs.Lists.{all_zero}
use Rattle.area.specs.Layout.{most_pins, largest_flip, largest_figure, inputs, pin_count, table, pins, flip, figure}
use Rattle.area.specs.Rules.{gate_shape, used_below, gate_sound}
use Rattle.rules.proofs.Parts.{yes, no, passed, failed}
use Rattle.rules.proofs.Pins.{pins_pass, regroup}
use Rattle.rules.proofs.gate_sound.Goals.{After-pins_sound, After-table_fits, Else-count-gt-MOST_PINS, Else-not-pins_sound, Else-not-table_fits, Start}
use Rattle.rules.proofs.gate_sound.Goals as goal

-- the tests of the gate that the call is for, in the order of the code
module _ (s : Start) where
  abbrev Count : Bool
  Count = leb (pin_count s.args.area.now s.args.j) most_pins

  abbrev Table : Bool
  Table = let ws = s.args.area.now in ltb (table ws s.args.j) (2 ^ 2 ^ pin_count ws s.args.j)

  abbrev Pins : Bool
  Pins = let ws = s.args.area.now in pins_pass (inputs ws + s.args.j) (pin_count ws s.args.j) (pins ws s.args.j)

  abbrev Last : Bool
  Last = let ws = s.args.area.now in leb (flip ws s.args.j) largest_flip && leb (figure ws s.args.j) largest_figure

  tests : gate_sound s.args.area.now s.args.j ≡ Count && (Table && (Pins && Last))
  unfolding gate_sound gate_shape
  tests =
      let ws = s.args.area.now in
      let j = s.args.j in
      regroup Count Table (all_zero (drop (pin_count ws j) (pins ws j))) (used_below (inputs ws + j) (pin_count ws j) (pins ws j)) Last

-- and they passed
count-passed : (c : Else-count-gt-MOST_PINS) → Count c.before.before.before.before ≡ true
count-passed c = le-leb _ _ (rw c.pin_count-count.ensures at c.if-count-gt-MOST_PINS.false)

fits : (c : After-table_fits) → c.table_fits.result ≡ Table c.before.before.before.before.before.before
fits c = rw (c.pin_count-count.ensures, c.table.ensures) at c.table_fits.ensures

table-passed : (c : Else-not-table_fits) → Table c.before.before.before.before.before.before.before ≡ true
table-passed c = yes (fits (record { before = c.before.before; type_inv = record { area = c.shared_slice_known-1.given } })) c.if-not-table_fits.false

right : (c : After-pins_sound) → c.pins_sound.result ≡ Pins c.before.before.before.before.before.before.before.before.before.before
right c =
    rw (c.pin_count-count.ensures, c.pins.ensures, c.inputs.ensures) at c.pins_sound.ensures

pins-passed : (c : Else-not-pins_sound) → Pins c.before.before.before.before.before.before.before.before.before.before.before ≡ true
pins-passed c = yes (right (record { before = c.before.before; type_inv = record { area = c.shared_slice_known-1.given } })) c.if-not-pins_sound.false

pub returns-then-count-gt-MOST_PINS : goal.returns-then-count-gt-MOST_PINS
returns-then-count-gt-MOST_PINS c = sym (tests (goal.at.returns-then-count-gt-MOST_PINS c).Start ∙ failed _ (lt-leb _ _ (rw c.pin_count-count.ensures at c.if-count-gt-MOST_PINS.true)))

pub returns-then-not-table_fits : goal.returns-then-not-table_fits
returns-then-not-table_fits c =
    sym (tests (goal.at.returns-then-not-table_fits c).Start ∙ passed _ (count-passed (goal.at.returns-then-not-table_fits c).Else-count-gt-MOST_PINS) ∙ failed _ (no (fits (goal.at.returns-then-not-table_fits c).After-table_fits) c.if-not-table_fits.true))

pub returns-then-not-pins_sound : goal.returns-then-not-pins_sound
returns-then-not-pins_sound c =
    sym (tests (goal.at.returns-then-not-pins_sound c).Start ∙ passed _ (count-passed (goal.at.returns-then-not-pins_sound c).Else-count-gt-MOST_PINS) ∙ passed _ (table-passed (goal.at.returns-then-not-pins_sound c).Else-not-table_fits) ∙ failed _ (no (right (goal.at.returns-then-not-pins_sound c).After-pins_sound) c.if-not-pins_sound.true))

pub returns-then-flip-gt-LARGEST_FLIP : goal.returns-then-flip-gt-LARGEST_FLIP
returns-then-flip-gt-LARGEST_FLIP c =
    sym (tests (goal.at.returns-then-flip-gt-LARGEST_FLIP c).Start
    ∙ passed _ (count-passed (goal.at.returns-then-flip-gt-LARGEST_FLIP c).Else-count-gt-MOST_PINS)
    ∙ passed _ (table-passed (goal.at.returns-then-flip-gt-LARGEST_FLIP c).Else-not-table_fits)
    ∙ passed _ (pins-passed (goal.at.returns-then-flip-gt-LARGEST_FLIP c).Else-not-pins_sound)
    ∙ failed _ (lt-leb _ _ (rw c.flip.ensures at c.if-flip-gt-LARGEST_FLIP.true)))

pub returns : goal.returns
returns c =
    rw c.figure.ensures
    (sym (tests (goal.at.returns c).Start
    ∙ passed _ (count-passed (goal.at.returns c).Else-count-gt-MOST_PINS)
    ∙ passed _ (table-passed (goal.at.returns c).Else-not-table_fits)
    ∙ passed _ (pins-passed (goal.at.returns c).Else-not-pins_sound)
    ∙ passed _ (le-leb _ _ (rw c.flip.ensures at c.if-flip-gt-LARGEST_FLIP.false))))
