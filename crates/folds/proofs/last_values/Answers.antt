-- `folds::last_values` meets its contract. Assumes nothing.
use mathlib.Core.Path.{◌≡◌}
use native.Mathlib.Numerals.{add-one}
use native.Mathlib.Omega.{arith}
use Rattle.area.specs.Layout.{most_pins}
use Rattle.folds.proofs.Last.{none-wrong}
use Rattle.folds.proofs.last_values.Goals as goal

pub first_values-requires : goal.first_values-requires
first_values-requires c =
    let a = c.args in
    record {
      rows_ready = c.requires.rows_ready;
      inputs_below = (c.requires.inputs_below.0, omega (arith, c.requires.inputs_below.1, c.requires.inputs_below.2));
      wrong_here = none-wrong a.area.now a.rows.now a.gate c.requires.rows_ready.0 a.right a.shift c.requires.rows_ready.1 a.pins c.requires.right_for;
    }

pub returns-then-lowest-end : goal.returns-then-lowest-end
returns-then-lowest-end c = rw (← c.if-lowest-end.true, add-one c.args.lowest) c.first_values.ensures

pub last_four-requires : goal.last_four-requires
last_four-requires c =
    let four : c.args.end ≡ most_pins = omega (
      arith,
      c.in_default,
      c.if-lowest-end.false,
      c.requires.inputs_below.1,
      c.requires.inputs_below.2,
      (c.requires.rows_ready.0.net.gate c.args.gate
          c.requires.rows_ready.0.inside).few_pins,
    ) in record { rows_ready = c.requires.rows_ready; inputs_below = (c.requires.inputs_below.0, omega (arith, c.requires.inputs_below.1), omega (arith, c.requires.inputs_below.2)) }

pub returns-in-2 : goal.returns-in-2
returns-in-2 c = rw c.in-2.is c.last_two.ensures

pub returns-in-3 : goal.returns-in-3
returns-in-3 c = rw c.in-3.is c.last_three.ensures

pub returns-in_default : goal.returns-in_default
returns-in_default c =
    let at-if1 = c.if-lowest-end in
    let four : c.args.end ≡ most_pins = omega (
      arith,
      c.in_default,
      at-if1.false,
      c.requires.inputs_below.1,
      c.requires.inputs_below.2,
      (c.requires.rows_ready.0.net.gate c.args.gate
          c.requires.rows_ready.0.inside).few_pins,
    ) in
    rw four c.last_four.ensures
