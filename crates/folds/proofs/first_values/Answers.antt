-- `folds::first_values` meets its contract. Assumes nothing.
use Prim.Native.Nat.{ℕ}
use mathlib.Core.Path.{ap, ◌∙◌}
use Rattle.area.proofs.Words.{gate-inside}
use Rattle.rows.specs.Rows.{row_at}
use Rattle.folds.proofs.Last.{lowest-made, pin-fits, pin-few, pin-inside}
use Rattle.folds.proofs.first_values.Goals as goal

pub inverted-turned-requires : goal.inverted-turned-requires
inverted-turned-requires c =
    let a = c.args in
    pin-few a.area.now a.rows.now a.gate c.requires.rows_ready.0 a.number c.requires.inputs_below.1

pub pin-requires : goal.pin-requires
pin-requires c =
    let a = c.args in (
      pin-few a.area.now a.rows.now a.gate c.requires.rows_ready.0 a.number c.requires.inputs_below.1,
      gate-inside a.area.now c.requires.rows_ready.0.net
          a.gate c.requires.rows_ready.0.inside,
    )

pub load_row-requires : goal.load_row-requires
load_row-requires c =
    let a = c.args in
    rw c.pin.ensures (pin-inside a.area.now a.rows.now a.gate c.requires.rows_ready.0 a.number c.requires.inputs_below.1)

pub first_row-requires : goal.first_row-requires
first_row-requires c =
    let a = c.args in
    pin-fits a.area.now a.rows.now a.gate c.requires.rows_ready.0 a.right a.shift c.requires.rows_ready.1 a.pins a.number c.requires.inputs_below.1
    c.load_row.result (rw c.pin.ensures at c.load_row.ensures)

pub returns : goal.returns
returns c l less =
    let at-inverted = c.inverted-turned in
    let at_pin = c.pin in
    let at-wrong-lanes2 = c.wrong_lanes in
    let a = c.args in
    let turned = at-inverted in
    let row = c.load_row.ensures l less ∙ ap (λ (c : ℕ). row_at a.rows.now c l) at_pin.ensures in
    c.first_row.ensures l less
    ∙ lowest-made a.area.now a.rows.now a.gate c.requires.rows_ready.0 a.right a.shift c.requires.rows_ready.1 a.pins a.number c.requires.inputs_below.1
    turned.result turned.ensures l less
    c.requires.inputs_below.0 a.wrong at-wrong-lanes2.result _ (c.requires.wrong_here l less) (at-wrong-lanes2.ensures l less) row
