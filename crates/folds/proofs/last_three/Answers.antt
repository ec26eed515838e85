-- `folds::last_three` meets its contract: pin 2 folded on what the pins before it give. Assumes nothing.
use Prim.Native.Nat.{◌<◌}
use native.Mathlib.Omega.{arith}
use Rattle.area.specs.Layout.{inputs, pin, pin_count}
use Rattle.folds.proofs.Last.{input-drops, fold-ready, fold-made, pin-inside}
use Rattle.folds.proofs.last_three.Goals.{Start}
use Rattle.folds.proofs.last_three.Goals as goal

used : (s : Start) → 2 < pin_count s.args.area.now s.args.gate
used s = omega (arith, s.requires.inputs_below.2)

pub last_lowest-requires : goal.last_lowest-requires
last_lowest-requires c = record { rows_ready = c.requires.rows_ready; inputs_below = (λ i less. c.requires.inputs_below.0 i (omega (arith, c.if-lowest-eq2.true)), used (goal.at.last_lowest-requires c).Start) }

pub last_two-requires : goal.last_two-requires
last_two-requires c =
    let at-if1 = c.if-lowest-eq2 in record { rows_ready = c.requires.rows_ready; inputs_below = (c.requires.inputs_below.0, omega (arith, at-if1.false, c.requires.inputs_below.1), omega (arith, used (goal.at.last_two-requires c).Start)) }

pub last_two-requires-2 : goal.last_two-requires-2
last_two-requires-2 c =
    let at-if1 = c.if-lowest-eq2 in record { rows_ready = c.requires.rows_ready; inputs_below = (c.requires.inputs_below.0, omega (arith, at-if1.false, c.requires.inputs_below.1), omega (arith, used (goal.at.last_two-requires-2 c).Start)) }

pub last_two-requires-3 : goal.last_two-requires-3
last_two-requires-3 c =
    let at-if1 = c.if-lowest-eq2 in record { rows_ready = c.requires.rows_ready; inputs_below = (c.requires.inputs_below.0, omega (arith, at-if1.false, c.requires.inputs_below.1), omega (arith, used (goal.at.last_two-requires-3 c).Start)) }

pub returns-then-source-inputs : goal.returns-then-source-inputs
returns-then-source-inputs c =
    let a = c.args in
    let reads : pin a.area.now a.gate 2 < inputs a.area.now
    = omega (arith, c.if-source-inputs.true, c.pin-source.ensures, c.inputs.ensures) in
    input-drops a.area.now a.rows.now a.gate c.requires.rows_ready.0 a.right a.shift c.requires.rows_ready.1 a.pins 2 (used (goal.at.returns-then-source-inputs c).Start) c.last_two.result reads
    c.last_two.ensures

pub load_row-requires : goal.load_row-requires
load_row-requires c =
    let a = c.args in
    rw c.pin-source.ensures (pin-inside a.area.now a.rows.now a.gate c.requires.rows_ready.0 2 (used (goal.at.load_row-requires c).Start))

pub fold_row-requires : goal.fold_row-requires
fold_row-requires c =
    let a = c.args in
    let right = c.last_two-2 in
    let wrong = c.last_two-3 in
    fold-ready a.area.now a.rows.now a.gate c.requires.rows_ready.0 a.right a.shift c.requires.rows_ready.1 a.pins 2 (used (goal.at.fold_row-requires c).Start)
    c.inverted-wrong.result right.result wrong.result c.load_row.result _
    c.pin-source.ensures right.ensures wrong.ensures c.load_row.ensures

pub returns : goal.returns
returns c =
    let a = c.args in
    let right = c.last_two-2 in
    let wrong = c.last_two-3 in
    let turned = c.inverted-wrong in
    let row = c.load_row in
    fold-made a.area.now a.rows.now a.gate c.requires.rows_ready.0 a.right a.shift c.requires.rows_ready.1 a.pins 2 (used (goal.at.returns c).Start) turned.result
    right.result wrong.result row.result _
    c.pin-source.ensures right.ensures wrong.ensures row.ensures
    c.fold_row.result turned.ensures c.fold_row.ensures
