-- `work::reads_marked` meets its contract: the pins passed read no marked source. Assumes nothing.
use Prim.Native.Nat.{ℕ, ◌≤◌, ◌<◌}
use mathlib.Core.Path.{◌≡◌, sym, ap, ◌∙◌}
use native.Mathlib.Omega.{arith}
use lib.ListN.{length, get_or, drop_of_length-le}
use Rattle.area.specs.Layout.{pin_count, used_pins}
use Rattle.area.proofs.Words.{used-count, used-pin, pin-below, few-sources}
use Rattle.work.specs.Work.{reads_marked}
use Rattle.work.proofs.Loops.{marked-here, not-marked-here}
use Rattle.work.proofs.reads_marked.Goals.{After-pin, In-loop-i}
use Rattle.work.proofs.reads_marked.Goals as goal

-- a turn's pin: it is used, and it reads a source
module _ (c : In-loop-i) where
  abbrev i : ℕ
  i = c.loop-i.i

  used : i < pin_count c.args.area.now c.args.gate
  used = omega (arith, c.pin_count-count.ensures)

  inside : i < length (used_pins c.args.area.now c.args.gate)
  inside = omega (arith, used, used-count c.args.area.now c.requires.workable.net c.args.gate c.requires.gate_bound)

-- the pin that a turn reads
here : (c : After-pin) → c.pin.result ≡ get_or (used_pins c.args.area.now c.args.gate) (i (record { before = c.before.before; type_inv = record { area = c.shared_slice_known-1.given } })) 0
here c = c.pin.ensures ∙ used-pin _ c.requires.workable.net _ c.requires.gate_bound _ (used (record { before = c.before.before; type_inv = record { area = c.shared_slice_known-1.given } }))

pub bounds-marks-pin : goal.bounds-marks-pin
bounds-marks-pin c =
    omega (
      arith,
      c.pin.ensures,
      pin-below c.args.area.now c.requires.workable.net c.args.gate c.requires.gate_bound (i (goal.at.bounds-marks-pin c).In-loop-i) (used (goal.at.bounds-marks-pin c).In-loop-i),
      few-sources c.args.area.now c.requires.workable.net,
      c.requires.gate_bound,
    )

pub returns-then-marks-pin-eq1 : goal.returns-then-marks-pin-eq1
returns-then-marks-pin-eq1 c =
    sym (marked-here c.args.marks.now _ (i (goal.at.returns-then-marks-pin-eq1 c).In-loop-i) (inside (goal.at.returns-then-marks-pin-eq1 c).In-loop-i) (rw (here (goal.at.returns-then-marks-pin-eq1 c).After-pin) at c.if-marks-pin-eq1.true)) ∙ c.loop-i.invariant

pub loop-i-preserved : goal.loop-i-preserved
loop-i-preserved c =
    (not-marked-here c.args.marks.now _ (i (goal.at.loop-i-preserved c).In-loop-i) (inside (goal.at.loop-i-preserved c).In-loop-i) (rw (here (goal.at.loop-i-preserved c).After-pin) at c.if-marks-pin-eq1.false) ∙ c.loop-i.invariant)

pub returns : goal.returns
returns c =
    let l = c.loop-i in
    let ps = used_pins c.args.area.now c.args.gate in
    let past : length ps ≤ l.i
    = omega (arith, used-count c.args.area.now c.requires.workable.net c.args.gate c.requires.gate_bound, c.pin_count-count.ensures) in
    sym (ap (reads_marked c.args.marks.now) (drop_of_length-le ps past)) ∙ l.invariant
