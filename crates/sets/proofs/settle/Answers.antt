-- `sets::settle` meets its contract: gate after gate, or none. Assumes nothing.
use Prim.Native.Nat.{◌<◌}
use native.Mathlib.Omega.{arith}
use Rattle.area.specs.Layout.{gates}
use Rattle.sets.specs.Branches.{Settled}
use Rattle.sets.proofs.Settled.{settled-none, settled-then}
use Rattle.sets.proofs.settle.Goals.{In-loop-gate, Start}
use Rattle.sets.proofs.settle.Goals as goal

none : (s : Start) → Settled s.args.area.now s.args.area.now s.args.marks.now
none s = settled-none s.args.area.now s.args.marks.now s.requires.0 s.requires.1 s.requires.2

pub returns-then-shared-lt2 : goal.returns-then-shared-lt2
returns-then-shared-lt2 c = none (goal.at.returns-then-shared-lt2 c).Start

pub gates-gate-end-requires : goal.gates-gate-end-requires
gates-gate-end-requires c =
    omega (arith, c.requires.0.net.long)

pub loop-gate-init : goal.loop-gate-init
loop-gate-init c = none (goal.at.loop-gate-init c).Start

-- a turn's gate
module _ (c : In-loop-gate) where
  inside : c.loop-gate.gate < gates c.loop-gate.area
  inside = omega (arith, c.gates-gate-end.ensures, c.loop-gate.invariant.same_gates)

pub settle_gate-requires : goal.settle_gate-requires
settle_gate-requires c =
    let l = c.loop-gate in
    (l.invariant.workable, l.invariant.marked, l.invariant.room, inside (goal.at.settle_gate-requires c).In-loop-gate)

pub loop-gate-preserved : goal.loop-gate-preserved
loop-gate-preserved c =
    let l = c.loop-gate in
    settled-then c.args.area.now l.area _ _ l.invariant c.settle_gate.ensures

pub shape_of-area : goal.shape_of-area
shape_of-area c = c.loop-gate.invariant.size

pub returns : goal.returns
returns c = c.loop-gate.invariant
