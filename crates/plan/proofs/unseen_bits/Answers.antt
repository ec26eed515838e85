-- `plan::unseen_bits` meets its contract: the gates before the one reached have their entries. Assumes nothing.
use Prim.Native.Nat.{ℕ, ◌+◌, ◌<◌}
use mathlib.Core.Path.{◌≡◌, ap}
use native.Mathlib.Omega.{arith}
use Rattle.area.proofs.Words.{few-sources}
use Rattle.area.specs.Layout.{most_sources, inputs, gates}
use Rattle.plan.proofs.Laws.{gate-more}
use Rattle.plan.proofs.unseen_bits.Goals.{In-loop-gate}
use Rattle.plan.proofs.unseen_bits.Goals as goal

-- a turn's gate
module _ (c : In-loop-gate) where
  inside : c.loop-gate.gate < gates c.args.area.now
  inside = omega (arith, c.gates-count.ensures)

  place : c.inputs-inputs.result + c.loop-gate.gate ≡ inputs c.args.area.now + c.loop-gate.gate
  place = ap (λ (n : ℕ). n + c.loop-gate.gate) c.inputs-inputs.ensures

  room : c.inputs-inputs.result + c.loop-gate.gate < most_sources
  room = omega (arith, inside, place, few-sources _ c.requires)

pub loop-gate-preserved : goal.loop-gate-preserved
loop-gate-preserved c =
    let l = c.loop-gate in
    let made = c.gate_bits.ensures in
    (rw (place (goal.at.loop-gate-preserved c).In-loop-gate) (gate-more c.args.area.now c.requires l.unseen l.gate _ (inside (goal.at.loop-gate-preserved c).In-loop-gate) l.invariant made.upper_bound made.by_index))
