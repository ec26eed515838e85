use Prim.Native.Nat.{◌+◌, ◌-◌, ◌≤◌, ◌<◌}
use Rattle.area.specs.Layout.{inputs, gates}
use Rattle.plan.specs.Plan.{IsLive}
use Rattle.average.specs.Blocks.{LiveWords}
use Rattle.average.proofs.live_words.Given as goal

abbrev pub invariant-loop-gate : goal.invariant-loop-gate
invariant-loop-gate l =
    (l.gate ≤ gates l.area) × (l.gate < gates l.area → IsLive l.area (inputs l.area + l.gate)) × LiveWords l.area l.patterns l.words l.gate

abbrev pub decreases-loop-gate : goal.decreases-loop-gate
decreases-loop-gate l = l.count - l.gate
