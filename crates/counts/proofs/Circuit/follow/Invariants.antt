use Prim.Native.Nat.{◌+◌, ◌-◌}
use mathlib.Core.Path.{◌≡◌}
use lib.ListN.{get_or}
use Rattle.area.specs.Layout as layout
use Rattle.counts.specs.Counts.{Following}
use Rattle.counts.proofs.Circuit.follow.Given as goal

abbrev pub invariant-loop-window : goal.invariant-loop-window
invariant-loop-window l =
    (l.window.flipped ≡ l.initial.window.flipped) × Following l.self.area.now l.self.words.now l.window.flipped l.window.gate l.window.stop l.changed
    × (get_or l.changed (layout.inputs l.self.area.now + l.initial.window.flipped) 0 ≡ get_or l.initial.changed (layout.inputs l.self.area.now + l.initial.window.flipped) 0)

abbrev pub decreases-loop-window : goal.decreases-loop-window
decreases-loop-window l = layout.gates l.self.area.now - l.window.gate
