use Prim.Native.Nat.{◌-◌}
use mathlib.Core.Path.{◌≡◌}
use Rattle.lists.specs.Lists.{every_from}
use Rattle.area.specs.Layout as layout
use Rattle.area.specs.Rules.{gate_sound, gates_sound}
use Rattle.rules.proofs.gates_sound.Given as goal

abbrev pub invariant-loop-j : goal.invariant-loop-j
invariant-loop-j l = gates_sound l.area ≡ every_from (gate_sound l.area) l.j (layout.gates l.area - l.j)
