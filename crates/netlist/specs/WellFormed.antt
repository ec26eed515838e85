-- What the exact sum and the error bound ask of a netlist; refusals 6, 7 and 8 of document 01 see to it.
use Rattle.std.specs.Prelude.{ℕ, ◌+◌, ◌≤◌, ◌<◌, length}
use Rattle.lists.specs.Lists.{Below}
use Rattle.netlist.specs.Netlist.{Gate, Netlist, gate_at}

-- every used pin reads an input or an earlier gate: the gate is source s
abbrev pub GatePinsBelow : ℕ → Gate → Type 0
GatePinsBelow s g = Below s g.pins

abbrev pub PinsBelow : Netlist → Type 0
PinsBelow net = (j : ℕ) → j < length net.gates → GatePinsBelow (net.inputs + j) (gate_at net j)

-- and every chance is at most 1, and every output an input or a gate
pub record WellFormed (d : ℕ) (net : Netlist) : Type 0 where
  pub pins_below : PinsBelow net
  pub chances : (j : ℕ) → j < length net.gates → (gate_at net j).chance ≤ d
  pub outputs_below : Below (net.inputs + length net.gates) net.outputs
