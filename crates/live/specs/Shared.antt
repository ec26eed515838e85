-- Refusal 9 of document 01: some gate has more than one live reader; it is then live itself.
use Rattle.std.specs.Prelude.{ℕ, ◌+◌, leb, length}
use Rattle.refusal.specs.Judgement.{Judgement}
use Rattle.refusal.specs.Judgement.{refuse_unless, lowest}
use Rattle.netlist.specs.Netlist.{Netlist}
use Rattle.netlist.specs.Live.{readers}
use Rattle.refusal.specs.declared.Cause.TheVariants.{SharedGate}

-- gate j, where source s has `count s` readers and the first gate is source `first`
abbrev pub gate_shared : (ℕ → ℕ) → ℕ → ℕ → Judgement
gate_shared count first j = refuse_unless (leb (count (first + j)) 1) SharedGate j

-- the lowest of the gates that has two readers
abbrev pub shared_by : (ℕ → ℕ) → ℕ → ℕ → Judgement
shared_by count first gates = lowest (gate_shared count first) gates

unfoldable pub shared_judgement : Netlist → Judgement
shared_judgement net = shared_by (readers net) net.inputs (length net.gates)
