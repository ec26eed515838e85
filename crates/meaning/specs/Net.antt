-- The netlist that placed gates make: S j and T j are the sources and the table of gate j of the text.
use Rattle.std.specs.Prelude.{ℕ, ◌+◌, ◌-◌, cond, List, map, get_or, ltb}
use Rattle.netlist.specs.Netlist.{Gate, Netlist}

-- the source of the image that a definition of the text becomes
abbrev pub source_of : ℕ → List ℕ → ℕ → ℕ
source_of n place d = cond (ltb d n) d (n + (get_or place (d - n) 0 - 1))

abbrev pub placed_gate : (ℕ → List ℕ) → (ℕ → ℕ) → ℕ → List ℕ → ℕ → Gate
placed_gate S T n place j = record { pins = map (source_of n place) (S j); table = T j; kind = 0; chance = 0 }

-- order lists the gates of the text in the order of the image, outs the definitions that are outputs
abbrev pub placed_net : (ℕ → List ℕ) → (ℕ → ℕ) → ℕ → List ℕ → List ℕ → List ℕ → Netlist
placed_net S T n place order outs =
    record { inputs = n; gates = map (placed_gate S T n place) order; outputs = map (source_of n place) outs }
