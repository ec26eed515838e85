-- The netlist that the words of an area hold. The words have no flip kinds and no chances before conversion: these are given beside, entry j for gate j.
use Rattle.std.specs.Prelude.{ℕ, zero, suc, List, [], ◌∷◌, get_or}
use Rattle.netlist.specs.Netlist.{Gate, Netlist}
use Rattle.area.specs.Layout.{inputs, gates, table, used_pins, output_words}

abbrev pub gate_of : List ℕ → List ℕ → List ℕ → ℕ → Gate
gate_of ws kinds chances j = record { pins = used_pins ws j; table = table ws j; kind = get_or kinds j 0; chance = get_or chances j 0 }

-- the k gates from j on
abbrev pub gates_from : List ℕ → List ℕ → List ℕ → ℕ → ℕ → List Gate
gates_from ws kinds chances j zero = []
gates_from ws kinds chances j (suc k) = gate_of ws kinds chances j ∷ gates_from ws kinds chances (suc j) k

abbrev pub net_of : List ℕ → List ℕ → List ℕ → Netlist
net_of ws kinds chances = record { inputs = inputs ws; gates = gates_from ws kinds chances 0 (gates ws); outputs = output_words ws }
