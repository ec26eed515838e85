-- The netlist of an image, straight from its records.
use Rattle.std.specs.Prelude.{ℕ, zero, suc, List, [], ◌∷◌, take}
use Rattle.netlist.specs.Netlist.{Gate, Netlist}
use Rattle.image.specs.Image.{image_inputs, image_gates, image_outputs, middle, record_count, record_kind, record_table, record_pins}
use Rattle.image.specs.Loading.{record_chance, output_list}

abbrev pub record_gate : List ℕ → ℕ → Gate
record_gate m j =
    record {
      pins = take (record_count m j) (record_pins m j);
      table = record_table m j;
      kind = record_kind m j;
      chance = record_chance m j;
    }

-- the k gates from j on
abbrev pub record_gates : List ℕ → ℕ → ℕ → List Gate
record_gates m j zero = []
record_gates m j (suc k) = record_gate m j ∷ record_gates m (suc j) k

unfoldable pub image_net : List ℕ → Netlist
image_net bs =
    record {
      inputs = image_inputs bs;
      gates = record_gates (middle bs) 0 (image_gates bs);
      outputs = output_list (middle bs) (image_gates bs) (image_outputs bs);
    }
