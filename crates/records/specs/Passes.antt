-- What is promised of a written image: it passes refusals 1 to 8 and 22, and opening reads from it what was written.
use Rattle.std.specs.Prelude.{ℕ, ◌+◌, ◌^◌, ◌<◌, ◌≤◌, true, List, [], ◌∷◌, ◌≡◌, length, get_or}
use Rattle.refusal.specs.Judgement.{Fine}
use Rattle.lists.specs.Lists.{Below}
use Rattle.netlist.specs.Netlist.{Netlist, gate_at}
use Rattle.netlist.specs.WellFormed.{PinsBelow}
use Rattle.chance.specs.Number.{at_most_half}
use Rattle.chance.specs.Flip.{flip_accepted, flip_chance}
use Rattle.area.specs.Layout.{most_inputs, most_gates, most_outputs, most_pins}
use Rattle.image.specs.Refusals.{image_refusal}
use Rattle.image.specs.Netlist.{image_net}
use Rattle.image.specs.Image.{image_inputs, image_gates, image_outputs, middle, record_count, record_kind, record_table, record_pins, record_field, output_at}
use Rattle.records.specs.Bytes.{Contents, image_with, image_of}

-- gate j as refusals 5, 6, 7 and 22 want it: its unused pins, and those past the fourth, are 0
pub record GateFits (w : Contents) (j : ℕ) : Type 0 where
  pub few_pins : w.count j ≤ most_pins
  pub table_fits : w.table j < 2 ^ 2 ^ w.count j
  pub unused_zero : (i : ℕ) → w.count j ≤ i → get_or (w.pins j) i 0 ≡ 0
  pub pins_below : (i : ℕ) → i < w.count j → get_or (w.pins j) i 0 < w.inputs + j
  pub accepted : flip_accepted (w.kind j) (w.field j) ≡ true
  pub low : at_most_half (flip_chance (w.kind j) (w.field j)) ≡ true
  pub eight : length (w.field j) ≡ 8

-- what an image can hold
pub record Fits (w : Contents) : Type 0 where
  pub inputs_fit : w.inputs ≤ most_inputs
  pub gates_fit : w.gates ≤ most_gates
  pub some_output : 1 ≤ w.outputs
  pub outputs_fit : w.outputs ≤ most_outputs
  pub gate : (j : ℕ) → j < w.gates → GateFits w j
  pub outputs_below : (k : ℕ) → k < w.outputs → w.output k < w.inputs + w.gates

-- four pins, of which those past the used are zero
unfoldable pub four : List ℕ → List ℕ
four ps = get_or ps 0 0 ∷ get_or ps 1 0 ∷ get_or ps 2 0 ∷ get_or ps 3 0 ∷ []

-- an image is read as these contents
pub record GateRead (m : List ℕ) (w : Contents) (j : ℕ) : Type 0 where
  pub count : record_count m j ≡ w.count j
  pub kind : record_kind m j ≡ w.kind j
  pub table : record_table m j ≡ w.table j
  pub pins : record_pins m j ≡ four (w.pins j)
  pub field : record_field m j ≡ w.field j

pub record ReadAs (bs : List ℕ) (w : Contents) : Type 0 where
  pub inputs : image_inputs bs ≡ w.inputs
  pub gates : image_gates bs ≡ w.gates
  pub outputs : image_outputs bs ≡ w.outputs
  pub gate : (j : ℕ) → j < w.gates → GateRead (middle bs) w j
  pub output : (k : ℕ) → k < w.outputs → output_at (middle bs) w.gates k ≡ w.output k

abbrev pub ContentsPass : Type 0
ContentsPass = (w : Contents) → Fits w → image_refusal (image_with w) ≡ Fine

abbrev pub ContentsReadBack : Type 0
ContentsReadBack = (w : Contents) → Fits w → ReadAs (image_with w) w

-- a netlist that an image without flips can hold
pub record Holdable (net : Netlist) : Type 0 where
  pub inputs_fit : net.inputs ≤ most_inputs
  pub gates_fit : length net.gates ≤ most_gates
  pub some_output : 1 ≤ length net.outputs
  pub outputs_fit : length net.outputs ≤ most_outputs
  pub few_pins : (j : ℕ) → j < length net.gates → length (gate_at net j).pins ≤ most_pins
  pub table_fits : (j : ℕ) → j < length net.gates → (gate_at net j).table < 2 ^ 2 ^ length (gate_at net j).pins
  pub never_flips : (j : ℕ) → j < length net.gates → ((gate_at net j).kind ≡ 0) × ((gate_at net j).chance ≡ 0)
  pub pins_below : PinsBelow net
  pub outputs_below : Below (net.inputs + length net.gates) net.outputs

abbrev pub WrittenPasses : Type 0
WrittenPasses = (net : Netlist) → Holdable net → image_refusal (image_of net) ≡ Fine

abbrev pub WrittenReadBack : Type 0
WrittenReadBack = (net : Netlist) → Holdable net → image_net (image_of net) ≡ net
