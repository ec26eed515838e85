-- An image with an empty heading, byte by byte: gate records, output words, the trailer.
use Rattle.std.specs.Prelude.{ℕ, ◌/◌, ◌%◌, List, [], ◌∷◌, ◌++◌, length, get_or, replicate}
use Rattle.lists.specs.Lists.{joined}
use Rattle.netlist.specs.Netlist.{Gate, Netlist, gate_at}
use Rattle.image.specs.Image.{known_format, middle_bytes, image_length, eight_bytes}

-- little-endian numbers of two and of four bytes
abbrev pub two_bytes : ℕ → List ℕ
two_bytes x = x % 256 ∷ x / 256 ∷ []

abbrev pub long_bytes : ℕ → List ℕ
long_bytes x = x % 256 ∷ x / 256 % 256 ∷ x / 65_536 % 256 ∷ x / 16_777_216 ∷ []

-- a gate's record: pin count, flip kind, truth table, four pins, of which the unused are 0, and eight bytes of flip field
abbrev pub record_of : ℕ → ℕ → ℕ → List ℕ → List ℕ → List ℕ
record_of count kind table pins field =
    count
    ∷ kind
    ∷ (two_bytes table
    ++ (two_bytes (get_or pins 0 0) ++ (two_bytes (get_or pins 1 0) ++ (two_bytes (get_or pins 2 0) ++ (two_bytes (get_or pins 3 0) ++ eight_bytes field 0)))))

-- inputs, gates, outputs, format, back, total
abbrev pub trailer_of : ℕ → ℕ → ℕ → List ℕ
trailer_of n g k =
    two_bytes n ++ (two_bytes g ++ (two_bytes k ++ (two_bytes known_format ++ (long_bytes (middle_bytes g k) ++ long_bytes (image_length g k)))))

-- ---- what is written, field by field: j is a gate's number, k an output's position

pub record Contents : Type 0 where
  pub inputs : ℕ
  pub gates : ℕ
  pub outputs : ℕ
  pub count : ℕ → ℕ
  pub kind : ℕ → ℕ
  pub table : ℕ → ℕ
  pub pins : ℕ → List ℕ
  pub field : ℕ → List ℕ
  pub output : ℕ → ℕ

abbrev pub contents_record : Contents → ℕ → List ℕ
contents_record w j = record_of (w.count j) (w.kind j) (w.table j) (w.pins j) (w.field j)

abbrev pub gates_bytes : Contents → List ℕ
gates_bytes w = joined (contents_record w) w.gates

abbrev pub outputs_bytes : Contents → List ℕ
outputs_bytes w = joined (λ (k : ℕ). two_bytes (w.output k)) w.outputs

-- the middle: records, then output words; and the trailer of the counts
abbrev pub middle_of : Contents → List ℕ
middle_of w = gates_bytes w ++ outputs_bytes w

abbrev pub trailer_for : Contents → List ℕ
trailer_for w = trailer_of w.inputs w.gates w.outputs

unfoldable pub image_with : Contents → List ℕ
image_with w = gates_bytes w ++ (outputs_bytes w ++ trailer_for w)

-- ---- a netlist without flips

-- kind 0 and a field of zeros
abbrev pub no_field : List ℕ
no_field = replicate 8 0

abbrev pub gate_bytes : Gate → List ℕ
gate_bytes g = record_of (length g.pins) 0 g.table g.pins no_field

abbrev pub net_contents : Netlist → Contents
net_contents net =
    record {
      inputs = net.inputs;
      gates = length net.gates;
      outputs = length net.outputs;
      count = λ (j : ℕ). length (gate_at net j).pins;
      kind = λ (j : ℕ). 0;
      table = λ (j : ℕ). (gate_at net j).table;
      pins = λ (j : ℕ). (gate_at net j).pins;
      field = λ (j : ℕ). no_field;
      output = λ (k : ℕ). get_or net.outputs k 0;
    }

abbrev pub image_of : Netlist → List ℕ
image_of net = image_with (net_contents net)
