-- Refusals 1 to 8 of document 01, and 22 of document 02, card 8, in their order.
use Rattle.std.specs.Prelude.{ℕ, ◌+◌, ◌≤◌, ◌≡◌, Bool, ◌&&◌, List, length, leb, ltb, eqb}
use Rattle.chance.specs.Number.{at_most_half}
use Rattle.chance.specs.Flip.{flip_accepted, flip_chance}
use Rattle.area.specs.Layout.{most_inputs, most_gates, most_outputs}
use Rattle.area.specs.Rules.{gate_shape, used_below, counts_in_range}
use Rattle.refusal.specs.Judgement.{Judgement}
use Rattle.refusal.specs.Judgement.{refuse_unless, otherwise, lowest}
use Rattle.image.specs.Image.{longest_image, trailer_bytes, known_format, middle_bytes, trailer_at, image_inputs, image_gates, image_outputs}
use Rattle.image.specs.Image.{image_format, image_back, image_total, middle, record_count, record_kind, record_table, record_pins, record_field, output_at}
use Rattle.refusal.specs.declared.Cause.{Cause}
use Rattle.refusal.specs.declared.Cause.TheVariants.{WrongLength, WrongFormat, WrongCounts, WrongBack, GateShape, GatePin, GateFlip, OutputSource, ChanceAboveHalf}

-- 1: the length in range, and total the same
unfoldable pub length_right : List ℕ → Bool
length_right bs = leb trailer_bytes (length bs) && (leb (length bs) longest_image && eqb (image_total bs) (length bs))

-- 4: back is the way over all records and output words, and stays inside the image
unfoldable pub back_right : List ℕ → Bool
back_right bs = eqb (image_back bs) (middle_bytes (image_gates bs) (image_outputs bs)) && leb (image_back bs) (trailer_at bs)

unfoldable pub trailer_refusal : List ℕ → Judgement
trailer_refusal bs =
    otherwise (refuse_unless (length_right bs) WrongLength 0)
    (otherwise (refuse_unless (eqb (image_format bs) known_format) WrongFormat 0)
    (otherwise (refuse_unless (counts_in_range (image_inputs bs) (image_gates bs) (image_outputs bs)) WrongCounts 0) (refuse_unless (back_right bs) WrongBack 0)))

-- a flip for gate j: a bad kind or field has a number of its own in an image, 7, and in a call, 11; then 22, a chance above 0.5 before conversion
unfoldable pub flip_refusal : Cause → ℕ → ℕ → List ℕ → Judgement
flip_refusal bad j kind field =
    otherwise (refuse_unless (flip_accepted kind field) bad j) (refuse_unless (at_most_half (flip_chance kind field)) ChanceAboveHalf j)

-- 5, 6, 7, 22 for gate j of a netlist with n inputs
unfoldable pub gate_refusal : List ℕ → ℕ → ℕ → Judgement
gate_refusal m n j =
    otherwise (refuse_unless (gate_shape (record_count m j) (record_table m j) (record_pins m j)) GateShape j)
    (otherwise (refuse_unless (used_below (n + j) (record_count m j) (record_pins m j)) GatePin j)
    (flip_refusal GateFlip j (record_kind m j) (record_field m j)))

-- 8 for output k of a netlist with n inputs and g gates
unfoldable pub output_refusal : List ℕ → ℕ → ℕ → ℕ → Judgement
output_refusal m n g k = refuse_unless (ltb (output_at m g k) (n + g)) OutputSource k

-- each gate in turn, then each output
unfoldable pub middle_refusal : List ℕ → ℕ → ℕ → ℕ → Judgement
middle_refusal m n g k = otherwise (lowest (gate_refusal m n) g) (lowest (output_refusal m n g) k)

abbrev pub netlist_refusal : List ℕ → Judgement
netlist_refusal bs = middle_refusal (middle bs) (image_inputs bs) (image_gates bs) (image_outputs bs)

unfoldable pub image_refusal : List ℕ → Judgement
image_refusal bs = otherwise (trailer_refusal bs) (netlist_refusal bs)

-- what is known of a trailer that passes
pub record TrailerRight (bs : List ℕ) : Type 0 where
  pub low : trailer_bytes ≤ length bs
  pub high : length bs ≤ longest_image
  pub total : image_total bs ≡ length bs
  pub format : image_format bs ≡ known_format
  pub inputs_fit : image_inputs bs ≤ most_inputs
  pub gates_fit : image_gates bs ≤ most_gates
  pub some_output : 1 ≤ image_outputs bs
  pub outputs_fit : image_outputs bs ≤ most_outputs
  pub back : image_back bs ≡ middle_bytes (image_gates bs) (image_outputs bs)
  pub inside : image_back bs ≤ trailer_at bs
