-- A netlist image, document 01, "The netlist image". bs is the list of its bytes, m its middle: the part before the trailer, from the
-- first gate record on. The numbers of the layout have their names here and, for the code, in src/lib.rt.
use Rattle.std.specs.Prelude.{ℕ, ◌+◌, ◌-◌, ◌*◌, List, [], ◌∷◌, length, get_or, take, drop}
use Rattle.chance.specs.Flip.{four_bytes}

-- ---- numbers

abbrev pub longest_image : ℕ
longest_image = 32_768

abbrev pub trailer_bytes : ℕ
trailer_bytes = 16

abbrev pub known_format : ℕ
known_format = 1

abbrev pub record_bytes : ℕ
record_bytes = 20

abbrev pub output_bytes : ℕ
output_bytes = 2

-- all records and output words
abbrev pub middle_bytes : ℕ → ℕ → ℕ
middle_bytes g k = record_bytes * g + output_bytes * k

-- a whole image whose heading is empty
abbrev pub image_length : ℕ → ℕ → ℕ
image_length g k = middle_bytes g k + trailer_bytes

-- little-endian numbers of two and of four bytes
abbrev pub u16_at : List ℕ → ℕ → ℕ
u16_at bs at = get_or bs at 0 + 256 * get_or bs (at + 1) 0

abbrev pub u32_at : List ℕ → ℕ → ℕ
u32_at bs at = four_bytes (get_or bs at 0) (get_or bs (at + 1) 0) (get_or bs (at + 2) 0) (get_or bs (at + 3) 0)

-- ---- the trailer, the last bytes: inputs, gates, outputs, format, back, total

abbrev pub trailer_at : List ℕ → ℕ
trailer_at bs = length bs - trailer_bytes

abbrev pub image_inputs : List ℕ → ℕ
image_inputs bs = u16_at bs (trailer_at bs)

abbrev pub image_gates : List ℕ → ℕ
image_gates bs = u16_at bs (trailer_at bs + 2)

abbrev pub image_outputs : List ℕ → ℕ
image_outputs bs = u16_at bs (trailer_at bs + 4)

abbrev pub image_format : List ℕ → ℕ
image_format bs = u16_at bs (trailer_at bs + 6)

abbrev pub image_back : List ℕ → ℕ
image_back bs = u32_at bs (trailer_at bs + 8)

abbrev pub image_total : List ℕ → ℕ
image_total bs = u32_at bs (trailer_at bs + 12)

-- the middle; what stands before it, the heading, is ignored
unfoldable pub middle : List ℕ → List ℕ
middle bs = take (image_back bs) (drop (trailer_at bs - image_back bs) bs)

-- ---- gate j's record: pin count, flip kind, truth table, four pins, eight bytes of flip field

abbrev pub record_at : ℕ → ℕ
record_at j = record_bytes * j

abbrev pub record_count : List ℕ → ℕ → ℕ
record_count m j = get_or m (record_at j) 0

abbrev pub record_kind : List ℕ → ℕ → ℕ
record_kind m j = get_or m (record_at j + 1) 0

abbrev pub record_table : List ℕ → ℕ → ℕ
record_table m j = u16_at m (record_at j + 2)

abbrev pub four_numbers : List ℕ → ℕ → List ℕ
four_numbers m at = u16_at m at ∷ u16_at m (at + 2) ∷ u16_at m (at + 4) ∷ u16_at m (at + 6) ∷ []

abbrev pub record_pins : List ℕ → ℕ → List ℕ
record_pins m j = four_numbers m (record_at j + 4)

abbrev pub eight_bytes : List ℕ → ℕ → List ℕ
eight_bytes m at =
    get_or m at 0
    ∷ get_or m (at + 1) 0
    ∷ get_or m (at + 2) 0
    ∷ get_or m (at + 3) 0
    ∷ get_or m (at + 4) 0
    ∷ get_or m (at + 5) 0
    ∷ get_or m (at + 6) 0
    ∷ get_or m (at + 7) 0
    ∷ []

abbrev pub record_field : List ℕ → ℕ → List ℕ
record_field m j = eight_bytes m (record_at j + 12)

-- ---- output word k, after the records of g gates

abbrev pub output_at : List ℕ → ℕ → ℕ → ℕ
output_at m g k = u16_at m (middle_bytes g k)
