-- What an image without a refusal holds: as the words of a work area whose figures are not worked out, and its flips before conversion.
use Rattle.std.specs.Prelude.{ℕ, List, [], ◌∷◌, ◌++◌, drop}
use Rattle.chance.specs.Flip.{flip_chance, flip_units}
use Rattle.lists.specs.Lists.{joined}
use Rattle.area.specs.Layout.{needed}
use Rattle.image.specs.Image.{image_inputs, image_gates, image_outputs, middle, record_count, record_kind, record_table, record_pins, record_field, output_at}

-- gate j's chance before conversion, and in units
unfoldable pub record_chance : List ℕ → ℕ → ℕ
record_chance m j = flip_chance (record_kind m j) (record_field m j)

unfoldable pub record_units : List ℕ → ℕ → ℕ
record_units m j = flip_units (record_kind m j) (record_field m j)

-- the head: n, G, K, pattern 0, reliability 0, three zeros
abbrev pub new_head : ℕ → ℕ → ℕ → List ℕ
new_head n g k = n ∷ g ∷ k ∷ 0 ∷ 0 ∷ 0 ∷ 0 ∷ 0 ∷ []

-- a gate's words: pin count, table, four pins, flip units, figure word 0
abbrev pub record_words : List ℕ → ℕ → List ℕ
record_words m j = record_count m j ∷ record_table m j ∷ (record_pins m j ++ (record_units m j ∷ 0 ∷ []))

abbrev pub output_word : List ℕ → ℕ → ℕ → List ℕ
output_word m g k = output_at m g k ∷ []

-- those of the first g gates, and of the first k outputs
abbrev pub gate_list : List ℕ → ℕ → List ℕ
gate_list m g = joined (record_words m) g

abbrev pub output_list : List ℕ → ℕ → ℕ → List ℕ
output_list m g k = joined (output_word m g) k

unfoldable pub middle_words : List ℕ → ℕ → ℕ → ℕ → List ℕ
middle_words m n g k = new_head n g k ++ (gate_list m g ++ output_list m g k)

unfoldable pub image_words : List ℕ → List ℕ
image_words bs = middle_words (middle bs) (image_inputs bs) (image_gates bs) (image_outputs bs)

-- the words ws of an area, an image's over the first of them
abbrev pub image_over : List ℕ → List ℕ → List ℕ
image_over bs ws = image_words bs ++ drop (needed (image_gates bs) (image_outputs bs)) ws

-- one entry a gate: its flip kind, and its chance before conversion
unfoldable pub image_kinds : List ℕ → List ℕ
image_kinds bs = joined (λ (j : ℕ). record_kind (middle bs) j ∷ []) (image_gates bs)

unfoldable pub image_chances : List ℕ → List ℕ
image_chances bs = joined (λ (j : ℕ). record_chance (middle bs) j ∷ []) (image_gates bs)
