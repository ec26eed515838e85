-- The words of a work area, as document 01, "Work area and calls", lays them out, and its limits. ws is the list of the area's words.
-- Indices and limits have their names here and, for the code, in src/lib.rt; no other file has the numbers.
use Rattle.std.specs.Prelude.{ℕ, ◌+◌, ◌-◌, ◌*◌, ◌/◌, ◌%◌, ◌^◌, cond, List, [], ◌∷◌, get_or, take, drop, ltb}
use Rattle.rounding.specs.Rounding.{units_in_half}

-- ---- limits

abbrev pub most_pins : ℕ
most_pins = 4

abbrev pub most_inputs : ℕ
most_inputs = 12

abbrev pub most_gates : ℕ
most_gates = 1024

abbrev pub most_outputs : ℕ
most_outputs = 64

-- inputs and gates together
abbrev pub most_sources : ℕ
most_sources = 1036

-- 2^12 patterns
abbrev pub most_patterns : ℕ
most_patterns = 4096

-- words that the largest netlist needs
abbrev pub most_words : ℕ
most_words = 8264

-- U / 2: no gate flips more often than not
abbrev pub largest_flip : ℕ
largest_flip = units_in_half

-- 2 × U + 1
abbrev pub largest_figure : ℕ
largest_figure = 2_147_483_649

abbrev pub largest_weight : ℕ
largest_weight = 1_048_575

-- patterns that a list may have, repeated ones too
abbrev pub most_listed : ℕ
most_listed = 4096

-- ---- the head: n, G, K, pattern, reliability, the raw flip sum in two words, a reserved word

abbrev pub head_words : ℕ
head_words = 8

abbrev pub inputs : List ℕ → ℕ
inputs ws = get_or ws 0 0

abbrev pub gates : List ℕ → ℕ
gates ws = get_or ws 1 0

abbrev pub outputs : List ℕ → ℕ
outputs ws = get_or ws 2 0

abbrev pub pattern_index : ℕ
pattern_index = 3

abbrev pub pattern : List ℕ → ℕ
pattern ws = get_or ws pattern_index 0

abbrev pub reliability_index : ℕ
reliability_index = 4

abbrev pub reliability_word : List ℕ → ℕ
reliability_word ws = get_or ws reliability_index 0

abbrev pub sum_low_index : ℕ
sum_low_index = 5

abbrev pub sum_low_word : List ℕ → ℕ
sum_low_word ws = get_or ws sum_low_index 0

abbrev pub sum_high_index : ℕ
sum_high_index = 6

abbrev pub sum_high_word : List ℕ → ℕ
sum_high_word ws = get_or ws sum_high_index 0

abbrev pub reserved_word : List ℕ → ℕ
reserved_word ws = get_or ws 7 0

-- ---- the words of gate j, eight of them: count of pins, truth table, the pins, flip in units, and failure and right value in one

abbrev pub gate_words : ℕ
gate_words = 8

abbrev pub gate_index : ℕ → ℕ
gate_index j = head_words + gate_words * j

abbrev pub pin_count : List ℕ → ℕ → ℕ
pin_count ws j = get_or ws (gate_index j) 0

abbrev pub table : List ℕ → ℕ → ℕ
table ws j = get_or ws (gate_index j + 1) 0

abbrev pub pins_index : ℕ → ℕ
pins_index j = gate_index j + 2

-- pin i as it stands, used or not; and the four pins
abbrev pub pin : List ℕ → ℕ → ℕ → ℕ
pin ws j i = get_or ws (pins_index j + i) 0

abbrev pub pins : List ℕ → ℕ → List ℕ
pins ws j = get_or ws (pins_index j) 0 ∷ get_or ws (pins_index j + 1) 0 ∷ get_or ws (pins_index j + 2) 0 ∷ get_or ws (pins_index j + 3) 0 ∷ []

abbrev pub flip_index : ℕ → ℕ
flip_index j = gate_index j + 6

abbrev pub flip : List ℕ → ℕ → ℕ
flip ws j = get_or ws (flip_index j) 0

abbrev pub figure_index : ℕ → ℕ
figure_index j = gate_index j + 7

abbrev pub figure : List ℕ → ℕ → ℕ
figure ws j = get_or ws (figure_index j) 0

-- a gate reads only by its used pins
abbrev pub used_pins : List ℕ → ℕ → List ℕ
used_pins ws j = take (pin_count ws j) (pins ws j)

-- ---- the K output words, after the gates

abbrev pub outputs_index : ℕ → ℕ
outputs_index g = gate_index g

abbrev pub output : List ℕ → ℕ → ℕ
output ws k = get_or ws (outputs_index (gates ws) + k) 0

abbrev pub output_words : List ℕ → List ℕ
output_words ws = take (outputs ws) (drop (outputs_index (gates ws)) ws)

-- how many words G gates and K outputs need; words from this index on are never touched
abbrev pub needed : ℕ → ℕ → ℕ
needed g k = outputs_index g + k

-- ---- sources

-- a source's word, 2 × failure + right value: an input never fails and has its bit of the pattern, a gate has its figure word
abbrev pub source_word : List ℕ → ℕ → ℕ
source_word ws s = cond (ltb s (inputs ws)) (pattern ws / 2 ^ s % 2) (figure ws (s - inputs ws))
