-- Rules 5, 6, 8, 13 and 14 of document 01, on numbers and on the words of an area. Each is a test; the records at the end have what passes, in parts.
use Rattle.std.specs.Prelude.{ℕ, ◌+◌, ◌^◌, ◌≤◌, ◌<◌, Bool, ◌&&◌, List, ◌≡◌, length, get_or, take, drop, leb, ltb, eqb}
use Rattle.lists.specs.Lists.{all_zero, all_below, every_from}
use Rattle.refusal.specs.Judgement.{Judgement}
use Rattle.refusal.specs.Judgement.{refuse_unless, otherwise}
use Rattle.rounding.specs.Rounding.{units_in_one}
use Rattle.area.specs.Layout.{most_pins, most_inputs, most_gates, most_outputs, largest_flip, largest_figure}
use Rattle.area.specs.Layout.{head_words, inputs, gates, outputs, pattern, reliability_word, sum_low_word, sum_high_word, reserved_word}
use Rattle.area.specs.Layout.{pin_count, table, pins, flip, figure, output_words, needed}
use Rattle.area.specs.Sum.{flip_sum, low_bits, high_bits}
use Rattle.refusal.specs.declared.Cause.TheVariants.{AreaTooShort, AreaRule}

-- rule 5: at most four pins, no table bit at or above 2^a, every unused pin zero
unfoldable pub gate_shape : ℕ → ℕ → List ℕ → Bool
gate_shape a table ps = leb a most_pins && (ltb table (2 ^ 2 ^ a) && all_zero (drop a ps))

-- rule 6: every used pin below n + the gate's number
unfoldable pub used_below : ℕ → ℕ → List ℕ → Bool
used_below limit a ps = all_below limit (take a ps)

-- rules 3 and 14: counts in range
unfoldable pub counts_in_range : ℕ → ℕ → ℕ → Bool
counts_in_range n g k = leb n most_inputs && (leb g most_gates && (leb 1 k && leb k most_outputs))

-- rule 14 for gate j: 5 and 6, flip at most U / 2, last word at most 2 × U + 1
unfoldable pub gate_sound : List ℕ → ℕ → Bool
gate_sound ws j =
    gate_shape (pin_count ws j) (table ws j) (pins ws j)
    && (used_below (inputs ws + j) (pin_count ws j) (pins ws j) && (leb (flip ws j) largest_flip && leb (figure ws j) largest_figure))

unfoldable pub gates_sound : List ℕ → Bool
gates_sound ws = every_from (gate_sound ws) 0 (gates ws)

-- rule 14 but for the counts and the sum: gates, outputs below n + G, pattern below 2^n, reliability at most U
unfoldable pub rest_sound : List ℕ → Bool
rest_sound ws =
    gates_sound ws
    && (all_below (inputs ws + gates ws) (output_words ws)
    && (ltb (pattern ws) (2 ^ inputs ws) && leb (reliability_word ws) units_in_one))

-- rule 14, last: two words hold the raw flip sum, and the reserved word is zero
unfoldable pub sum_right : List ℕ → Bool
sum_right ws = eqb (sum_low_word ws) (low_bits (flip_sum ws)) && (eqb (sum_high_word ws) (high_bits (flip_sum ws)) && eqb (reserved_word ws) 0)

-- 13 by counts: room for G gates and K outputs in an area of `size` words
abbrev pub room_judgement : ℕ → ℕ → ℕ → Judgement
room_judgement g k size = refuse_unless (leb (needed g k) size) AreaTooShort 0

-- refusals 13 and 14 of an area in their order: fewer than 8 words, counts out of range, too short by its counts, the rest
unfoldable pub words_judgement : List ℕ → Judgement
words_judgement ws =
    otherwise (refuse_unless (leb head_words (length ws)) AreaTooShort 0)
    (otherwise (refuse_unless (counts_in_range (inputs ws) (gates ws) (outputs ws)) AreaRule 0)
    (otherwise (room_judgement (gates ws) (outputs ws) (length ws)) (refuse_unless (rest_sound ws) AreaRule 0)))

-- and the sum
unfoldable pub area_judgement : List ℕ → Judgement
area_judgement ws = otherwise (words_judgement ws) (refuse_unless (sum_right ws) AreaRule 0)

-- ---- what is known of an area that passes

-- gate j, as the netlist has it
pub record GateShaped (ws : List ℕ) (j : ℕ) : Type 0 where
  pub few_pins : pin_count ws j ≤ most_pins
  pub table_bits : table ws j < 2 ^ 2 ^ pin_count ws j
  pub pins_below : (i : ℕ) → i < pin_count ws j → get_or (pins ws j) i 0 < inputs ws + j
  pub unused_zero : (i : ℕ) → pin_count ws j ≤ i → get_or (pins ws j) i 0 ≡ 0

-- the netlist part: counts, gates and outputs, and room for them
pub record NetSound (ws : List ℕ) : Type 0 where
  pub inputs_fit : inputs ws ≤ most_inputs
  pub gates_fit : gates ws ≤ most_gates
  pub some_output : 1 ≤ outputs ws
  pub outputs_fit : outputs ws ≤ most_outputs
  pub long : needed (gates ws) (outputs ws) ≤ length ws
  pub gate : (j : ℕ) → j < gates ws → GateShaped ws j
  pub outputs_below : (k : ℕ) → k < outputs ws → get_or (output_words ws) k 0 < inputs ws + gates ws

-- the stored figures: pattern, reliability, and each gate's flip and last word
pub record FiguresSound (ws : List ℕ) : Type 0 where
  pub pattern_fits : pattern ws < 2 ^ inputs ws
  pub reliability_fits : reliability_word ws ≤ units_in_one
  pub flip_fits : (j : ℕ) → j < gates ws → flip ws j ≤ largest_flip
  pub figure_fits : (j : ℕ) → j < gates ws → figure ws j ≤ largest_figure

-- the sum and the reserved word
pub record SumSound (ws : List ℕ) : Type 0 where
  pub low : sum_low_word ws ≡ low_bits (flip_sum ws)
  pub high : sum_high_word ws ≡ high_bits (flip_sum ws)
  pub reserved : reserved_word ws ≡ 0

-- what working out needs
pub record Workable (ws : List ℕ) : Type 0 where
  pub net : NetSound ws
  pub figures : FiguresSound ws

-- all of rule 14, and room
pub record Sound (ws : List ℕ) : Type 0 where
  pub workable : Workable ws
  pub sum : SumSound ws
