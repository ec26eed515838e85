-- Working out: a gate, all gates, the gates that depend on a source, the reliability. Each step reads the words as they are then, so an area
-- that no call left gets the same steps. Document 01, "The figures" and "Work area and calls".
use Rattle.std.specs.Prelude.{ℕ, zero, suc, ◌+◌, ◌-◌, ◌/◌, ◌%◌, ◌^◌, Bool, false, cond, ◌||◌, List, [], ◌∷◌, get_or, set, replicate, eqb}
use Rattle.rounding.specs.Rounding.{units_in_one}
use Rattle.area.specs.Layout.{most_sources, inputs, gates, pattern_index, pattern, reliability_index, flip_index, figure_index, used_pins, output_words, source_word}
use Rattle.area.specs.Figures.{gate_word_from, product_from}

-- gate j's figure word by the rule, from the words held
unfoldable pub gate_figure : List ℕ → ℕ → ℕ
gate_figure ws j = gate_word_from (source_word ws) ws j

unfoldable pub work_gate : List ℕ → ℕ → List ℕ
work_gate ws j = set ws (figure_index j) (gate_figure ws j)

-- the k gates from j on, in order
abbrev pub work_gates : List ℕ → ℕ → ℕ → List ℕ
work_gates ws j zero = ws
work_gates ws j (suc k) = work_gates (work_gate ws j) (suc j) k

unfoldable pub reliability_now : List ℕ → ℕ
reliability_now ws = product_from (source_word ws) units_in_one (output_words ws)

unfoldable pub work_reliability : List ℕ → List ℕ
work_reliability ws = set ws reliability_index (reliability_now ws)

-- every figure worked out afresh
unfoldable pub work_all : List ℕ → List ℕ
work_all ws = work_reliability (work_gates ws 0 (gates ws))

-- sources are marked 1 where they changed; whether one of these pins reads such a source
abbrev pub reads_marked : List ℕ → List ℕ → Bool
reads_marked marks [] = false
reads_marked marks (p ∷ ps) = eqb (get_or marks p 0) 1 || reads_marked marks ps

-- a gate worked out, and its source marked, where m says so
abbrev pub work_if : Bool → List ℕ → ℕ → List ℕ
work_if m ws j = cond m (work_gate ws j) ws

abbrev pub mark_if : Bool → List ℕ → ℕ → List ℕ
mark_if m marks s = cond m (set marks s 1) marks

-- the k gates from j on, in order: a gate that reads a marked source is worked out and marked itself
abbrev pub work_marked : List ℕ → List ℕ → ℕ → ℕ → List ℕ
work_marked ws marks j zero = ws
work_marked ws marks j (suc k) =
    work_marked
    (work_if (reads_marked marks (used_pins ws j)) ws j)
    (mark_if (reads_marked marks (used_pins ws j)) marks (inputs ws + j))
    (suc j)
    k

-- the marks of all sources: only source s is marked
abbrev pub mark_of : ℕ → List ℕ
mark_of s = set (replicate most_sources 0) s 1

-- a pattern with bit i inverted
unfoldable pub invert_bit : ℕ → ℕ → ℕ
invert_bit q i = cond (eqb (q / 2 ^ i % 2) 1) (q - 2 ^ i) (q + 2 ^ i)

-- document 01's "turn one input over": input i's bit inverted, the gates that depend on it worked out in order, then the reliability
unfoldable pub toggle_words : List ℕ → ℕ → List ℕ
toggle_words ws i =
    work_reliability (work_marked (set ws pattern_index (invert_bit (pattern ws) i)) (mark_of i) 0 (gates ws))

-- gate g's flip set: that gate and those that depend on it worked out in order, then the reliability
unfoldable pub set_words : List ℕ → ℕ → ℕ → List ℕ
set_words ws g units =
    work_reliability (work_marked (work_gate (set ws (flip_index g) units) g) (mark_of (inputs ws + g)) (suc g) (gates ws - suc g))
