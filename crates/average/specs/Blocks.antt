-- The walk over the patterns: 64 of them in a word of right values, and 32 in a row of failures. What words and rows hold of a block.
use Rattle.std.specs.Prelude.{ℕ, ◌+◌, ◌*◌, ◌/◌, ◌%◌, ◌^◌, ◌≤◌, ◌<◌, false, List, [], ◌≡◌, length, get_or, set}
use Rattle.rounding.specs.Rounding.{units_in_one}
use Rattle.figure.specs.Figure.{right_of, failure_of}
use Rattle.area.specs.Layout.{most_patterns, inputs, gates, pattern_index, output_words, source_word}
use Rattle.area.specs.Net.{net_of}
use Rattle.signals.specs.Signals.{lane_count, right_in, WordsHold}
use Rattle.rows.specs.Rows.{row_length, row_words, row_at}
use Rattle.folds.specs.Gates.{value_in, InputsSure}
use Rattle.plan.specs.Plan.{IsLive}
use Rattle.work.specs.Work.{work_all}

-- the word of source s with everything worked out for pattern q
unfoldable pub word_for : List ℕ → ℕ → ℕ → ℕ
word_for ws q s = source_word (work_all (set ws pattern_index q)) s

-- the pattern of entry l in a row that begins at `start`; after the last pattern comes pattern 0 again
abbrev pub row_pattern : List ℕ → ℕ → ℕ → ℕ
row_pattern ws start l = (start + l) % 2 ^ inputs ws

-- the words have the right values of the inputs and of those of the first b gates that are live, in each lane under its pattern
pub record LiveWords (ws patterns words : List ℕ) (b : ℕ) : Type 0 where
  pub input_words : WordsHold (inputs ws) (right_in (net_of ws [] []) patterns) words
  pub gate_words : (j : ℕ) → j < b → IsLive ws (inputs ws + j) → (l : ℕ) → l < lane_count
      → value_in words l (inputs ws + j) ≡ get_or (right_in (net_of ws [] []) patterns l) (inputs ws + j) false

-- the words have the right values of every live source for the row's patterns, in its lanes
abbrev pub ValuesFrom : List ℕ → List ℕ → ℕ → Type 0
ValuesFrom ws words start =
    (s l : ℕ) → s < inputs ws + gates ws → IsLive ws s → l < row_length
    → value_in words (start % lane_count + l) s ≡ right_of (word_for ws (row_pattern ws start l) s)

-- entry l of source s's row is its failure for its pattern
abbrev pub HasFailure : List ℕ → List ℕ → ℕ → ℕ → ℕ → Type 0
HasFailure ws rows start s l = row_at rows s l ≡ failure_of (word_for ws (row_pattern ws start l) s)

-- there is a row for each source, and those of inputs are 0
pub record RowsKept (ws rows : List ℕ) : Type 0 where
  pub long : length rows ≡ row_words
  pub sure : InputsSure (inputs ws) rows

-- the rows have the failures of those of the first b gates that are live
abbrev pub Block : List ℕ → List ℕ → ℕ → ℕ → Type 0
Block ws rows start b = (j : ℕ) → j < b → IsLive ws (inputs ws + j) → (l : ℕ) → l < row_length → HasFailure ws rows start (inputs ws + j) l

-- the rows of all patterns
abbrev pub row_count : ℕ
row_count = most_patterns / row_length

-- a live gate from gate b on that does not tell row `number` from row `held` has its failures for it
abbrev pub HeldFrom : List ℕ → List ℕ → List ℕ → ℕ → ℕ → ℕ → Type 0
HeldFrom ws unseen rows held number b =
    (j : ℕ) → b ≤ j → j < gates ws → IsLive ws (inputs ws + j)
    → held / 2 ^ get_or unseen (inputs ws + j) 0 ≡ number / 2 ^ get_or unseen (inputs ws + j) 0
    → (l : ℕ) → l < row_length → HasFailure ws rows (row_length * number) (inputs ws + j) l

abbrev pub RowsHeld : List ℕ → List ℕ → List ℕ → ℕ → Type 0
RowsHeld ws unseen rows held = (number : ℕ) → number < row_count → HeldFrom ws unseen rows held number 0

-- a source's failure in entry l as a word
abbrev pub row_word : List ℕ → ℕ → ℕ → ℕ
row_word rows l s = 2 * row_at rows s l

-- no output's failure passes U
abbrev pub OutputsFit : List ℕ → List ℕ → Type 0
OutputsFit ws rows = (k l : ℕ) → k < length (output_words ws) → l < row_length → row_at rows (get_or (output_words ws) k 0) l ≤ units_in_one
