-- A gate in a row of patterns. A source's word has its right value under 64 patterns, lane by lane; its row has its failure in 32 of these lanes, entry l
-- that in lane shift + l.
use Rattle.std.specs.Prelude.{ℕ, ◌+◌, ◌≤◌, ◌<◌, Bool, List, map, ◌≡◌, get_or}
use Rattle.rounding.specs.Rounding.{units_in_one}
use Rattle.figure.specs.Figure.{answer, gate_failure}
use Rattle.area.specs.Layout.{inputs, gates, pin_count, table, pin, flip, used_pins}
use Rattle.area.specs.Rules.{NetSound}
use Rattle.signals.specs.Signals.{lane}
use Rattle.rows.specs.Rows.{row_length, row_at}

-- no input fails
abbrev pub InputsSure : ℕ → List ℕ → Type 0
InputsSure n rows = (s l : ℕ) → s < n → l < row_length → row_at rows s l ≡ 0

-- gate j can be worked out: no failure of what its used pins read passes U
pub record RowsReady (ws rows : List ℕ) (j : ℕ) : Type 0 where
  pub net : NetSound ws
  pub inside : j < gates ws
  pub sure : InputsSure (inputs ws) rows
  pub fits : (i : ℕ) → i < pin_count ws j → (l : ℕ) → l < row_length → row_at rows (pin ws j i) l ≤ units_in_one

-- source s's right value in lane l
abbrev pub value_in : List ℕ → ℕ → ℕ → Bool
value_in words l s = lane l (get_or words s 0)

-- gate j's word has its answer to its pins' words, in the lanes of a row
abbrev pub RightHere : List ℕ → List ℕ → ℕ → ℕ → Type 0
RightHere ws words shift j =
    (l : ℕ) → l < row_length → value_in words (shift + l) (inputs ws + j) ≡ answer (table ws j) (map (value_in words (shift + l)) (used_pins ws j))

-- gate j's failure in entry l, by the rule, from its pins' right values and failures
unfoldable pub failure_from : List ℕ → List ℕ → List ℕ → ℕ → ℕ → ℕ → ℕ
failure_from ws words rows shift j l =
    gate_failure units_in_one (table ws j) (map (value_in words (shift + l)) (used_pins ws j)) (map (λ s. row_at rows s l) (used_pins ws j)) (flip ws j)
