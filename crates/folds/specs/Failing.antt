-- The fold told by the values on the pins: folding a pin takes the mean of what comes where it is right and of what comes where it is inverted. A pin whose
-- source cannot fail then drops out, and the first fold of a pin that may is exact.
use Rattle.std.specs.Prelude.{ℕ, zero, suc, ◌+◌, ◌-◌, ◌≤◌, ◌<◌, Bool, cond, List, ◌≡◌}
use Rattle.rounding.specs.Rounding.{units_in_one, blend}
use Rattle.figure.specs.Figure.{answer, inverted}
use Rattle.netlist.specs.Seen.{alone, differ, sensitive}
use Rattle.area.specs.Layout.{inputs, pin_count, table, pin}
use Rattle.signals.specs.Signals.{lane_count, lane, pin_lanes}
use Rattle.rows.specs.Rows.{row_length, row_at, value_if}

-- pins 0 to k - 1 folded, pin 0 innermost, on a function of the values on all pins
abbrev pub fold_first : (List Bool → ℕ) → (ℕ → ℕ) → ℕ → List Bool → ℕ
fold_first start failure zero vs = start vs
fold_first start failure (suc k) vs =
    blend units_in_one (fold_first start failure k vs) (fold_first start failure k (inverted vs (alone k))) (failure k)

-- with these values on its pins gate j does not answer what `right` has in lane l
abbrev pub wrong_in : List ℕ → ℕ → ℕ → ℕ → List Bool → Bool
wrong_in ws j right l vs = differ (answer (table ws j) vs) (lane l right)

-- pin words of which that of one pin is inverted
abbrev pub InvertedAt : ℕ → List ℕ → List ℕ → Type 0
InvertedAt number pins wrong = (l count : ℕ) → l < lane_count → number < count → pin_lanes l count wrong ≡ inverted (pin_lanes l count pins) (alone number)

-- the pins below `lowest` read inputs; so do those from `end` on, and the one before does not
abbrev pub InputsBelow : List ℕ → ℕ → ℕ → Type 0
InputsBelow ws j lowest = (i : ℕ) → i < lowest → pin ws j i < inputs ws

pub record FailingEnd (ws : List ℕ) (j end : ℕ) : Type 0 where
  pub used : end ≤ pin_count ws j
  pub after : (i : ℕ) → end ≤ i → i < pin_count ws j → pin ws j i < inputs ws
  pub last : 0 < end → inputs ws ≤ pin ws j (end - 1)

-- the last value of the fold over pins 0 to k - 1, in entry l, where the pins have these words
abbrev pub last_in : List ℕ → List ℕ → ℕ → ℕ → ℕ → List ℕ → ℕ → ℕ → ℕ
last_in ws rows j right shift pins k l =
    fold_first (λ vs. value_if (wrong_in ws j right (shift + l) vs)) (λ i. row_at rows (pin ws j i) l) k (pin_lanes (shift + l) (pin_count ws j) pins)

-- one pin's failure where gate j is sensitive to it, else 0
abbrev pub sensitive_failure : List ℕ → List ℕ → ℕ → ℕ → List ℕ → ℕ → ℕ → ℕ
sensitive_failure ws rows j shift pins number l =
    cond (sensitive (table ws j) (pin_lanes (shift + l) (pin_count ws j) pins) number) (row_at rows (pin ws j number) l) 0

-- the words of gate j's pins lead to what `right` has
abbrev pub RightFor : List ℕ → ℕ → ℕ → ℕ → List ℕ → Type 0
RightFor ws j right shift pins = (l : ℕ) → l < row_length → lane (shift + l) right ≡ answer (table ws j) (pin_lanes (shift + l) (pin_count ws j) pins)
