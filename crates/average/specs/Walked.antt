-- The walk over all patterns as a whole: what it knows beforehand, what its rows hold, and how far it goes.
use Rattle.std.specs.Prelude.{ℕ, ◌+◌, ◌-◌, ◌*◌, ◌/◌, ◌^◌, ◌<◌, List, ◌≡◌, get_or}
use Rattle.area.specs.Layout.{inputs, gates}
use Rattle.area.specs.Rules.{Workable}
use Rattle.signals.specs.Signals.{lane_count}
use Rattle.rows.specs.Rows.{row_length}
use Rattle.plan.specs.Plan.{NextLive, Unseen}
use Rattle.calls.specs.Calls.{reliability_for}
use Rattle.average.specs.Blocks.{RowsKept, RowsHeld}

-- the lists of a walk are those of its area
abbrev pub Planned : List ℕ → List ℕ → List ℕ → Type 0
Planned ws next unseen = Workable ws × NextLive ws next 0 × Unseen ws unseen (gates ws)

-- the rows can be read, and are those of row `held`
abbrev pub RowsFor : List ℕ → List ℕ → List ℕ → ℕ → Type 0
RowsFor ws unseen rows held = RowsKept ws rows × RowsHeld ws unseen rows held

-- a row has the reliabilities of the patterns from `start` on, as far as there are patterns
abbrev pub RowRight : List ℕ → ℕ → List ℕ → Type 0
RowRight ws start row = (l : ℕ) → l < row_length → start + l < 2 ^ inputs ws → get_or row l 0 ≡ reliability_for ws (start + l)

-- the end of the last block of patterns
abbrev pub walked_to : List ℕ → ℕ
walked_to ws = lane_count * ((2 ^ inputs ws + (lane_count - 1)) / lane_count)
