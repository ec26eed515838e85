-- Rows of failures: 32 patterns at a time.
use Rattle.std.specs.Prelude.{ℕ, ◌+◌, ◌*◌, ◌≤◌, ◌<◌, Bool, cond, List, ◌≢◌, ◌≡◌, get_or}
use Rattle.rounding.specs.Rounding.{units_in_one}
use Rattle.area.specs.Layout.{most_sources}

-- patterns of a row, and words of all rows
abbrev pub row_length : ℕ
row_length = 32

abbrev pub row_words : ℕ
row_words = row_length * most_sources

-- entry l of source s's row: its failure
abbrev pub row_at : List ℕ → ℕ → ℕ → ℕ
row_at rows s l = get_or rows (row_length * s + l) 0

-- an entry for each lane: those of F
abbrev pub EachEntry : List ℕ → (ℕ → ℕ) → Type 0
EachEntry row F = (l : ℕ) → l < row_length → get_or row l 0 ≡ F l

-- no entry passes U
abbrev pub RowFits : List ℕ → Type 0
RowFits row = (l : ℕ) → l < row_length → get_or row l 0 ≤ units_in_one

-- row s has been stored, and no other row has changed
pub record RowStored (old new : List ℕ) (s : ℕ) (row : ℕ → ℕ) : Type 0 where
  pub here : (l : ℕ) → l < row_length → row_at new s l ≡ row l
  pub other : (t l : ℕ) → t ≢ s → l < row_length → row_at new t l ≡ row_at old t l

-- a start value of the fold: U where the answer is wrong
abbrev pub value_if : Bool → ℕ
value_if wrong = cond wrong units_in_one 0
