-- Tables of names: entry k of one has where name k starts, entry k of the other its line.
use Rattle.std.specs.Prelude.{ℕ, ◌+◌, ◌-◌, ◌<◌, ◌≤◌, cond, List, ◌++◌, ◌≡◌, length, get_or, drop}
use Rattle.texts.specs.Words.{Word, held, word_of, most_words}
use Rattle.names.specs.declared.Words.{Words}
use Rattle.statements.specs.Lines.{Line, line_of, lines_of, bytes_from, alike, PlacesTo}
use Rattle.statements.specs.Fit.{keyword_of}
use Rattle.statements.specs.declared.Keyword.{Keyword}
use Rattle.model.specs.Model.{same_key, gates_key, GateText, cover_of, gates_of, no_gate}

-- the keyword that word k is
abbrev pub key_at : List ℕ → List ℕ → ℕ → Keyword
key_at text starts k = keyword_of (word_of (drop (get_or starts k 0) text))

-- the names of a line with r words after word k, if its keyword is the one wanted: where they start, and how many they are
abbrev pub run_start : Keyword → ℕ → ℕ → ℕ
run_start wanted k r = cond (same_key wanted gates_key) (k + r) (k + 1)

abbrev pub run_many : Keyword → Keyword → ℕ → ℕ
run_many key wanted r = cond (same_key key wanted) (cond (same_key wanted gates_key) 1 r) 0

-- names put after count others
pub record Collected (text : List ℕ) (names lines : List ℕ) (count : ℕ) (more : List Word) (names' lines' : List ℕ) (count' : ℕ) : Type 0 where
  pub words : held text names' lines' 0 count' ≡ held text names lines 0 count ++ more
  pub counted : count' ≡ count + length more
  pub long : length names' ≡ length names
  pub wide : length lines' ≡ length lines
  pub inside : ((k : ℕ) → k < count → get_or names k 0 < length text) → (k : ℕ) → k < count' → get_or names' k 0 < length text

-- the gate whose `.names` is word h of n
abbrev pub rest_at : List ℕ → ℕ → ℕ → ℕ
rest_at lines n h = alike lines (get_or lines h 0) (h + 1) (n - (h + 1))

abbrev pub line_from : List ℕ → List ℕ → List ℕ → ℕ → ℕ → Line
line_from text starts lines n h = line_of (get_or lines h 0) (bytes_from text starts h (rest_at lines n h + 1))

abbrev pub lines_from : List ℕ → List ℕ → List ℕ → ℕ → ℕ → List Line
lines_from text starts lines n k = lines_of (held text starts lines k (n - k))

abbrev pub gate_from : List ℕ → List ℕ → List ℕ → ℕ → ℕ → GateText
gate_from text starts lines n h =
    record { head = line_from text starts lines n h; cover = cover_of (lines_from text starts lines n (h + (rest_at lines n h + 1))) }

-- the first count gates: entry j of a table is the word that begins gate j's line
pub record Heads (text starts lines : List ℕ) (n : ℕ) (heads : List ℕ) (count : ℕ) : Type 0 where
  pub inside : (j : ℕ) → j < count → get_or heads j 0 < n
  pub each : (j : ℕ) → j < count → gate_from text starts lines n (get_or heads j 0) ≡ get_or (gates_of (lines_from text starts lines n 0)) j no_gate

-- words of a text that are lent: no more of them than a text has; their lines from word k on; the keyword that word k is
abbrev pub LentFew : Words → Type 0
LentFew w = PlacesTo w w.count × (w.count ≤ length w.lines.now) × (w.count ≤ most_words)

abbrev pub lines_in : Words → ℕ → List Line
lines_in w k = lines_from w.text.now w.starts.now w.lines.now w.count k

abbrev pub key_in : Words → ℕ → Keyword
key_in w k = key_at w.text.now w.starts.now k
