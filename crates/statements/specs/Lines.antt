-- The lines of a text that have words: words with one line number stand in one line.
use Rattle.std.specs.Prelude.{ℕ, zero, suc, ◌<◌, ◌≤◌, cond, List, [], ◌∷◌, length, get_or, drop, eqb}
use Rattle.texts.specs.Words.{Word, word_of}
use Rattle.names.specs.declared.Words.{Words}

pub record Line : Type 0 where
  pub number : ℕ
  pub words : List (List ℕ)

abbrev pub line_of : ℕ → List (List ℕ) → Line
line_of number words = record { number = number; words = words }

-- a word in front of lines: it belongs to the first where the numbers are equal
abbrev pub joined : Word → List Line → List Line
joined w [] = line_of w.line (w.bytes ∷ []) ∷ []
joined w (l ∷ ls) =
    cond (eqb w.line l.number)
    (line_of w.line (w.bytes ∷ l.words) ∷ ls)
    (line_of w.line (w.bytes ∷ []) ∷ l ∷ ls)

abbrev pub lines_of : List Word → List Line
lines_of [] = []
lines_of (w ∷ ws) = joined w (lines_of ws)

-- the last line; past the last, one without words
abbrev pub last_line : List Line → Line
last_line [] = line_of 0 []
last_line (l ∷ []) = l
last_line (l ∷ k ∷ ls) = last_line (k ∷ ls)

-- the bytes of k words from word i of a table on
abbrev pub bytes_from : List ℕ → List ℕ → ℕ → ℕ → List (List ℕ)
bytes_from text starts i zero = []
bytes_from text starts i (suc k) = word_of (drop (get_or starts i 0) text) ∷ bytes_from text starts (suc i) k

-- how many of the k words from word i on stand in line x, before the first that does not
abbrev pub alike : List ℕ → ℕ → ℕ → ℕ → ℕ
alike lines x i zero = 0
alike lines x i (suc k) = cond (eqb (get_or lines i 0) x) (suc (alike lines x (suc i) k)) 0

-- n entries of a table are places of a text
pub record Places (text starts : List ℕ) (n : ℕ) : Type 0 where
  pub within : n ≤ length starts
  pub inside : (k : ℕ) → k < n → get_or starts k 0 < length text

-- words of a text that are lent: n of them have places, all of them have places and lines; the bytes of k words from word i on
abbrev pub PlacesTo : Words → ℕ → Type 0
PlacesTo w n = Places w.text.now w.starts.now n

abbrev pub Lent : Words → Type 0
Lent w = PlacesTo w w.count × (w.count ≤ length w.lines.now)

abbrev pub bytes_of : Words → ℕ → ℕ → List (List ℕ)
bytes_of w i k = bytes_from w.text.now w.starts.now i k
