-- Tables of numbers: what looking names up leaves in them.
use Rattle.std.specs.Prelude.{ℕ, ◌+◌, ◌*◌, ◌<◌, ◌≤◌, List, map, ◌≡◌, length, get_or, drop}
use Rattle.area.specs.Layout.{most_pins, most_gates}
use Rattle.texts.specs.Words.{Word, word_of}
use Rattle.names.specs.Names.{before}
use Rattle.names.specs.declared.Words.{Words}
use Rattle.statements.specs.Lines.{Places}
use Rattle.placing.specs.Placing.{sources_of}
use Rattle.model.specs.Model.{number, sources}
use Rattle.model.specs.Tables.{rest_at, gate_from}

-- the number of the name that word k is, among many names
abbrev pub found_at : List ℕ → List ℕ → ℕ → List ℕ → ℕ → ℕ
found_at text names many starts k = before text names (word_of (drop (get_or starts k 0) text)) 0 many

-- entries below base and all bounds are kept
pub record Kept (old new : List ℕ) (base : ℕ) : Type 0 where
  pub long : length new ≡ length old
  pub earlier : (i : ℕ) → i < base → get_or new i 0 ≡ get_or old i 0

-- the numbers of the words from `start` on stand from `base` on
pub record Found (text names : List ℕ) (many : ℕ) (starts : List ℕ) (start count : ℕ) (old new : List ℕ) (base : ℕ) : Type 0 where
  pub kept : Kept old new base
  pub new_at : (i : ℕ) → i < count → get_or new (base + i) 0 ≡ found_at text names many starts (start + i)
  pub below : (b : ℕ) → many ≤ b → ((i : ℕ) → get_or old i 0 < b) → (i : ℕ) → get_or new i 0 < b

-- tables with room for 1,024 gates, four entries a gate in one of them
pub record Room (pins counts : List ℕ) : Type 0 where
  pub long : length pins ≡ most_pins * most_gates
  pub wide : length counts ≡ most_gates

-- the tables of sources of the first count gates: four entries a gate
pub record Sources (ds : List Word) (text starts lines : List ℕ) (n : ℕ) (heads pins counts : List ℕ) (count : ℕ) : Type 0 where
  pub room : Room pins counts
  pub each : (j : ℕ) → j < count
      → sources_of pins counts j ≡ map (λ (w : Word). number ds w.bytes) (sources (gate_from text starts lines n (get_or heads j 0)))
  pub few : (j : ℕ) → get_or counts j 0 ≤ most_pins
  pub past : (j : ℕ) → count ≤ j → get_or counts j 0 ≡ 0
  pub below : (b : ℕ) → length ds ≤ b → 0 < b → (i : ℕ) → get_or pins i 0 < b

-- the lines of the first count gates, by their first words, stand inside n words, and each has one to five names
pub record Headed (lines : List ℕ) (n : ℕ) (heads : List ℕ) (count : ℕ) : Type 0 where
  pub inside : (j : ℕ) → j < count → get_or heads j 0 < n
  pub fits : (j : ℕ) → j < count → (1 ≤ rest_at lines n (get_or heads j 0)) × (rest_at lines n (get_or heads j 0) ≤ most_pins + 1)

-- tables that are all zero
pub record Clear (pins counts : List ℕ) : Type 0 where
  pub no_pin : (i : ℕ) → get_or pins i 0 ≡ 0
  pub no_count : (j : ℕ) → get_or counts j 0 ≡ 0

-- the names that a text defines, lent beside words of the same text: they are places of it, and their numbers fit 16 bits
pub record Defined (names words : Words) : Type 0 where
  pub same_text : names.text.now ≡ words.text.now
  pub places : Places words.text.now names.starts.now names.count
  pub few : names.count < 65_536

-- the number of the name that word k is
abbrev pub found_in : Words → Words → ℕ → ℕ
found_in names words k = found_at words.text.now names.starts.now names.count words.starts.now k
