-- The words of a text and the numbers of their lines, document 01's text of card 4.
use Rattle.std.specs.Prelude.{ℕ, zero, suc, ◌+◌, ◌<◌, ◌≤◌, Bool, true, false, cond, List, [], ◌∷◌, ◌++◌, ◌≡◌, length, get_or, drop, eqb}
use Rattle.texts.specs.declared.Place.{Place}
use Rattle.texts.specs.declared.Place.TheVariants.{Gap, Inside, Comment, Joint}
use Rattle.texts.specs.declared.State.{State}

-- a text has at most so many bytes; words are parted, so that it has at most half as many
abbrev pub most_bytes : ℕ
most_bytes = 32_768

abbrev pub most_words : ℕ
most_words = 16_384

-- space, tab and CR part words
unfoldable pub blank : ℕ → Bool
blank b = cond (eqb b 32) true (cond (eqb b 9) true (eqb b 13))

-- a backslash whose next byte is the LF joins two lines
unfoldable pub joins : ℕ → ℕ → Bool
joins b next = cond (eqb b 92) (eqb next 10) false

-- where the byte after b stands, b outside a comment and not the LF of a joint
unfoldable pub after : ℕ → ℕ → Place
after b next = cond (eqb b 10) Gap (cond (eqb b 35) Comment (cond (joins b next) Joint (cond (blank b) Gap Inside)))

-- The state after a byte. Lines count from 1: `here` is the line of a byte, `line` the first of those joined to it.
abbrev pub state_after : Place → ℕ → ℕ → State
state_after place here line = record { place = place; here = here; line = line }

abbrev pub outside : ℕ → ℕ → ℕ → ℕ → State
outside here line b next = cond (eqb b 10) (state_after (after b next) (here + 1) (here + 1)) (state_after (after b next) here line)

-- a comment goes up to the LF, which ends the line; the LF of a joint does not
abbrev pub step_from : Place → ℕ → ℕ → ℕ → ℕ → State
step_from Gap here line b next = outside here line b next
step_from Inside here line b next = outside here line b next
step_from Comment here line b next = cond (eqb b 10) (state_after Gap (here + 1) (here + 1)) (state_after Comment here line)
step_from Joint here line b next = cond (eqb b 10) (state_after Gap (here + 1) line) (state_after Gap here line)

abbrev pub step : State → ℕ → ℕ → State
step st b next = step_from st.place st.here st.line b next

-- the byte belongs to a word
abbrev pub in_word : Place → Bool
in_word Gap = false
in_word Inside = true
in_word Comment = false
in_word Joint = false

-- a word starts at a byte: it belongs to a word, and the byte before it belongs to none
abbrev pub begins : Place → Place → Bool
begins Gap next = in_word next
begins Inside next = false
begins Comment next = false
begins Joint next = false

-- the word that stands at the front of s
abbrev pub word_of : List ℕ → List ℕ
word_of [] = []
word_of (b ∷ s) = cond (in_word (after b (get_or s 0 0))) (b ∷ word_of s) []

pub record Word : Type 0 where
  pub line : ℕ
  pub bytes : List ℕ

-- the word that starts at a place, if one does
abbrev pub begun : Bool → ℕ → List ℕ → List Word
begun true line bytes = record { line = line; bytes = bytes } ∷ []
begun false line bytes = []

abbrev pub words_from : State → List ℕ → List Word
words_from st [] = []
words_from st (b ∷ s) =
    begun (begins st.place (step st b (get_or s 0 0)).place) st.line (word_of (b ∷ s)) ++ words_from (step st b (get_or s 0 0)) s

-- the words of a text
abbrev pub words_of : List ℕ → List Word
words_of text = words_from (record { place = Gap; here = 1; line = 1 }) text

-- The words that two tables hold, entry k of each for word k: where it starts, and its line.
abbrev pub word_at : List ℕ → List ℕ → List ℕ → ℕ → Word
word_at text begins lines k = record { line = get_or lines k 0; bytes = word_of (drop (get_or begins k 0) text) }

-- k words from word i on
abbrev pub held : List ℕ → List ℕ → List ℕ → ℕ → ℕ → List Word
held text begins lines i zero = []
held text begins lines i (suc k) = word_at text begins lines i ∷ held text begins lines (suc i) k

-- how many lines a text has begun: one, and one more after each LF
abbrev pub line_feeds : List ℕ → ℕ
line_feeds [] = 0
line_feeds (b ∷ s) = cond (eqb b 10) (suc (line_feeds s)) (line_feeds s)

-- two tables with room for every word of a text
pub record Tables (starts lines : List ℕ) : Type 0 where
  pub starts_long : length starts ≡ most_words
  pub lines_long : length lines ≡ most_words

-- two tables hold the words of a text, count of them; last is the number of its last line
pub record Read (text starts lines : List ℕ) (count last : ℕ) : Type 0 where
  pub tables : Tables starts lines
  pub words : held text starts lines 0 count ≡ words_of text
  pub last_line : last ≡ 1 + line_feeds text
  pub few : count ≤ most_words
  pub inside : (k : ℕ) → k < count → get_or starts k 0 < length text

-- a word that starts at `at` in `line` is entered after n others, if one does
pub record Noted (text starts lines : List ℕ) (n : ℕ) (b : Bool) (at line : ℕ) (starts' lines' : List ℕ) (n' : ℕ) : Type 0 where
  pub words : held text starts' lines' 0 n' ≡ held text starts lines 0 n ++ begun b line (word_of (drop at text))
  pub tables : Tables starts' lines'
  pub more : n' ≡ n + cond b 1 0
  pub inside : at < length text → ((k : ℕ) → k < n → get_or starts k 0 < length text) → (k : ℕ) → k < n' → get_or starts' k 0 < length text
