-- What the code's own steps mean: the table's indices under all error patterns, worked out pin by pin, the values that start
-- there, and the word that comes of them. The public promises are in Figure.antt; the laws in proofs/ show that both come to the same word.
use Rattle.std.specs.Prelude.{ℕ, zero, suc, ◌+◌, ◌-◌, ◌*◌, ◌/◌, ◌%◌, ◌^◌, ◌≤◌, cond, List, [], ◌∷◌, map, ◌≡◌, eqb, get_or}
use Rattle.rounding.specs.Rounding.{units_in_one}
use Rattle.figure.specs.Figure.{failure_of, fold_pins, gate_step, gate_word}

-- a pin as the fold sees it: its source's word, and what it adds to the table's index where its value is 1: 1, 2, 4 or 8
pub record Pin : Type 0 where
  pub word : ℕ
  pub bit : ℕ

-- so many pins from pin k on: `word` and `bit` tell what each has
abbrev pub pins_from : ℕ → ℕ → (ℕ → ℕ) → (ℕ → ℕ) → List Pin
pins_from k zero word bit = []
pins_from k (suc more) word bit = record { word = word k; bit = bit k } ∷ pins_from (suc k) more word bit

-- the first `count` pins of two arrays
abbrev pub first_pins : ℕ → List ℕ → List ℕ → List Pin
first_pins count words bits = pins_from 0 count (λ i. get_or words i 0) (λ i. get_or bits i 0)

-- all pins of a gate with these words: each has twice the bit of the one before it
abbrev pub numbered : ℕ → List ℕ → List Pin
numbered bit [] = []
numbered bit (w ∷ words) = record { word = w; bit = bit } ∷ numbered (2 * bit) words

-- what pins add to an index at the most
abbrev pub room : List Pin → ℕ
room [] = 0
room (p ∷ ps) = p.bit + room ps

-- each index becomes two: the pin right, the pin wrong
abbrev pub spread_step : ℕ → ℕ → List ℕ → List ℕ
spread_step right wrong [] = []
spread_step right wrong (x ∷ xs) = (x + right) ∷ (x + wrong) ∷ spread_step right wrong xs

abbrev pub spread_pin : ℕ → ℕ → List ℕ → List ℕ
spread_pin word bit xs = spread_step (word % 2 * bit) (bit - word % 2 * bit) xs

-- the last pin first, so that pin 0 is the lowest bit of a place
abbrev pub spread_pins : List Pin → List ℕ → List ℕ
spread_pins [] xs = xs
spread_pins (p ∷ ps) xs = spread_pin p.word p.bit (spread_pins ps xs)

-- step 1 at one index: u where the table's bit there is not the right answer
abbrev pub differs : ℕ → ℕ → ℕ → ℕ → ℕ
differs u table right x = cond (eqb (table / 2 ^ x % 2) right) 0 u

-- a value that is 0 or u, as those of step 1 are
abbrev pub NoneOrAll : ℕ → ℕ → Type 0
NoneOrAll u x = (x % u ≡ 0) × (x ≤ u)

-- the last value of the fold for these pins, from the index `start`
unfoldable pub last_value : ℕ → ℕ → ℕ → ℕ → List Pin → ℕ
last_value u table right start ps =
    fold_pins u (map (λ (p : Pin). failure_of p.word) ps) (map (differs u table right) (spread_pins ps (start ∷ [])))

-- the index where every pin is right, and the table's bit there
abbrev pub right_index : ℕ → List Pin → ℕ
right_index start [] = start
right_index start (p ∷ ps) = right_index start ps + p.word % 2 * p.bit

abbrev pub right_bit : ℕ → ℕ → List Pin → ℕ
right_bit table start ps = table / 2 ^ right_index start ps % 2

-- a gate's word from its table, the index that pins which cannot fail come to, the other pins, and its flip
unfoldable pub pins_word : ℕ → ℕ → ℕ → List Pin → ℕ → ℕ
pins_word u table start ps flip =
    2 * gate_step u (last_value u table (right_bit table start ps) start ps) flip + right_bit table start ps

-- these pins from this index make the word of a gate whose pins have these words, whatever its table and flip
pub record Split (words : List ℕ) (start : ℕ) (ps : List Pin) : Type 0 where
  pub fits : start + room ps ≤ 15
  pub word : (table flip : ℕ) → pins_word units_in_one table start ps flip ≡ gate_word units_in_one table words flip
