-- The figures of document 01 from the words of sources: `read s` is source s's word, 2 × failure + right value. An area reads its own words, the average's
-- walk those of a pattern.
use Rattle.std.specs.Prelude.{ℕ, List, [], ◌∷◌, map}
use Rattle.rounding.specs.Rounding.{units_in_one}
use Rattle.figure.specs.Figure.{gate_word, output_step, failure_of}
use Rattle.area.specs.Layout.{table, flip, used_pins}

-- gate j's word by the rule
unfoldable pub gate_word_from : (ℕ → ℕ) → List ℕ → ℕ → ℕ
gate_word_from read ws j = gate_word units_in_one (table ws j) (map read (used_pins ws j)) (flip ws j)

-- the reliability s after the outputs that are left
abbrev pub product_from : (ℕ → ℕ) → ℕ → List ℕ → ℕ
product_from read s [] = s
product_from read s (o ∷ os) = product_from read (output_step units_in_one s (failure_of (read o))) os
