-- Floats as chances: which can be one, by IEEE value and by bits, and how a fraction becomes a whole number. Document 01, "The netlist image".
use Rattle.std.specs.Prelude.{ℕ, ◌*◌, ◌/◌, ◌^◌, Bool, true, false, ◌||◌, leb, eqb, Float}
use Rattle.std.specs.Float.{nan, inf, fin}
use Rattle.std.specs.Float.Ieee.{up, down}

-- chances are counted in 2^-1074, the smallest step of an f64: so many of them make 1
unfoldable pub chance_scale : ℕ
chance_scale = 2 ^ 1074

-- n / d as a whole number of 2^-1074
unfoldable pub whole_chance : ℕ → ℕ → ℕ
whole_chance n d = n * chance_scale / d

-- whether a chance in 2^-1074 is at most 0.5
unfoldable pub at_most_half : ℕ → Bool
at_most_half chance = leb (2 * chance) chance_scale

-- whether a float can be a chance: a number m × 2^e that is at most 1, or minus zero; no NaN, no infinity
unfoldable pub from_zero_to_one : Float → Bool
from_zero_to_one nan = false
from_zero_to_one (inf s) = false
from_zero_to_one (fin false m e) = leb (m * up e) (down e)
from_zero_to_one (fin true m e) = eqb m 0

-- the same read off a bit pattern, given the patterns of 1 and of minus zero
abbrev pub chance_bits : ℕ → ℕ → ℕ → Bool
chance_bits one minus_zero bits = leb bits one || eqb bits minus_zero
