-- What is promised of accepted fields, document 01, "The netlist image", and document 02, card 8: the chance that is held to 0.5 and converted is exactly
-- what the field says.
use Rattle.std.specs.Prelude.{ℕ, ◌*◌, ◌≤◌, ◌<◌, true, List, ◌≡◌, leb}
use Rattle.std.specs.Float.{binary32, binary64}
use Rattle.std.specs.Float.Ieee.{of_bits}
use Rattle.std.specs.Float.Ieee.Digits.{Equals}
use Rattle.rounding.specs.Rounding.{units_in_half}
use Rattle.chance.specs.Number.{chance_scale, at_most_half}
use Rattle.chance.specs.Flip.{first_half, second_half, whole_field, flip_accepted, flip_chance, flip_units}

-- an accepted plain chance is a whole number of 2^-1074, and exactly its float's value
abbrev pub PlainExact : Type 0
PlainExact = (field : List ℕ) → flip_accepted 1 field ≡ true → Equals (of_bits binary64 (whole_field field)) (flip_chance 1 field) chance_scale

-- a strike's chance is exactly the product: whatever fractions a / c and b / d its two floats equal
abbrev pub StrikeExact : Type 0
StrikeExact =
    (field : List ℕ) (a c b d : ℕ)
    → Equals (of_bits binary32 (first_half field)) a c
    → Equals (of_bits binary32 (second_half field)) b d
    → a * b * chance_scale ≡ flip_chance 2 field * (c * d)

-- no accepted chance passes 1
abbrev pub ChanceAtMost : Type 0
ChanceAtMost = (kind : ℕ) (field : List ℕ) → flip_accepted kind field ≡ true → flip_chance kind field ≤ chance_scale

-- a plain chance is at most 0.5 exactly where its float is: whatever fraction a / c that equals
abbrev pub PlainHalf : Type 0
PlainHalf =
    (field : List ℕ) (a c : ℕ)
    → flip_accepted 1 field ≡ true
    → 0 < c
    → Equals (of_bits binary64 (whole_field field)) a c
    → at_most_half (flip_chance 1 field) ≡ leb (2 * a) c

-- and a strike exactly where the product is
abbrev pub StrikeHalf : Type 0
StrikeHalf =
    (field : List ℕ) (a c b d : ℕ)
    → 0 < c
    → 0 < d
    → Equals (of_bits binary32 (first_half field)) a c
    → Equals (of_bits binary32 (second_half field)) b d
    → at_most_half (flip_chance 2 field) ≡ leb (2 * (a * b)) (c * d)

-- what is let in converts to at most U / 2 units; not the other way round: a chance just above 0.5 may convert to U / 2
abbrev pub LowUnits : Type 0
LowUnits = (kind : ℕ) (field : List ℕ) → at_most_half (flip_chance kind field) ≡ true → flip_units kind field ≤ units_in_half
