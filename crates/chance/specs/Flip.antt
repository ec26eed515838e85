-- A gate's flip field, as its kind and the list of its eight bytes: document 01, "The netlist image".
use Rattle.std.specs.Prelude.{ℕ, zero, suc, ◌+◌, ◌*◌, Bool, true, false, cond, ◌&&◌, List, get_or, eqb, Option, Some, None, Result, Ok, Err}
use Rattle.std.specs.Float.{binary32, binary64}
use Rattle.std.specs.Float.Ieee.{of_bits}
use Rattle.std.specs.Float.Ieee.Positive.{num, den}
use Rattle.rounding.specs.Rounding.{units_in_one, to_units}
use Rattle.chance.specs.declared.Flip.{Flip}
use Rattle.chance.specs.declared.Flip.TheVariants.{Never, Plain, Strike as Struck}
use Rattle.chance.specs.declared.FlipFault.{FlipFault}
use Rattle.chance.specs.declared.FlipFault.TheVariants.{Unreadable, AboveHalf}
use Rattle.chance.specs.Number.{chance_scale, whole_chance, at_most_half, from_zero_to_one}

-- little-endian numbers: four bytes, the field's two halves, and the whole field
abbrev pub four_bytes : ℕ → ℕ → ℕ → ℕ → ℕ
four_bytes a b c d = a + 256 * b + 65_536 * c + 16_777_216 * d

abbrev pub first_half : List ℕ → ℕ
first_half field = four_bytes (get_or field 0 0) (get_or field 1 0) (get_or field 2 0) (get_or field 3 0)

abbrev pub second_half : List ℕ → ℕ
second_half field = four_bytes (get_or field 4 0) (get_or field 5 0) (get_or field 6 0) (get_or field 7 0)

abbrev pub whole_field : List ℕ → ℕ
whole_field field = first_half field + 4_294_967_296 * second_half field

-- the float that a pattern of 64 bits stands for as a chance, and the two that two patterns of 32 bits stand for as a strike
abbrev pub plain_of : ℕ → Flip
plain_of bits = Plain (of_bits binary64 bits)

abbrev pub strike_of : ℕ → ℕ → Flip
strike_of chance window = Struck (record { chance = of_bits binary32 chance; window = of_bits binary32 window })

-- what a field of each kind says: 0 never, 1 a plain chance, 2 a strike chance in its first half and a latching window in its second
unfoldable pub flip_of : ℕ → List ℕ → Flip
flip_of zero field = Never
flip_of (suc zero) field = plain_of (whole_field field)
flip_of (suc (suc zero)) field = strike_of (first_half field) (second_half field)
flip_of (suc (suc (suc k))) field = Never

-- whether all floats of a flip can be chances, each by itself
unfoldable pub in_range : Flip → Bool
in_range Never = true
in_range (Plain x) = from_zero_to_one x
in_range (Struck s) = from_zero_to_one s.chance && from_zero_to_one s.window

-- which fields are accepted: of kind 0 only zero bytes, of kinds 1 and 2 floats in range, and none of a kind above 2
unfoldable pub flip_accepted : ℕ → List ℕ → Bool
flip_accepted zero field = eqb (whole_field field) 0
flip_accepted (suc zero) field = in_range (plain_of (whole_field field))
flip_accepted (suc (suc zero)) field = in_range (strike_of (first_half field) (second_half field))
flip_accepted (suc (suc (suc k))) field = false

-- the chance before conversion, in 2^-1074; a strike has the exact product of its two numbers
unfoldable pub chance_of : Flip → ℕ
chance_of Never = 0
chance_of (Plain x) = whole_chance (num x) (den x)
chance_of (Struck s) = whole_chance (num s.chance * num s.window) (den s.chance * den s.window)

unfoldable pub flip_chance : ℕ → List ℕ → ℕ
flip_chance kind field = chance_of (flip_of kind field)

-- the chance converted once, in units
unfoldable pub flip_units : ℕ → List ℕ → ℕ
flip_units kind field = to_units units_in_one chance_scale (flip_chance kind field)

-- the answer of reading a field: what it says, or refused
abbrev pub read_if : Bool → Flip → Option Flip
read_if accepted flip = cond accepted (Some flip) None

unfoldable pub read_flip : ℕ → List ℕ → Option Flip
read_flip kind field = read_if (flip_accepted kind field) (flip_of kind field)

-- the answer of reading a field in units: refused, or above 0.5 before conversion, or its units
abbrev pub units_if : Bool → Bool → ℕ → Result ℕ FlipFault
units_if accepted low units = cond accepted (cond low (Ok units) (Err AboveHalf)) (Err Unreadable)

unfoldable pub read_units : ℕ → List ℕ → Result ℕ FlipFault
read_units kind field = units_if (flip_accepted kind field) (at_most_half (flip_chance kind field)) (flip_units kind field)
