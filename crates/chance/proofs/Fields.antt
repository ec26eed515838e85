-- Fields that say no chance, chance 0, or one above 0.5, as one table: a kind, the eight bytes of a field, and what reading them in units answers. The
-- conversions of document 01's sheets are in the table of crate calls. By computation. Assumes nothing.
use Prim.Native.Nat.{ℕ}
use mathlib.Core.Path.{◌≡◌, refl}
use mathlib.Core.List.{List, [], ◌∷◌}
use lib.Ieee.{of_bits}
use Rattle.std.specs.Prelude.{Result, Ok, Err}
use Rattle.chance.specs.declared.FlipFault.{FlipFault}
use Rattle.chance.specs.declared.FlipFault.TheVariants.{Unreadable, AboveHalf}
use Rattle.rounding.specs.Rounding.{round_div, to_units}
use Rattle.chance.specs.Number.{chance_scale, whole_chance, at_most_half, from_zero_to_one}
use Rattle.chance.specs.Flip.{flip_of, in_range, flip_accepted, chance_of, flip_chance, flip_units, read_units}

pub record Row : Type 0 where
  pub kind : ℕ
  pub field : List ℕ
  pub answer : Result ℕ FlipFault

abbrev row : ℕ → ℕ → ℕ → ℕ → ℕ → ℕ → ℕ → ℕ → ℕ → Result ℕ FlipFault → Row
row kind a b c d e f g h answer = record { kind = kind; field = a ∷ b ∷ c ∷ d ∷ e ∷ f ∷ g ∷ h ∷ []; answer = answer }

abbrev pub rows : List Row
rows =
    row 0 0x00 0x00 0x00 0x00 0x00 0x00 0x00 0x00 (Ok 0)  -- never
    ∷ row 1 0x00 0x00 0x00 0x00 0x00 0x00 0x00 0x80 (Ok 0)  -- minus zero
    ∷ row 1 0x00 0x00 0x00 0x00 0x00 0x00 0xf8 0x7f (Err Unreadable)  -- not a number
    ∷ row 1 0x00 0x00 0x00 0x00 0x00 0x00 0xf0 0x7f (Err Unreadable)  -- infinity
    ∷ row 1 0x01 0x00 0x00 0x00 0x00 0x00 0xf0 0x3f (Err Unreadable)  -- the f64 next above 1
    ∷ row 1 0x01 0x00 0x00 0x00 0x00 0x00 0x00 0x80 (Err Unreadable)  -- -2^-1074
    ∷ row 1 0x00 0x00 0x00 0x00 0x00 0x00 0xf0 0x3f (Err AboveHalf)  -- 1
    ∷ row 2 0x00 0x00 0x80 0x3f 0x00 0x00 0x80 0x3f (Err AboveHalf)  -- a strike of 1 that is always latched
    ∷ row 2 0x00 0x00 0x80 0x3f 0x01 0x00 0x80 0x3f (Err Unreadable)  -- a window next above 1: no chance, though the product is above 0.5
    ∷ row 3 0x00 0x00 0x00 0x00 0x00 0x00 0x00 0x00 (Err Unreadable)  -- a kind of 3
    ∷ row 0 0x00 0x00 0x00 0x00 0x00 0x00 0x00 0x80 (Err Unreadable)  -- minus zero as a field of kind 0
    ∷ []

abbrev pub Right : List Row → Type 0
Right [] = Unit {0}
Right (r ∷ rs) = (read_units r.kind r.field ≡ r.answer) × Right rs

pub fields : Right rows
unfolding read_units flip_units flip_accepted flip_of in_range from_zero_to_one of_bits flip_chance chance_of whole_chance chance_scale to_units round_div at_most_half
fields = (refl, (refl, (refl, (refl, (refl, (refl, (refl, (refl, (refl, (refl, (refl, tt)))))))))))

-- minus zero is the chance 0 itself, before conversion
pub minus-zero : flip_chance 1 (0 ∷ 0 ∷ 0 ∷ 0 ∷ 0 ∷ 0 ∷ 0 ∷ 0x80 ∷ []) ≡ 0
unfolding flip_chance flip_of chance_of of_bits whole_chance chance_scale
minus-zero = refl
