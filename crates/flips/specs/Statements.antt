-- What is promised of a flip written from its units: the float is exactly units / U, the field is accepted, it is read back as the same units, and its
-- chance is at most 0.5 where the units are at most U / 2.
use Rattle.std.specs.Prelude.{ℕ, ◌*◌, ◌≤◌, true, false, ◌≡◌}
use Rattle.std.specs.Float.{binary64}
use Rattle.std.specs.Float.Ieee.{of_bits}
use Rattle.std.specs.Float.Ieee.Exact.{HasValue}
use Rattle.rounding.specs.Rounding.{units_in_one, units_in_half}
use Rattle.chance.specs.Number.{chance_scale, at_most_half}
use Rattle.chance.specs.Flip.{flip_accepted, flip_chance, flip_units}
use Rattle.flips.specs.Written.{units_bits, units_kind, units_field}

pub record ReadBack (units : ℕ) : Type 0 where
  -- the f64 is units / U, with no minus sign
  pub value : HasValue (of_bits binary64 (units_bits units)) false units units_in_one
  pub accepted : flip_accepted (units_kind units) (units_field units) ≡ true
  -- its chance before conversion, counted in 2^-1074, is units / U too
  pub exact : flip_chance (units_kind units) (units_field units) * units_in_one ≡ units * chance_scale
  pub again : flip_units (units_kind units) (units_field units) ≡ units
  pub low : units ≤ units_in_half → at_most_half (flip_chance (units_kind units) (units_field units)) ≡ true

abbrev pub UnitsReadBack : Type 0
UnitsReadBack = (units : ℕ) → units ≤ units_in_one → ReadBack units
