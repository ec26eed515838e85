-- The worked writings, by computation. Assumes nothing.
use mathlib.Core.Path.{refl}
use lib.Count.{count_leading_zeros}
use Rattle.flips.specs.Written.{highest_bit, shifted_up, units_bits, units_kind}
use Rattle.records.specs.Bytes.{image_with}
use Rattle.written.specs.Sheets.{WritingsHold}

pub writings-hold : WritingsHold
unfolding image_with highest_bit shifted_up units_bits units_kind count_leading_zeros
writings-hold = refl
