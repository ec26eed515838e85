-- Fields of a few numbers of units, as another program writes these floats. By computation. Assumes nothing.
use mathlib.Core.Path.{◌≡◌, refl}
use mathlib.Core.List.{[], ◌∷◌}
use lib.Count.{count_leading_zeros}
use Rattle.flips.specs.Written.{highest_bit, shifted_up, units_bits, units_field}

pub written-fields :
    (units_field 1 ≡ 0x00 ∷ 0x00 ∷ 0x00 ∷ 0x00 ∷ 0x00 ∷ 0x00 ∷ 0x10 ∷ 0x3e ∷ [])
    × (units_field 3 ≡ 0x00 ∷ 0x00 ∷ 0x00 ∷ 0x00 ∷ 0x00 ∷ 0x00 ∷ 0x28 ∷ 0x3e ∷ [])
    × (units_field 53_687_091 ≡ 0x00 ∷ 0x00 ∷ 0x00 ∷ 0x98 ∷ 0x99 ∷ 0x99 ∷ 0xa9 ∷ 0x3f ∷ [])
    × (units_field 536_870_912 ≡ 0x00 ∷ 0x00 ∷ 0x00 ∷ 0x00 ∷ 0x00 ∷ 0x00 ∷ 0xe0 ∷ 0x3f ∷ [])
    × (units_field 1_073_741_823 ≡ 0x00 ∷ 0x00 ∷ 0x80 ∷ 0xff ∷ 0xff ∷ 0xff ∷ 0xef ∷ 0x3f ∷ [])
    × (units_field 1_073_741_824 ≡ 0x00 ∷ 0x00 ∷ 0x00 ∷ 0x00 ∷ 0x00 ∷ 0x00 ∷ 0xf0 ∷ 0x3f ∷ [])
unfolding units_bits highest_bit shifted_up count_leading_zeros
written-fields = (refl, refl, refl, refl, refl, refl)
