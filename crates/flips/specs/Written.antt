-- The eight bytes of a flip field from one number; and a flip that is given in units, as kind and field: change request 7. Zero units are kind 0, others the
-- f64 that is units / U.
use Rattle.std.specs.Prelude.{ℕ, zero, suc, ◌+◌, ◌-◌, ◌*◌, ◌/◌, ◌%◌, ◌^◌, List, [], ◌∷◌}
use Rattle.std.specs.Int.Count.{count_leading_zeros}

-- the k lowest bytes of a number, the lowest first; a field has eight
abbrev pub low_bytes : ℕ → ℕ → List ℕ
low_bytes zero x = []
low_bytes (suc k) x = x % 256 ∷ low_bytes k (x / 256)

abbrev pub field_bytes : ℕ → List ℕ
field_bytes x = low_bytes 8 x

-- the position of the highest bit of a number of 32 bits: 2^highest_bit is the largest power of two that it reaches
unfoldable pub highest_bit : ℕ → ℕ
highest_bit u = 31 - count_leading_zeros 32 u

-- 2^52: an f64's digits are below it, and it stands before them as the leading one
abbrev pub leading_one : ℕ
leading_one = 2 ^ 52

-- a number shifted up until its highest bit is the leading one
unfoldable pub shifted_up : ℕ → ℕ
shifted_up u = u * 2 ^ (52 - highest_bit u)

-- The bits of the f64 that is u / 2^30. Its size is 2^(highest_bit - 30) or more and less than twice that, and an exponent is written 1023 larger than it is:
-- so the exponent's field is highest_bit + 993. Below it stand the digits without the leading one. Zero has no bit.
unfoldable pub units_bits : ℕ → ℕ
units_bits zero = 0
units_bits (suc u) = (highest_bit (suc u) + 993) * leading_one + shifted_up (suc u) % leading_one

unfoldable pub units_kind : ℕ → ℕ
units_kind zero = 0
units_kind (suc u) = 1

abbrev pub units_field : ℕ → List ℕ
units_field u = field_bytes (units_bits u)
