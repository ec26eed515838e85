-- The lanes of a row in a word of 64. Assumes nothing.
use Prim.Native.Nat.{ℕ, suc, ◌+◌, ◌-◌, ◌/◌, ◌%◌, ◌^◌, ◌<◌}
use mathlib.Core.Path.{◌≡◌, ap, ◌∙◌}
use native.Mathlib.Omega.{arith}
use lib.Dec.{eqb}
use lib.Pow.{field, mod-mod-pow, shr-shr}
use Rattle.signals.specs.Signals.{lane}
use Rattle.rows.specs.Rows.{row_length}

-- the low bits of a number are those of the number
pub low_bit : (n x s : ℕ) → s < n → x % 2 ^ n / 2 ^ s % 2 ≡ x / 2 ^ s % 2
low_bit n x s l =
    let m = n - suc s in
    let parts : n ≡ m + 1 + s = omega arith in
    ap (λ (k : ℕ). x % 2 ^ k / 2 ^ s % 2) parts ∙ ap (λ (y : ℕ). y % 2) (field x (m + 1) s) ∙ mod-mod-pow (x / 2 ^ s) m 1

-- the 32 lanes of a word from `shift` on
pub half-lane : (shift l x : ℕ) → l < row_length → lane l (x / 2 ^ shift % 4_294_967_296) ≡ lane (shift + l) x
unfolding lane
half-lane shift l x less =
    ap (λ (y : ℕ). eqb y 1) (low_bit 32 (x / 2 ^ shift) l less ∙ ap (λ (y : ℕ). y % 2) (shr-shr x shift l))
