-- `flips::units_bits` meets its contract: nothing is lost in the shift, and all sums stay below 2^64. Assumes nothing.
use Prim.Native.Nat.{ℕ, ◌+◌, ◌-◌, ◌*◌, ◌%◌, ◌^◌, ◌<◌, ◌≤◌}
use mathlib.Core.Path.{◌≡◌, sym, ap, ◌∙◌}
use native.Mathlib.Omega.{arith}
use lib.Count.{count_leading_zeros}
use lib.Dec.{lit≤}
use native.Mathlib.Nat.{mod-eq_of_lt, lt_of_lt_of_le}
use Rattle.flips.specs.Written.{leading_one, shifted_up, units_bits}
use Rattle.flips.proofs.Laws.{leading-few, shifted-high, shifted-is, bits-made}
use Rattle.flips.proofs.units_bits.Goals.{Else-units-eq0}
use Rattle.flips.proofs.units_bits.Goals as goal

pub returns-then-units-eq0 : goal.returns-then-units-eq0
unfolding units_bits
returns-then-units-eq0 c = ap units_bits (sym c.if-units-eq0.true)

module _ (c : Else-units-eq0) where
  abbrev u : ℕ
  u = c.args.units

  above : 0 < u
  above = omega (arith, c.if-units-eq0.false)

  few : count_leading_zeros 32 u ≤ 31
  few = leading-few u above c.requires

  high : shifted_up u < 2 ^ 53
  high = shifted-high u above c.requires

  shifted : u * 2 ^ 21 * 2 ^ count_leading_zeros 32 u % 2 ^ 64 ≡ shifted_up u
  shifted = ap (λ (z : ℕ). z % 2 ^ 64) (shifted-is u above c.requires) ∙ mod-eq_of_lt (lt_of_lt_of_le high (lit≤ tt))

pub overflow_cast-zeros : goal.overflow_cast-zeros
overflow_cast-zeros c = omega (arith, few c)

pub overflow_mul-digits : goal.overflow_mul-digits
overflow_mul-digits c = omega (arith, c.requires)

pub overflow_shl-digits : goal.overflow_shl-digits
overflow_shl-digits c = omega (arith, few c)

pub overflow_mul-result : goal.overflow_mul-result
overflow_mul-result c = omega (arith, few c)

pub overflow_sub-result : goal.overflow_sub-result
overflow_sub-result c = omega (arith, few c)

pub overflow_add-result : goal.overflow_add-result
overflow_add-result c = omega (arith, few c, shifted c, high c)

pub returns : goal.returns
returns c =
    ap (λ (z : ℕ). 1023 * leading_one - count_leading_zeros 32 (u c) * leading_one + z) (shifted c) ∙ sym (bits-made (u c) (above c) c.requires)
