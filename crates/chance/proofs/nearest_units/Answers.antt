-- `chance::nearest_units` meets its contract: the exponent's field and the digits of a chance give its units (`Convert`). Assumes nothing.
use Prim.Native.Nat.{ℕ, ◌+◌, ◌-◌, ◌*◌, ◌%◌, ◌^◌, ◌≤◌}
use mathlib.Core.Path.{◌≡◌, sym, ap, ◌∙◌, subst}
use native.Mathlib.Nat.{one-mul, mod-eq_of_lt}
use native.Mathlib.Omega.{arith}
use lib.Dec.{T}
use lib.Pow.{pow_pos, pow_mono}
use lib.Ieee.{Float, binary64, fits}
use Rattle.rounding.specs.Rounding.{round_div}
use Rattle.chance.proofs.Range.{range-no-nan}
use Rattle.chance.proofs.Convert.{exponent, digits, at_most_one, none, some, room}
use Rattle.chance.proofs.nearest_units.Goals.{After-rounded, Else-exponent-lt992, Start}
use Rattle.chance.proofs.nearest_units.Goals as goal

held : (c : Start) → T (fits binary64 c.args.chance)
held c = subst T (sym c.well_formed.0.1) tt

pub float_to_bits-bits : goal.float_to_bits-bits
float_to_bits-bits c = range-no-nan c.args.chance c.requires

pub returns-then-exponent-lt992 : goal.returns-then-exponent-lt992
returns-then-exponent-lt992 c = none c.args.chance (held (goal.at.returns-then-exponent-lt992 c).Start) c.requires c.if-exponent-lt992.true

-- the digits, and the power of two that they are divided by
module _ (c : Else-exponent-lt992) where
  abbrev x : Float
  x = c.args.chance

  abbrev sum : ℕ
  sum = digits x (held c.before) c.requires + 4_503_599_627_370_496

  abbrev shift : ℕ
  shift = 1045 - exponent x (held c.before) c.requires

  small : 2 ^ shift ≤ 2 ^ 54
  small = pow_mono {i = shift} {j = 54} (omega (arith, c.if-exponent-lt992.false))

  power : 1 * 2 ^ shift % 2 ^ 64 ≡ 2 ^ shift
  power = ap (λ (z : ℕ). z % 2 ^ 64) (one-mul (2 ^ shift)) ∙ mod-eq_of_lt (omega (arith, small))

pub overflow_sub-exponent : goal.overflow_sub-exponent
overflow_sub-exponent c = omega (arith, at_most_one (x c) (held (goal.at.overflow_sub-exponent c).Start) c.requires)

pub overflow_shl-exponent : goal.overflow_shl-exponent
overflow_shl-exponent c = omega (arith, c.if-exponent-lt992.false)

pub rounded-requires : goal.rounded-requires
rounded-requires c = record { count_nonzero = omega (arith, power c, pow_pos (shift c)); count_bound = omega (arith, power c, small c) }

rounded-is : (c : After-rounded) → c.rounded.result ≡ round_div (sum c.before) (2 ^ shift c.before)
rounded-is c = c.rounded.ensures ∙ ap (round_div (sum c.before)) (power c.before)

pub overflow_cast-result : goal.overflow_cast-result
overflow_cast-result c = omega (arith, rounded-is c, room (x (goal.at.overflow_cast-result c).Else-exponent-lt992) (held (goal.at.overflow_cast-result c).Start) c.requires)

pub returns : goal.returns
returns c = rounded-is c ∙ some (x (goal.at.returns c).Else-exponent-lt992) (held (goal.at.returns c).Start) c.requires (omega (arith, c.if-exponent-lt992.false))
