-- `rounding::blended_rest` meets its contract. Assumes nothing.
use Prim.Native.Nat.{◌+◌, ◌*◌, ◌≤◌}
use mathlib.Core.Path.{sym}
use native.Mathlib.Omega.{arith}
use Rattle.rounding.specs.Rounding.{units_in_one, units_in_half}
use Rattle.rounding.proofs.Means.{product-fits, rest-even, rest-near, rest_part}
use Rattle.rounding.proofs.blended_rest.Goals.{Start}
use Rattle.rounding.proofs.blended_rest.Goals as goal

-- the product fits
product : (s : Start) → s.args.figure * s.args.failure ≤ units_in_one * units_in_one
product s = product-fits s.args.figure s.args.failure s.requires.0 s.requires.1

-- what is taken off is no more than what it is taken from
part : (s : Start) → s.args.figure * s.args.failure ≤ (s.args.figure + s.args.failure) * units_in_half
part s = rest_part s.args.figure s.args.failure s.requires.0 s.requires.1

pub overflow_mul-product : goal.overflow_mul-product
overflow_mul-product c = omega (arith, product c)

pub overflow_add-product : goal.overflow_add-product
overflow_add-product c = omega (arith, product c)

pub overflow_cast-near : goal.overflow_cast-near
overflow_cast-near c = omega (arith, part c, c.requires.0, c.requires.1)

pub overflow_sub-near : goal.overflow_sub-near
overflow_sub-near c = omega (arith, part c)

pub returns-then-product-eq0 : goal.returns-then-product-eq0
returns-then-product-eq0 c = sym (rest-even c.args.figure c.args.failure c.requires.0 c.requires.1 c.if-product-eq0.true)

pub returns-else-product-eq0 : goal.returns-else-product-eq0
returns-else-product-eq0 c = sym (rest-near c.args.figure c.args.failure c.requires.0 c.requires.1 (omega (arith, c.if-product-eq0.false)))
