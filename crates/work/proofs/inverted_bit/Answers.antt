-- `work::inverted_bit` meets its contract. Assumes nothing.
use mathlib.Core.Path.{refl}
use native.Mathlib.Omega.{arith}
use borrow.Author.Tests.{eq-eqb, ne_eqb}
use Rattle.work.specs.Work.{invert_bit}
use Rattle.work.proofs.Pattern.{bit_is, bit-fits, bit_below}
use Rattle.work.proofs.inverted_bit.Goals as goal

pub overflow_sub-result : goal.overflow_sub-result
overflow_sub-result c = rw (bit_is c.args.input c.requires.0) (bit_below c.args.pattern c.args.input c.if-pattern-input-eq1.true)

pub overflow_add-result : goal.overflow_add-result
overflow_add-result c =
    rw (bit_is c.args.input c.requires.0) (omega (arith, bit-fits c.args.input c.requires.0, c.requires.1))

pub returns-then-pattern-input-eq1 : goal.returns-then-pattern-input-eq1
unfolding invert_bit
returns-then-pattern-input-eq1 c = rw (eq-eqb _ _ c.if-pattern-input-eq1.true, bit_is c.args.input c.requires.0) refl

pub returns-else-pattern-input-eq1 : goal.returns-else-pattern-input-eq1
unfolding invert_bit
returns-else-pattern-input-eq1 c = rw (ne_eqb _ _ c.if-pattern-input-eq1.false, bit_is c.args.input c.requires.0) refl
