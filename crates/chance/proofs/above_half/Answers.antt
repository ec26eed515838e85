-- `chance::above_half` meets its contract: where its bit pattern stands says whether a chance is at most 0.5 (`Convert`). Assumes nothing.
use mathlib.Core.Path.{sym, ap, ◌∙◌, subst}
use mathlib.Core.Bool.{not}
use native.Mathlib.Omega.{arith}
use borrow.Author.Tests.{le-ltb}
use lib.Dec.{T}
use lib.Ieee.{binary64, fits}
use Rattle.chance.proofs.Range.{range-no-nan}
use Rattle.chance.proofs.Convert.{low-within, low-past}
use Rattle.chance.proofs.above_half.Goals.{Start}
use Rattle.chance.proofs.above_half.Goals as goal

held : (c : Start) → T (fits binary64 c.args.chance)
held c = subst T (sym c.well_formed.0.1) tt

pub float_to_bits-bits : goal.float_to_bits-bits
float_to_bits-bits c = range-no-nan c.args.chance c.requires

pub returns-then-bits-gt-HALF_F64 : goal.returns-then-bits-gt-HALF_F64
returns-then-bits-gt-HALF_F64 c = low-past c.args.chance (held (goal.at.returns-then-bits-gt-HALF_F64 c).Start) c.requires (omega (arith, c.if-bits-gt-HALF_F64.true))

pub returns-else-bits-gt-HALF_F64 : goal.returns-else-bits-gt-HALF_F64
returns-else-bits-gt-HALF_F64 c =
    le-ltb _ _ c.if-bits-gt-HALF_F64.false
    ∙ sym (ap not (low-within c.args.chance (held (goal.at.returns-else-bits-gt-HALF_F64 c).Start) c.requires (omega (arith, c.if-bits-gt-HALF_F64.false))))
