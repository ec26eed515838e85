-- `shared::low_bits` meets its contract. Assumes nothing.
use Prim.Native.Nat.{ℕ, ◌%◌}
use mathlib.Core.Path.{ap}
use lib.Pow.{pow_pos}
use Rattle.rules.proofs.Facts.{shifted}
use Rattle.shared.proofs.low_bits.Goals as goal

pub nonzero_rem-result : goal.nonzero_rem-result
nonzero_rem-result c = rw (shifted c.args.inputs c.requires) (pow_pos c.args.inputs)

pub returns : goal.returns
returns c = ap (λ (d : ℕ). c.args.pattern % d) (shifted c.args.inputs c.requires)
