-- `bench::last_pattern` meets its contract. Assumes nothing.
use Prim.Native.Nat.{ℕ, ◌-◌}
use mathlib.Core.Path.{ap}
use native.Mathlib.Omega.{arith}
use lib.Pow.{pow_pos}
use Rattle.rules.proofs.Facts.{shifted}
use Rattle.bench.proofs.last_pattern.Goals as goal

pub overflow_sub-result : goal.overflow_sub-result
overflow_sub-result c = omega (arith, shifted c.args.inputs c.requires, pow_pos c.args.inputs)

pub returns : goal.returns
returns c = ap (λ (x : ℕ). x - 1) (shifted c.args.inputs c.requires)
