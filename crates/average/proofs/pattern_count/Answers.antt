-- `average::pattern_count` meets its contract. Assumes nothing.
use Prim.Native.Nat.{◌^◌, ◌≤◌, ◌<◌}
use native.Mathlib.Omega.{arith}
use lib.Pow.{pow_mono, pow_pos}
use Rattle.average.proofs.Patterns.{shifted}
use Rattle.average.proofs.pattern_count.Goals as goal

pub returns : goal.returns
returns c =
    let n = c.args.inputs in
    let most : 2 ^ n ≤ 4096 = pow_mono {i = n} {j = 12} c.requires in
    let some : 0 < 2 ^ n = pow_pos n in
    (shifted n c.requires, omega (arith, shifted n c.requires), omega (arith, shifted n c.requires))
