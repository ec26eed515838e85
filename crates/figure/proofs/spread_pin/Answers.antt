-- `figure::spread_pin` meets its contract: after i turns the first 2 × i places hold the first i indices spread. Assumes nothing.
use Prim.Native.Nat.{◌-◌, ◌*◌, ◌%◌}
use native.Mathlib.Omega.{arith}
use lib.ListN.{get_or, length-set}
use Rattle.figure.proofs.Spread.{spread-turn}
use Rattle.figure.proofs.spread_pin.Goals.{Start}
use Rattle.figure.proofs.spread_pin.Goals as goal

pub loop-i-preserved : goal.loop-i-preserved
loop-i-preserved c =
    let l = c.loop-i in
    let a = c.args in
    let bit = get_or a.bits.now a.pin 0 in
    let right = get_or a.words.now a.pin 0 % 2 * bit in
    (simp length-set l.invariant.0, spread-turn right (bit - right) a.indices l.spread l.i (omega arith) (omega arith) l.invariant.1)
