-- `statements::rest_of` meets its contract. Assumes nothing.
use native.Mathlib.Omega.{arith}
use lib.ListN.{get_or}
use Rattle.statements.proofs.Lines.{alike-more}
use Rattle.statements.proofs.rest_of.Goals as goal

pub loop-i-preserved : goal.loop-i-preserved
loop-i-preserved c =
    let l = c.loop-i in
    let more = alike-more c.args.numbers.now (get_or c.args.numbers.now c.args.k 0) c.args.count l.i c.loop-i-test.true c.if-numbers-i.false in
    omega arith
