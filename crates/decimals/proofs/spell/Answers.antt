-- `decimals::spell` meets its contract: digit after digit from the last place on. Assumes nothing.
use lib.ListN.{length-set}
use Rattle.decimals.proofs.Digits.{turn}
use Rattle.decimals.proofs.spell.Goals as goal

pub loop-i-preserved : goal.loop-i-preserved
loop-i-preserved c =
    let l = c.loop-i in
    turn c.args.number l.text l.rest l.i l.invariant c.loop-i-test.true (simp length-set l.invariant.long)
