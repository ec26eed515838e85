-- `area::store_sum` meets its contract. Assumes nothing.
use native.Mathlib.Omega.{arith}
use lib.ListN.{length-set}
use Rattle.area.proofs.store_sum.Goals as goal

pub bounds-area-6 : goal.bounds-area-6
bounds-area-6 c = omega (arith, length-set c.args.area.now 5 c.sum_low.result)

pub returns : goal.returns
returns c = rw (c.sum_high.ensures, c.sum_low.ensures)
