-- `work::reliability_now` meets its contract. Assumes nothing.
use native.Mathlib.Omega.{arith}
use Rattle.work.specs.Work.{reliability_now}
use Rattle.work.proofs.reliability_now.Goals as goal

pub output_product-requires : goal.output_product-requires
output_product-requires c = (c.requires, omega arith)

pub returns : goal.returns
unfolding reliability_now
returns c = c.output_product.ensures
