-- `blif::judge_counts` meets its contract. Assumes nothing.
use Rattle.model.specs.Counts.{count_fault}
use Rattle.blif.proofs.judge_counts.Goals as goal

pub returns : goal.returns
unfolding count_fault
returns c = cc
