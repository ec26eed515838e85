-- `bench::judge_gate` meets its contract. Assumes nothing.
use Rattle.calls.specs.Judgements.{argument_judgement, lent_judgement}
use Rattle.bench.proofs.judge_gate.Goals as goal

pub returns : goal.returns
unfolding lent_judgement argument_judgement
returns c = c.judge_counted.ensures
