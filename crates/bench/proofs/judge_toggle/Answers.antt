-- `bench::judge_toggle` meets its contract. Assumes nothing.
use borrow.Author.Rules.{rules}
use Rattle.calls.specs.Judgements.{argument_judgement, lent_judgement}
use Rattle.bench.proofs.judge_toggle.Goals as goal

pub returns : goal.returns
unfolding lent_judgement argument_judgement
returns c = search (rules, c.judge_counted.ensures)
