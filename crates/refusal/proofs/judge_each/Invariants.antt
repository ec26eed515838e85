use Rattle.std.proofs.Common.{◌≡◌}
use Rattle.refusal.specs.Judgement.{Fine, lowest, word_judgement}
use Rattle.refusal.proofs.judge_each.Given as goal

abbrev pub invariant-loop-i : goal.invariant-loop-i
invariant-loop-i l = lowest (word_judgement l.words l.most l.cause) l.i ≡ Fine
