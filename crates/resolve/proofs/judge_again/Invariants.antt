use mathlib.Core.Path.{◌≡◌}
use mathlib.Core.Path.{◌≡◌}
use Rattle.refusal.specs.Judgement.{Fine}
use Rattle.refusal.specs.Judgement.{lowest}
use Rattle.texts.specs.Words.{held}
use Rattle.resolve.specs.Names.{again_at}
use Rattle.resolve.proofs.judge_again.Given as goal

abbrev pub invariant-loop-i : goal.invariant-loop-i
invariant-loop-i l =
    (lowest (again_at (held l.names.text.now l.names.starts.now l.names.lines.now 0 l.names.count)) l.i ≡ Fine)
