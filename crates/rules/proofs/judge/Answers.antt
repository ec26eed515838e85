-- `rules::judge` meets its contract: an area that passes all but the sum can have its live readers counted. Assumes nothing.
use mathlib.Core.Path.{◌≡◌, sym, ◌∙◌}
use native.Mathlib.Omega.{arith}
use Rattle.refusal.specs.Judgement.{Fine}
use Rattle.refusal.proofs.Laws.{passed-on}
use Rattle.area.specs.Rules.{NetSound, words_judgement}
use Rattle.rules.proofs.Sound.{workable, past_words, stopped-words}
use Rattle.rules.proofs.judge.Goals.{In_ok-judge_words}
use Rattle.rules.proofs.judge.Goals as goal

-- what all but the sum tell
module _ (c : In_ok-judge_words) where
  fine : words_judgement c.args.area.now ≡ Fine
  fine = sym c.judge_words.ensures ∙ c.in_ok-judge_words.was

  sound-net : NetSound c.args.area.now
  sound-net = (workable c.args.area.now fine).net

pub returns-in_err-judge_words : goal.returns-in_err-judge_words
returns-in_err-judge_words c =
    passed-on _ _ c.from_residual.ensures.1 ∙ sym (stopped-words c.args.area.now _ _ (sym c.judge_words.ensures ∙ c.in_err-judge_words.was))

pub count_live-requires : goal.count_live-requires
count_live-requires c = sound-net c

pub judge_sum-requires : goal.judge_sum-requires
judge_sum-requires c =
    (omega (arith, (sound-net (goal.at.judge_sum-requires c).In_ok-judge_words).long), c.count_live.ensures.sum_value.0)

pub returns : goal.returns
returns c = c.judge_sum.ensures ∙ sym (past_words c.args.area.now (fine (goal.at.returns c).In_ok-judge_words))
