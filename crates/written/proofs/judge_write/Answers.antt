-- `written::judge_write` meets its contract. Assumes nothing.
use mathlib.Core.Path.{sym, ◌∙◌}
use native.Mathlib.Omega.{arith}
use Rattle.rules.proofs.Sound.{sound}
use Rattle.area.specs.Layout.{gates, outputs}
use Rattle.area.specs.Rules.{Sound}
use Rattle.calls.specs.Judgements.{write_image, argument_judgement}
use Rattle.calls.proofs.Judgements.{lent-sound, lent-stopped, fine-slice, short-slice}
use Rattle.refusal.proofs.Laws.{passed-on}
use Rattle.written.proofs.judge_write.Goals.{After-image_length}
use Rattle.written.proofs.judge_write.Goals as goal

pub image_length-requires : goal.image_length-requires
image_length-requires c = (sound _ (sym c.judge.ensures ∙ c.in_ok-judge.was)).workable

module _ (c : After-image_length) where
  passed : Sound c.args.area.now
  passed = sound _ (sym c.judge.ensures ∙ c.in_ok-judge.was)

pub returns-then-room-image_length : goal.returns-then-room-image_length
unfolding argument_judgement
returns-then-room-image_length c =
    let a = c.args in
    let ws = a.area.now in
    sym (lent-sound ws (write_image a.room) (passed (goal.at.returns-then-room-image_length c).After-image_length)
    ∙ short-slice (gates ws) (outputs ws) a.room (omega (arith, c.if-room-image_length.true, c.image_length.ensures.0)))

pub returns : goal.returns
unfolding argument_judgement
returns c =
    let a = c.args in
    let ws = a.area.now in
    sym (lent-sound ws (write_image a.room) (passed (goal.at.returns c).After-image_length)
    ∙ fine-slice (gates ws) (outputs ws) a.room (omega (arith, c.if-room-image_length.false, c.image_length.ensures.0)))

pub returns-in_err-judge : goal.returns-in_err-judge
returns-in_err-judge c =
    let a = c.args in
    passed-on _ _ c.from_residual.ensures.1
    ∙ sym (lent-stopped a.area.now (write_image a.room) _ _ (sym c.judge.ensures ∙ c.in_err-judge.was))
