-- `bench::write_image` meets its contract. Assumes nothing.
use Prim.Native.Nat.{◌≤◌}
use mathlib.Core.Path.{◌≡◌, refl, sym, ◌∙◌}
use lib.ListN.{length}
use Rattle.refusal.specs.Judgement.{Fine}
use Rattle.area.specs.Layout.{inputs, gates, outputs}
use Rattle.area.specs.Rules.{Sound}
use Rattle.calls.specs.Judgements.{Call, write_image, judgement}
use Rattle.calls.proofs.Judgements.{lent-fine, write-fine}
use Rattle.written.specs.Image.{area_image_length}
use Rattle.written.specs.Call.{image_left}
use Rattle.refusal.proofs.Laws.{passed-on}
use Rattle.bench.proofs.write_image.Goals.{After-judge_write}
use Rattle.bench.proofs.write_image.Goals as goal

module _ (c : After-judge_write) where
  abbrev asked : Call
  asked = write_image (length c.args.image.now)

  judged : c.judge_write.result ≡ judgement c.args.area.now asked
  judged = c.judge_write.ensures

  passed : judgement c.args.area.now asked ≡ Fine
      → Sound c.args.area.now × (area_image_length c.args.area.now ≤ length c.args.image.now)
  passed e =
      let ws = c.args.area.now in
      let p = lent-fine ws asked e in
      (p.0, write-fine (inputs ws) (gates ws) (outputs ws) (length c.args.image.now) p.1)

pub write_image-requires : goal.write_image-requires
write_image-requires c =
    let p = passed (goal.at.write_image-requires c).After-judge_write (sym (judged (goal.at.write_image-requires c).After-judge_write) ∙ c.in_ok-judge_write.was) in
    (p.0.workable, p.1)

pub image_length-requires : goal.image_length-requires
image_length-requires c =
    (passed (goal.at.image_length-requires c).After-judge_write (sym (judged (goal.at.image_length-requires c).After-judge_write) ∙ c.in_ok-judge_write.was)).0.workable

pub returns : goal.returns
unfolding image_left
returns c =
    let e = sym (judged (goal.at.returns c).After-judge_write) ∙ c.in_ok-judge_write.was in record { value = rw (e, c.image_length.ensures.0) refl; image_after = rw e c.write_image.ensures }

pub returns-in_err-judge_write : goal.returns-in_err-judge_write
unfolding image_left
returns-in_err-judge_write c =
    let e = sym (judged (goal.at.returns-in_err-judge_write c).After-judge_write) ∙ c.in_err-judge_write.was in record { value = rw (passed-on c.from_residual.result c.in_err-judge_write.field-0.0 c.from_residual.ensures.1, e) refl; image_after = rw e refl }
