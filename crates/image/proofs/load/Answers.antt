-- `image::load` meets its contract. Assumes nothing.
use Prim.Native.Nat.{◌≤◌}
use mathlib.Core.Path.{sym, ◌∙◌}
use native.Mathlib.Omega.{arith}
use lib.ListN.{length}
use borrow.Author.Rules.{rules}
use Rattle.area.specs.Layout.{needed}
use Rattle.refusal.proofs.Laws.{never_both, otherwise-first, otherwise-second, first-on}
use Rattle.image.specs.Image.{image_gates, image_outputs}
use Rattle.image.specs.Refusals.{trailer_refusal, image_refusal}
use Rattle.image.proofs.Right.{trailer-right}
use Rattle.image.proofs.Middle.{stored-front}
use Rattle.image.proofs.load.Goals as goal

pub load_netlist-requires : goal.load_netlist-requires
load_netlist-requires c =
    let passed = sym c.judge_trailer.ensures ∙ c.in_ok-judge_trailer.was in
    record { trailer_right = trailer-right c.args.image.now passed; most_words_in_bounds = search rules }

pub returns : goal.returns
unfolding image_refusal
returns c =
    let bs = c.args.image.now in
    let ws = c.args.words.now in
    let net = c.load_netlist in
    let passed = sym c.judge_trailer.ensures ∙ c.in_ok-judge_trailer.was in
    let answer = net.ensures.value ∙ sym (otherwise-second (trailer_refusal bs) _ passed) in
    let t = trailer-right bs passed in
    let room : needed (image_gates bs) (image_outputs bs) ≤ length ws = omega (arith, c.requires) in
    record { value = answer; words_after = λ e. stored-front bs ws _ room (net.ensures.words_after (answer ∙ e)) }

pub returns-in_err-judge_trailer : goal.returns-in_err-judge_trailer
unfolding image_refusal
returns-in_err-judge_trailer c =
    let bs = c.args.image.now in
    let told = sym c.judge_trailer.ensures ∙ c.in_err-judge_trailer.was in
    let refused = otherwise-first (trailer_refusal bs) _ _ _ told in
    record {
      value = first-on (trailer_refusal bs) _ _ _ told c.from_residual.ensures.1;
      words_after = λ e. never_both (image_refusal bs) _ _ e refused;
    }
