-- `comparison::error_of_image` meets its contract: its opening decides. Assumes nothing.
use Prim.Native.Nat.{ℕ}
use mathlib.Core.List.{List, []}
use mathlib.Core.Path.{refl, ap, ap₂, ◌∙◌}
use Rattle.bound.specs.Sharp.{error_halves}
use Rattle.area.specs.Net.{net_of}
use Rattle.image.specs.Loading.{image_kinds}
use Rattle.std.specs.Prelude.{Ok}
use Rattle.refusal.proofs.Laws.{answer-on}
use Rattle.calls.specs.Judgements.{image_judgement}
use Rattle.comparison.proofs.Opened.{opened-done, opened-refused, opened-left, opened-gates, opened-workable, opened-trailer, opened-halves}
use Rattle.comparison.proofs.error_of_image.Goals as goal

pub error_halves-halves-requires : goal.error_halves-halves-requires
error_halves-halves-requires c =
    let bs = c.args.image.now in
    let t = c.open in
    let fine = (opened-done bs _ _ t.ensures.value c.in_ok-live.was).0 in
    rw (t.ensures.area_after ∙ opened-left bs fine) ((opened-workable bs fine).net, opened-trailer bs fine, opened-gates bs)

pub returns : goal.returns
returns c =
    let bs = c.args.image.now in
    let t = c.open in
    let told = opened-done bs _ _ t.ensures.value c.in_ok-live.was in
    let halves = c.error_halves-halves.ensures.value
    ∙ ap (λ (ws : List ℕ). error_halves (net_of ws (image_kinds bs) [])) (t.ensures.area_after ∙ opened-left bs told.0)
    ∙ opened-halves bs told.0 in
    rw told.0 (ap₂ (λ (h n : ℕ). Ok (record { halves = h; live = n })) halves told.1)

pub returns-in_err-live : goal.returns-in_err-live
returns-in_err-live c =
    let bs = c.args.image.now in
    answer-on (image_judgement bs) _ _ _ (opened-refused bs _ _ c.open.ensures.value c.in_err-live.was) c.from_residual.ensures.1
