-- From the words that an image was loaded into to its opening. Assumes nothing.
use Prim.Native.Nat.{ℕ}
use mathlib.Core.Path.{◌≡◌, refl, sym, ap, ◌∙◌, ap₂}
use mathlib.Core.List.{List, [], ◌++◌}
use lib.ListN.{take, drop}
use lib.Seq.{take_at}
use Rattle.refusal.specs.Judgement.{Fine, refused}
use Rattle.refusal.specs.Judgement.{otherwise}
use Rattle.refusal.proofs.Laws.{otherwise-first, otherwise-second}
use Rattle.netlist.specs.Live.{live_gates}
use Rattle.area.specs.Layout.{gates, outputs, needed}
use Rattle.area.specs.Rules.{room_judgement}
use Rattle.area.specs.Net.{net_of}
use Rattle.area.specs.Sum.{flip_sum, stored_sum, with_sum}
use Rattle.area.proofs.Net.{same-live-gates}
use Rattle.area.proofs.Sum.{same_sum}
use Rattle.work.specs.Work.{work_all}
use Rattle.work.proofs.Frame.{frame-same-net, same-work-all, work-all-flip}
use Rattle.live.specs.Shared.{shared_judgement}
use Rattle.image.specs.Image.{image_gates, image_outputs}
use Rattle.image.specs.Refusals.{image_refusal}
use Rattle.image.specs.Loading.{image_words, image_kinds, image_chances}
use Rattle.image.specs.Netlist.{image_net}
use Rattle.image.proofs.Middle.{length-words}
use Rattle.image.proofs.Words.{head-gates, head-outputs}
use Rattle.image.proofs.Netlist.{image-net, loaded-sum}
use Rattle.calls.specs.Judgements.{open_judgement}
use Rattle.calls.specs.Calls.{open_words, open_live}
use Rattle.bench.specs.Loaded.{loaded_judgement, loaded_words}
use Rattle.live.proofs.Shared.{shared_same}
use Rattle.refusal.specs.declared.Cause.{Cause}

-- the words ws that an accepted image bs was loaded into
module _ (bs tail ws : List ℕ) (e : ws ≡ image_words bs ++ tail) where
  same_gates : gates ws ≡ image_gates bs
  same_gates = rw e (head-gates bs tail)

  same_outputs : outputs ws ≡ image_outputs bs
  same_outputs = rw e (head-outputs bs tail)

  same-net : net_of ws (image_kinds bs) (image_chances bs) ≡ image_net bs
  same-net = rw e (image-net bs tail)

  pub loaded-front : take (needed (gates ws) (outputs ws)) ws ≡ image_words bs
  loaded-front = rw (same_gates, same_outputs, e) (take_at (image_words bs) tail (needed (image_gates bs) (image_outputs bs)) (length-words bs))

  pub open-judged : image_refusal bs ≡ Fine → (size : ℕ) → open_judgement bs size ≡ loaded_judgement ws size
  unfolding open_judgement loaded_judgement
  open-judged accepted size =
      otherwise-second (image_refusal bs) _ accepted
      ∙ ap₂ otherwise (ap shared_judgement (sym same-net) ∙ shared_same ws (image_kinds bs) (image_chances bs) [] [])
      (ap₂ (λ (g k : ℕ). room_judgement g k size) (sym same_gates) (sym same_outputs))

  pub open-live : open_live bs ≡ live_gates (net_of ws [] [])
  unfolding open_live
  open-live = ap live_gates (sym same-net) ∙ same-live-gates ws (image_kinds bs) (image_chances bs) [] []

  pub open-words : (area : List ℕ) → open_words bs area ≡ loaded_words ws area
  unfolding open_words with_sum loaded_words
  open-words area =
      let rest = drop (needed (image_gates bs) (image_outputs bs)) area in
      let before = image_words bs ++ rest in
      let sums : flip_sum (work_all before) ≡ flip_sum ws
      = same_sum (work_all before) before (frame-same-net before (work_all before) (same-work-all before)) (λ j l. work-all-flip before j)
      ∙ loaded-sum bs rest
      ∙ sym (loaded-sum bs tail)
      ∙ ap flip_sum (sym e) in
      ap (stored_sum (work_all before)) sums ∙ rw (loaded-front, same_gates, same_outputs) refl

pub open-refused : (bs : List ℕ) (number : Cause) (place size : ℕ) → image_refusal bs ≡ refused number place → open_judgement bs size ≡ refused number place
unfolding open_judgement
open-refused bs number place size e = otherwise-first (image_refusal bs) _ number place e
