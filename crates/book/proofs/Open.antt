-- An accepted image, opened, leaves words that agree with its book. Assumes nothing.
use Prim.Native.Nat.{ℕ, ◌≤◌, ◌<◌}
use mathlib.Core.List.{List, ◌++◌}
use mathlib.Core.Path.{◌≡◌, sym, ◌∙◌}
use native.Mathlib.Omega.{arith}
use lib.ListN.{length, drop, length-append, length-drop}
use Rattle.refusal.specs.Judgement.{Fine}
use Rattle.area.specs.Layout.{gates, needed}
use Rattle.live.proofs.Shared.{shared-single}
use Rattle.work.specs.Work.{work_all}
use Rattle.area.specs.Sum.{with_sum}
use Rattle.work.proofs.Frame.{same_gates, same-reserved, same-trans, same-work-all, work-all-pattern, work-all-flip}
use Rattle.work.proofs.Sound.{workable-work-all, sound-with-sum}
use Rattle.fresh.proofs.WorkAll.{work-all-fresh}
use Rattle.fresh.proofs.Calls.{frame-net, same-with-sum, with-sum-fresh, with-sum-flip, with-sum-pattern}
use Rattle.image.specs.Image.{image_gates, image_outputs, middle, record_kind, record_field}
use Rattle.image.specs.Loading.{record_chance, image_words, image_kinds, image_chances}
use Rattle.image.specs.Netlist.{image_net}
use Rattle.image.proofs.Middle.{length-words}
use Rattle.image.proofs.Words.{head-gates, head-pattern}
use Rattle.image.proofs.Sound.{loaded-workable, loaded-reserved, length-kinds, length-chances, kind_at, chance-at, chances_fit, flips-at}
use Rattle.chance.proofs.Laws.{never-chance}
use Rattle.image.proofs.Netlist.{image-net}
use Rattle.calls.specs.Judgements.{open_judgement}
use Rattle.calls.specs.Calls.{open_words}
use Rattle.calls.proofs.Judgements.{open-fine}
use Rattle.book.specs.Book.{image_book}
use Rattle.book.proofs.Agree.{Agree}

-- the image's words before what stood past them, in an area with room for them
pub opened-length : (bs ws : List ℕ) → needed (image_gates bs) (image_outputs bs) ≤ length ws
    → length (image_words bs ++ drop (needed (image_gates bs) (image_outputs bs)) ws) ≡ length ws
opened-length bs ws room =
    let rest = drop (needed (image_gates bs) (image_outputs bs)) ws in
    omega (arith, length-append (image_words bs) rest, length-words bs, length-drop (needed (image_gates bs) (image_outputs bs)) ws)

pub opened : (bs ws : List ℕ) → open_judgement bs (length ws) ≡ Fine → Agree (length ws) (open_words bs ws) (image_book bs)
unfolding open_words record_chance
opened bs ws e =
    let accepted = open-fine bs (length ws) e in
    let rest = drop (needed (image_gates bs) (image_outputs bs)) ws in
    let before = image_words bs ++ rest in
    let worked = work_all before in
    let after = with_sum worked in
    let workable = loaded-workable bs rest accepted.image in
    let ready = workable-work-all before workable in
    let same = same-trans before worked after (same-work-all before) (same-with-sum worked) in
    let count : gates after ≡ image_gates bs = same_gates before after same ∙ head-gates bs rest in
    record {
      long = same.size ∙ opened-length bs ws accepted.room;
      kinds = image_kinds bs;
      chances = image_chances bs;
      kind_each = omega (arith, length-kinds bs);
      chance_each = omega (arith, length-chances bs);
      sound = sound-with-sum worked ready (same-reserved before worked (same-work-all before) ∙ loaded-reserved bs rest);
      fresh = with-sum-fresh worked ready.net (work-all-fresh before workable.net);
      held = frame-net before after (image_kinds bs) (image_chances bs) same ∙ image-net bs rest;
      converted = record { flips = λ j l. with-sum-flip worked j ∙ work-all-flip before j ∙ flips-at bs rest j (omega arith) };
      chances_fit = λ j l. chances_fit bs accepted.image j (omega arith);
      honest = λ j l e.
          let inside : j < image_gates bs = omega arith in
          chance-at bs j inside ∙ never-chance (record_kind (middle bs) j) (record_field (middle bs) j) (sym (kind_at bs j inside) ∙ e);
      same_pattern = with-sum-pattern worked ∙ work-all-pattern before ∙ head-pattern bs rest;
      single = shared-single (image_net bs) accepted.shared;
    }
