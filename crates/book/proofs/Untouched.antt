-- On any area, no call changes the length, or a word past those that it needs. Assumes nothing.
use Prim.Native.Nat.{ℕ, ◌+◌, ◌-◌}
use mathlib.Core.List.{List, ◌++◌}
use mathlib.Core.Path.{◌≡◌, refl, sym, ap, ◌∙◌}
use native.Mathlib.Omega.{arith}
use lib.ListN.{length, get_or, drop}
use lib.Seq.{get_or-append-add, get_or-drop}
use Rattle.refusal.specs.Judgement.{Judgement}
use Rattle.refusal.specs.Judgement.{Fine, refused}
use Rattle.refusal.specs.Judgement.{unless_refused}
use Rattle.chance.specs.Flip.{flip_units}
use Rattle.area.specs.Layout.{inputs, gates, outputs, needed}
use Rattle.area.specs.Sum.{with_sum}
use Rattle.work.specs.Work.{work_all, set_words}
use Rattle.work.proofs.Frame.{SameFrame, past-kept, same_refl, same-trans, same-toggle, same_set, same-work-all}
use Rattle.fresh.proofs.Calls.{same-with-sum}
use Rattle.image.specs.Image.{image_gates, image_outputs}
use Rattle.image.specs.Loading.{image_words}
use Rattle.image.proofs.Middle.{length-words}
use Rattle.image.proofs.Words.{head-gates, head-outputs}
use Rattle.calls.specs.Judgements.{Call, open_image, toggle_input, set_flip, read_netlist, read_gate, take_average, count_seen, write_image}
use Rattle.calls.specs.Judgements.{open_judgement, judgement}
use Rattle.calls.specs.Calls.{open_words, work}
use Rattle.calls.proofs.Judgements.{open-fine, lent-fine, set-fine}
use Rattle.book.specs.Statement.{needed_by, Untouched, PastUntouched}
use Rattle.book.proofs.Open.{opened-length}
use Rattle.std.specs.Prelude.{Err}

frame-untouched : (ws vs : List ℕ) → SameFrame ws vs → Untouched (needed (gates ws) (outputs ws)) ws vs
frame-untouched ws vs same = record { size = same.size; past = past-kept ws vs same }

open-untouched : (bs ws : List ℕ) → open_judgement bs (length ws) ≡ Fine → Untouched (needed (image_gates bs) (image_outputs bs)) ws (open_words bs ws)
unfolding open_words
open-untouched bs ws e =
    let need = needed (image_gates bs) (image_outputs bs) in
    let before = image_words bs ++ drop need ws in
    let worked = work_all before in
    let same = same-trans before worked (with_sum worked) (same-work-all before) (same-with-sum worked) in
    record {
      size = same.size ∙ opened-length bs ws (open-fine bs (length ws) e).room;
      past =
          λ i l.
          let k = i - need in
          let at : length (image_words bs) + k ≡ i = omega (arith, length-words bs) in
          let back : need + k ≡ i = omega arith in
          past-kept before (with_sum worked) same i (omega (arith, head-gates bs (drop need ws), head-outputs bs (drop need ws)))
          ∙ ap (λ (t : ℕ). get_or before t 0) (sym at)
          ∙ get_or-append-add (image_words bs) (drop need ws) k 0
          ∙ get_or-drop need ws k 0
          ∙ ap (λ (t : ℕ). get_or ws t 0) back;
    }

work-untouched : (ws : List ℕ) (call : Call) → judgement ws call ≡ Fine → Untouched (needed_by ws call) ws (work ws call)
work-untouched ws (open_image bs) e = open-untouched bs ws e
work-untouched ws (toggle_input i) e = frame-untouched ws _ (same-toggle ws i)
work-untouched ws (set_flip g kind field) e =
    let passed = set-fine (inputs ws) (gates ws) (outputs ws) g kind field (lent-fine ws (set_flip g kind field) e).1 in
    let worked = set_words ws g (flip_units kind field) in
    frame-untouched ws _ (same-trans ws worked (with_sum worked) (same_set ws g (flip_units kind field) passed.0) (same-with-sum worked))
work-untouched ws read_netlist e = frame-untouched ws ws (same_refl ws)
work-untouched ws (read_gate g) e = frame-untouched ws ws (same_refl ws)
work-untouched ws (take_average weights) e = frame-untouched ws _ (same-work-all ws)
work-untouched ws (count_seen method patterns slots) e = frame-untouched ws ws (same_refl ws)
work-untouched ws (write_image room) e = frame-untouched ws ws (same_refl ws)

pub past-untouched : PastUntouched
past-untouched ws call = go (judgement ws call) refl
  where
    go : (v : Judgement) → judgement ws call ≡ v → Untouched (needed_by ws call) ws (unless_refused v (work ws call) ws)
    go Fine e = work-untouched ws call e
    go (Err why) e = record { size = refl; past = λ i l. refl }
