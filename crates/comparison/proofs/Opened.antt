-- What an image that opening accepts leaves in an area of zeros. Assumes nothing.
use Prim.Native.Nat.{ℕ, ◌≤◌}
use mathlib.Core.List.{List, [], ◌++◌}
use mathlib.Core.Path.{◌≡◌, refl, sym, ap, ◌∙◌}
use native.Mathlib.Omega.{arith}
use lib.ListN.{length, drop, length-replicate}
use Rattle.refusal.specs.Judgement.{Judgement}
use Rattle.refusal.specs.Judgement.{Fine}
use Rattle.bound.specs.Sharp.{error_halves}
use Rattle.area.specs.Layout.{most_words, most_inputs, inputs, gates, outputs, needed}
use Rattle.area.specs.Rules.{Workable}
use Rattle.area.specs.Net.{net_of}
use Rattle.area.specs.Sum.{with_sum}
use Rattle.work.specs.Work.{work_all}
use Rattle.work.proofs.Frame.{SameFrame, same_inputs, same_gates, same_outputs, same-trans, same-work-all}
use Rattle.fresh.proofs.Calls.{frame-net, same-with-sum}
use Rattle.image.specs.Image.{image_inputs, image_gates, image_outputs}
use Rattle.image.specs.Refusals.{TrailerRight}
use Rattle.image.specs.Loading.{image_words, image_kinds, image_chances}
use Rattle.image.specs.Netlist.{image_net}
use Rattle.image.proofs.Netlist.{image-net}
use Rattle.image.proofs.Right.{image-right}
use Rattle.image.proofs.Words.{head-inputs, head-gates, head-outputs}
use Rattle.calls.specs.Judgements.{open_image, open_judgement, image_judgement}
use Rattle.calls.specs.Calls.{open_words, open_live, left}
use Rattle.calls.proofs.Judgements.{judged-image, judged-in-most}
use Rattle.book.specs.Book.{image_book}
use Rattle.book.proofs.Agree.{Agree}
use Rattle.book.proofs.Open.{opened as opened-agree}
use Rattle.errors.proofs.Charges.{same-halves}
use Rattle.std.specs.Prelude.{Result, Ok, Err}
use Rattle.refusal.specs.declared.Refusal.{Refusal}
use Rattle.bench.specs.Answers.{opened}
use Rattle.bench.proofs.Answered.{open_told}
use Rattle.comparison.specs.declared.Module.{Module}
use Rattle.comparison.specs.declared.Image.{Image}
use Rattle.refusal.proofs.Laws.{answer-told}
use Rattle.comparison.specs.Images.{new_area, opened_words, module_read, with_image}

pub module-told : (j : Judgement) (m : Module)
    → ((k : Module) → module_read j m ≡ Ok k → (j ≡ Fine) × (k ≡ m)) × ((why : Refusal) → module_read j m ≡ Err why → j ≡ Err why)
module-told j m = answer-told j m (module_read j m) refl

-- a module that was read from one of two images
pub module-read : (image : Image) (r : Result Module Refusal) (m : Module) → with_image image r ≡ Ok m → r ≡ Ok m
module-read image (Ok k) m e = cc
module-read image (Err why) m e = cc

module _ (bs : List ℕ) where
  abbrev before : List ℕ
  before = image_words bs ++ drop (needed (image_gates bs) (image_outputs bs)) new_area

  kept : SameFrame before (opened_words bs)
  unfolding opened_words open_words
  kept = same-trans before (work_all before) (with_sum (work_all before)) (same-work-all before) (same-with-sum (work_all before))

  pub opened-inputs : inputs (opened_words bs) ≡ image_inputs bs
  opened-inputs = same_inputs before (opened_words bs) kept ∙ head-inputs bs _

  pub opened-gates : gates (opened_words bs) ≡ image_gates bs
  opened-gates = same_gates before (opened_words bs) kept ∙ head-gates bs _

  pub opened-outputs : outputs (opened_words bs) ≡ image_outputs bs
  opened-outputs = same_outputs before (opened_words bs) kept ∙ head-outputs bs _

  -- an area of zeros that holds every netlist: the image decides alone
  judged : open_judgement bs (length new_area) ≡ image_judgement bs
  judged = ap (open_judgement bs) (length-replicate {A = ℕ} most_words 0) ∙ judged-in-most bs

  -- what the call's answer says of the image, and the words that it leaves
  pub opened-done : (answer : Result ℕ Refusal) (n : ℕ) → answer ≡ opened (open_judgement bs (length new_area)) (open_live bs) → answer ≡ Ok n
      → (image_judgement bs ≡ Fine) × (n ≡ open_live bs)
  opened-done answer n e told =
      let both = (open_told (open_judgement bs (length new_area)) (open_live bs)).0 n (sym e ∙ told) in
      (sym judged ∙ both.0, both.1)

  pub opened-refused : (answer : Result ℕ Refusal) (why : Refusal) → answer ≡ opened (open_judgement bs (length new_area)) (open_live bs) → answer ≡ Err why
      → image_judgement bs ≡ Err why
  opened-refused answer why e told = sym judged ∙ (open_told (open_judgement bs (length new_area)) (open_live bs)).1 why (sym e ∙ told)

  pub opened-left : image_judgement bs ≡ Fine → left new_area (open_image bs) ≡ opened_words bs
  unfolding opened_words
  opened-left fine = rw (judged ∙ fine) refl

  module _ (fine : image_judgement bs ≡ Fine) where
    pub agree : Agree (length new_area) (opened_words bs) (image_book bs)
    unfolding opened_words
    agree = opened-agree bs new_area (judged ∙ fine)

    pub opened-workable : Workable (opened_words bs)
    opened-workable = agree.sound.workable

    pub few_inputs : image_inputs bs ≤ most_inputs
    few_inputs = omega (arith, opened-inputs, opened-workable.net.inputs_fit)

    pub opened-trailer : TrailerRight bs
    opened-trailer = (image-right bs (judged-image bs fine)).trailer

    -- the words with the image's kinds have the error of its netlist
    pub opened-halves : error_halves (net_of (opened_words bs) (image_kinds bs) []) ≡ error_halves (image_net bs)
    opened-halves =
        same-halves (opened_words bs) (image_kinds bs) [] (image_chances bs)
        ∙ ap error_halves (frame-net before (opened_words bs) (image_kinds bs) (image_chances bs) kept ∙ image-net bs _)
