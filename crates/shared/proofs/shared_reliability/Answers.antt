-- `shared::shared_reliability` meets its contract. Assumes nothing.
use Prim.Native.Nat.{ℕ, ◌%◌, ◌^◌}
use mathlib.Core.List.{List, ◌++◌}
use mathlib.Core.Path.{◌≡◌, refl, sym, ap, ap₂, subst, ◌∙◌}
use native.Mathlib.Omega.{arith}
use lib.ListN.{drop, replicate, set}
use Rattle.area.specs.Layout.{most_words, inputs, pattern_index, needed}
use Rattle.area.specs.Rules.{Workable}
use Rattle.refusal.specs.Judgement.{Fine}
use Rattle.image.specs.Image.{image_gates, image_outputs}
use Rattle.image.specs.Refusals.{image_refusal}
use Rattle.image.specs.Loading.{image_words}
use Rattle.image.proofs.Sound.{loaded-workable}
use Rattle.sets.specs.Sets.{units_net, shared_units}
use Rattle.shared.specs.Shared.{many_shared, shared_image_judgement}
use Rattle.refusal.specs.Judgement.{answer}
use Rattle.shared.proofs.Laws.{turned-workable, answer-is, judged-first}
use Rattle.refusal.proofs.Laws.{answer-on}
use Rattle.shared.proofs.shared_reliability.Goals.{In_ok-load}
use Rattle.shared.proofs.shared_reliability.Goals as goal

-- an image that is loaded
module _ (c : In_ok-load) where
  abbrev bs : List ℕ
  bs = c.args.image.now

  fine : image_refusal bs ≡ Fine
  fine = sym c.load.ensures.value ∙ c.in_ok-load.was

  -- what stands past its words
  abbrev rest : List ℕ
  rest = drop (needed (image_gates bs) (image_outputs bs)) (replicate most_words 0)

  held : c.load.new.words ≡ image_words bs ++ rest
  held = c.load.ensures.words_after fine

pub low_bits-low-requires : goal.low_bits-low-requires
low_bits-low-requires c =
    let there = (goal.at.low_bits-low-requires c).In_ok-load in
    let few = (loaded-workable (bs there) (rest there) (fine there)).net.inputs_fit in
    omega (arith, c.inputs.ensures ∙ ap inputs (held there), few)

-- and turned to the pattern
words_are : (image past ws : List ℕ) (pattern n low : ℕ) → ws ≡ image_words image ++ past → n ≡ inputs ws → low ≡ pattern % 2 ^ n
    → set ws pattern_index low ≡ set (image_words image ++ past) pattern_index (pattern % 2 ^ inputs (image_words image ++ past))
words_are image past ws pattern n low held-as inputs-are low-is =
    ap₂ (λ (vs : List ℕ) (q : ℕ). set vs pattern_index q) held-as (low-is ∙ ap (λ (k : ℕ). pattern % 2 ^ k) (inputs-are ∙ ap inputs held-as))

pub read_words-requires : goal.read_words-requires
read_words-requires c =
    let there = (goal.at.read_words-requires c).In_ok-load in
    subst Workable (sym (words_are (bs there) (rest there) c.load.new.words c.args.pattern c.inputs.result c.low_bits-low.result (held there) c.inputs.ensures c.low_bits-low.ensures)) (turned-workable (bs there) (rest there) (fine there) c.args.pattern)

pub returns : goal.returns
returns c =
    let there = (goal.at.returns c).In_ok-load in
    c.read_words.ensures
    ∙ ap (λ (ws : List ℕ). answer (many_shared (units_net ws)) (shared_units ws)) (words_are (bs there) (rest there) c.load.new.words c.args.pattern c.inputs.result c.low_bits-low.result (held there) c.inputs.ensures c.low_bits-low.ensures)
    ∙ answer-is (bs there) (rest there) (fine there) c.args.pattern

pub returns-in_err-load : goal.returns-in_err-load
returns-in_err-load c =
    let told = judged-first c.args.image.now _ _ (sym c.load.ensures.value ∙ c.in_err-load.was) in
    answer-on (shared_image_judgement c.args.image.now) _ _ _ told c.from_residual.ensures.1
