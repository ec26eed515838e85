-- The words of an image, turned to a pattern, hold its netlist with its flips: what is worked out on them is the image's. Assumes nothing.
use Prim.Native.Nat.{ℕ, ◌%◌, ◌^◌, ◌<◌}
use mathlib.Core.List.{List, ◌++◌}
use mathlib.Core.Path.{◌≡◌, sym, ap, ap₂, ◌∙◌}
use native.Mathlib.Nat.{mod-lt}
use native.Mathlib.Omega.{arith}
use lib.Dec.{leb}
use lib.ListN.{length, get_or, set}
use lib.Pow.{pow_pos}
use lib.Seq.{get_or-set_same, get_or-set_other}
use Rattle.refusal.specs.Judgement.{Fine, refused}
use Rattle.refusal.specs.Judgement.{refuse_unless}
use Rattle.refusal.proofs.Laws.{otherwise-first, otherwise-second}
use Rattle.rounding.specs.Rounding.{units_in_one, to_units}
use Rattle.chance.specs.Number.{chance_scale}
use Rattle.suppose.specs.Suppose.{shared_gates, shared_reliability}
use Rattle.suppose.proofs.Supposed.{low-pattern}
use Rattle.area.specs.Layout.{inputs, gates, pattern_index, pattern, flip_index, flip}
use Rattle.area.specs.Rules.{Workable}
use Rattle.area.specs.Net.{net_of}
use Rattle.work.proofs.Frame.{SameFrame, same_gates, same-store-pattern}
use Rattle.work.proofs.Sound.{workable-store-pattern}
use Rattle.fresh.proofs.Calls.{frame-net}
use Rattle.image.specs.Refusals.{image_refusal}
use Rattle.image.specs.Loading.{image_words, image_kinds, image_chances}
use Rattle.image.specs.Netlist.{image_net}
use Rattle.image.proofs.Words.{head-inputs, head-gates}
use Rattle.image.proofs.Sound.{loaded-workable, flips-at}
use Rattle.image.proofs.Netlist.{image-net, net-inputs}
use Rattle.sets.specs.Sets.{most_shared, units_net, shared_units}
use Rattle.sets.proofs.Units.{units-are, gates_are}
use Rattle.shared.specs.Shared.{many_shared, shared_image_judgement, image_shared}
use Rattle.refusal.specs.Judgement.{answer}
use Rattle.refusal.specs.declared.Cause.{Cause}
use Rattle.refusal.specs.declared.Cause.TheVariants.{ManyShared}

module _ (bs rest : List ℕ) (fine : image_refusal bs ≡ Fine) (q : ℕ) where
  abbrev ws : List ℕ
  ws = image_words bs ++ rest

  abbrev low : ℕ
  low = q % 2 ^ inputs ws

  abbrev turned : List ℕ
  turned = set ws pattern_index low

  workable : Workable ws
  workable = loaded-workable bs rest fine

  pub turned-workable : Workable turned
  turned-workable = workable-store-pattern ws low workable (mod-lt q (pow_pos (inputs ws)))

  same : SameFrame ws turned
  same = same-store-pattern ws low

  net-is : net_of turned (image_kinds bs) (image_chances bs) ≡ image_net bs
  net-is = frame-net ws turned (image_kinds bs) (image_chances bs) same ∙ image-net bs rest

  flips : (j : ℕ) → j < gates turned → flip turned j ≡ to_units units_in_one chance_scale (get_or (image_chances bs) j 0)
  flips j l =
      get_or-set_other ws pattern_index (flip_index j) low 0 (λ e. omega arith)
      ∙ flips-at bs rest j (omega (arith, same_gates ws turned same, head-gates bs rest))

  pattern-is : pattern turned ≡ q % 2 ^ (image_net bs).inputs
  pattern-is =
      get_or-set_same ws pattern_index low 0 (omega (arith, workable.net.long))
      ∙ ap (λ (n : ℕ). q % 2 ^ n) (head-inputs bs rest ∙ sym (net-inputs bs))

  units : shared_units turned ≡ image_shared bs q
  unfolding image_shared
  units =
      units-are chance_scale turned (image_kinds bs) (image_chances bs) flips
      ∙ ap₂ (shared_reliability units_in_one chance_scale) net-is pattern-is
      ∙ low-pattern units_in_one chance_scale (image_net bs) q

  judged : many_shared (units_net turned) ≡ shared_image_judgement bs
  unfolding shared_image_judgement
  judged =
      ap (λ (ss : List ℕ). refuse_unless (leb (length ss) most_shared) ManyShared 0)
      (gates_are turned (image_kinds bs) (image_chances bs) ∙ ap shared_gates net-is)
      ∙ sym (otherwise-second (image_refusal bs) (many_shared (image_net bs)) fine)

  pub answer-is : answer (many_shared (units_net turned)) (shared_units turned) ≡ answer (shared_image_judgement bs) (image_shared bs q)
  answer-is = ap₂ answer judged units

-- an image that is refused before
pub judged-first : (bs : List ℕ) (number : Cause) (place : ℕ) → image_refusal bs ≡ refused number place → shared_image_judgement bs ≡ refused number place
unfolding shared_image_judgement
judged-first bs number place e = otherwise-first (image_refusal bs) (many_shared (image_net bs)) number place e
