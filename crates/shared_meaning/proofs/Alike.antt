-- An image that can be opened: none of its gates is shared, and its shared reliability is that of an area in which it was opened and turned to the pattern.
-- Assumes nothing.
use Prim.Native.Nat.{ℕ, zero, suc, ◌+◌, ◌-◌, ◌/◌, ◌%◌, ◌^◌, ◌<◌}
use mathlib.Core.Bool.{Bool}
use mathlib.Core.List.{List, [], ◌∷◌}
use mathlib.Core.Path.{◌≡◌, refl, sym, ap, ap₂, ◌∙◌}
use native.Mathlib.Nat.{zero-div, div-one, pow-succ', div-div-eq-div-mul}
use native.Mathlib.Omega.{arith}
use lib.Dec.{eqb, leb}
use lib.ListN.{length, replicate}
use Rattle.lists.specs.Lists.{count, Below}
use Rattle.refusal.specs.Judgement.{Fine}
use Rattle.refusal.specs.Judgement.{refuse_unless}
use Rattle.refusal.proofs.Laws.{otherwise-second, refused-not-fine}
use Rattle.rounding.specs.Rounding.{units_in_one}
use Rattle.chance.specs.Number.{chance_scale}
use Rattle.netlist.specs.Netlist.{Netlist, input_values, values, right_values}
use Rattle.netlist.specs.Figures.{failures_from, failures, reliability_from, reliability}
use Rattle.suppose.specs.Suppose.{shared_gates}
use Rattle.suppose.proofs.Supposed.{none-shared}
use Rattle.area.specs.Layout.{inputs, pattern, reliability_word}
use Rattle.area.specs.Net.{net_of}
use Rattle.live.specs.Shared.{shared_judgement}
use Rattle.work.proofs.Frame.{same_gates}
use Rattle.fresh.proofs.Bridge.{reliability-holds}
use Rattle.fresh.proofs.Calls.{frame-net}
use Rattle.image.specs.Image.{image_inputs}
use Rattle.image.specs.Refusals.{image_refusal}
use Rattle.image.specs.Netlist.{image_net}
use Rattle.image.proofs.Netlist.{net-inputs}
use Rattle.calls.specs.Calls.{open_words}
use Rattle.calls.proofs.Judgements.{open-fine}
use Rattle.written_opened.specs.Statements.{toggled_all}
use Rattle.written_opened.proofs.Turned.{reached, bits-after}
use Rattle.book.specs.Book.{image_book}
use Rattle.chance.proofs.Exact.{scale-pos}
use Rattle.book.proofs.Agree.{same-input-count}
use Rattle.book.proofs.Open.{opened}
use Rattle.sets.specs.Sets.{most_shared}
use Rattle.shared.specs.Shared.{many_shared, shared_image_judgement, image_shared}
use Rattle.shared_meaning.specs.Statements.{nine_at_first, OpensAlike}
use Rattle.shared_meaning.proofs.Nine.{shared-as-in-nine}
use Rattle.shared_meaning.proofs.Within.{image-well}
use Rattle.refusal.specs.declared.Cause.TheVariants.{SharedGate, ManyShared}

-- ---- where 9 does not apply none is shared

none_of : (net : Netlist) → shared_judgement net ≡ Fine → shared_gates net ≡ []
none_of net fine = go (shared_gates net) (sym (shared-as-in-nine net) ∙ fine)
  where
    go : (ss : List ℕ) → nine_at_first net.inputs ss ≡ Fine → ss ≡ []
    go [] e = refl
    go (s ∷ ss) e = refused-not-fine SharedGate (s - net.inputs) e

-- ---- patterns with the same low bits

same-values : (n p q : ℕ) → ((i : ℕ) → i < n → p / 2 ^ i % 2 ≡ q / 2 ^ i % 2) → input_values n p ≡ input_values n q
same-values zero p q h = refl
same-values (suc n) p q h =
    ap₂ (λ (x : ℕ) (vs : List Bool). eqb x 1 ∷ vs)
    (ap (λ (x : ℕ). x % 2) (sym (div-one p)) ∙ h 0 (omega arith) ∙ ap (λ (x : ℕ). x % 2) (div-one q))
    (same-values n (p / 2) (q / 2) (λ i l. sym (half p i) ∙ h (suc i) (omega arith) ∙ half q i))
  where
    half : (x i : ℕ) → x / 2 ^ suc i % 2 ≡ x / 2 / 2 ^ i % 2
    half x i = ap (λ (y : ℕ). y % 2) (ap (λ (k : ℕ). x / k) (pow-succ' 2 i) ∙ sym (div-div-eq-div-mul x 2 (2 ^ i)))

same-reliability : (u d : ℕ) (net : Netlist) (p q : ℕ) → input_values net.inputs p ≡ input_values net.inputs q
    → reliability u d net p ≡ reliability u d net q
unfolding reliability failures right_values
same-reliability u d net p q e =
    ap (λ (vs : List Bool).
    reliability_from u (failures_from u d (values net.gates [] vs) net.gates (replicate net.inputs 0)) u net.outputs) e

-- ---- opened and turned

pub opens-alike : OpensAlike
unfolding shared_image_judgement image_shared
opens-alike bs us is q fine ones =
    let accepted = open-fine bs (length us) fine in
    let agree = opened bs us fine in
    let ws = open_words bs us in
    let end = toggled_all ws is in
    let net = image_net bs in
    let n : inputs ws ≡ image_inputs bs = same-input-count (length us) ws (image_book bs) agree ∙ net-inputs bs in
    let low : Below (inputs ws) is = rw n ones.below in
    let r = reached ws is agree.sound agree.fresh low in
    let none : shared_gates net ≡ [] = none_of net accepted.shared in
    let held : net_of end agree.kinds agree.chances ≡ net = frame-net ws end agree.kinds agree.chances r.frame ∙ agree.held in
    let word : reliability_word end ≡ reliability units_in_one chance_scale (net_of end agree.kinds agree.chances) (pattern end)
    = reliability-holds chance_scale end agree.kinds agree.chances r.whole.workable.net r.fresh
    (record { flips = λ j l. r.flips j ∙ agree.converted.flips j (omega (arith, same_gates ws end r.frame)) }) in
    let bits : (i : ℕ) → i < net.inputs → pattern end / 2 ^ i % 2 ≡ q / 2 ^ i % 2
    = λ i l.
    bits-after ws is agree.sound low i
    ∙ ap (λ (p : ℕ). (p / 2 ^ i + count i is) % 2) agree.same_pattern
    ∙ once i (count i is) (q / 2 ^ i) (ones.once i (omega (arith, net-inputs bs))) in (
      otherwise-second (image_refusal bs) (many_shared net) accepted.image
          ∙ ap (λ (ss : List ℕ). refuse_unless (leb (length ss) most_shared) ManyShared 0) none,
      none-shared units_in_one chance_scale (omega arith) scale-pos net (image-well bs accepted.image) q none
          ∙ sym
          (word
          ∙ ap (λ (held : Netlist). reliability units_in_one chance_scale held (pattern end)) held
          ∙ same-reliability units_in_one chance_scale net (pattern end) q (same-values net.inputs (pattern end) q bits)),
    )
  where
    once : (i c b : ℕ) → c ≡ b % 2 → (0 / 2 ^ i + c) % 2 ≡ b % 2
    once i c b e = omega (arith, zero-div (2 ^ i))
