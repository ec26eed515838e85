-- What is known of an image that is not refused: each chain of refusals is walked here once. Assumes nothing.
use Prim.Native.Nat.{ℕ, ◌+◌, ◌<◌}
use mathlib.Core.Bool.{true}
use mathlib.Core.List.{List}
use mathlib.Core.Path.{◌≡◌}
use native.Mathlib.Omega.{arith}
use borrow.Author.Tests.{leb-true, ltb-true, eqb-true}
use lib.ListN.{get_or}
use Rattle.chance.specs.Number.{at_most_half}
use Rattle.chance.specs.Flip.{flip_accepted, flip_chance}
use Rattle.rules.proofs.Facts.{both, counts_hold, Shape, shape-holds, used-holds}
use Rattle.refusal.specs.Judgement.{Fine}
use Rattle.refusal.proofs.Laws.{unless-fine, otherwise-fine, lowest-fine}
use Rattle.image.specs.Image.{image_inputs, image_gates, image_outputs}
use Rattle.image.specs.Image.{middle, record_count, record_kind, record_table, record_pins, record_field, output_at}
use Rattle.image.specs.Refusals.{length_right, back_right, trailer_refusal, TrailerRight, gate_refusal, output_refusal, middle_refusal, image_refusal}
use Rattle.image.proofs.Flips.{flip-fine}
use Rattle.refusal.specs.declared.Cause.TheVariants.{WrongLength, WrongFormat, WrongCounts, WrongBack, GateShape, GatePin, GateFlip, OutputSource}

-- ---- 1 to 4

pub trailer-right : (bs : List ℕ) → trailer_refusal bs ≡ Fine → TrailerRight bs
unfolding trailer_refusal length_right back_right
trailer-right bs e =
    let one = otherwise-fine _ _ e in
    let two = otherwise-fine _ _ one.1 in
    let three = otherwise-fine _ _ two.1 in
    let a = both _ _ (unless-fine _ WrongLength 0 one.0) in
    let b = both _ _ a.1 in
    let counts = counts_hold (image_inputs bs) (image_gates bs) (image_outputs bs) (unless-fine _ WrongCounts 0 three.0) in
    let s = both _ _ (unless-fine _ WrongBack 0 three.1) in
    record {
      low = leb-true _ _ a.0;
      high = leb-true _ _ b.0;
      total = eqb-true _ _ b.1;
      format = eqb-true _ _ (unless-fine _ WrongFormat 0 two.0);
      inputs_fit = counts.0;
      gates_fit = counts.1;
      some_output = counts.2;
      outputs_fit = counts.3;
      back = eqb-true _ _ s.0;
      inside = leb-true _ _ s.1;
    }

-- ---- 5 to 7, and 22

pub record GateRight (m : List ℕ) (n j : ℕ) : Type 0 where
  pub shape : Shape (record_count m j) (record_table m j) (record_pins m j)
  pub below : (i : ℕ) → i < record_count m j → get_or (record_pins m j) i 0 < n + j
  pub accepted : flip_accepted (record_kind m j) (record_field m j) ≡ true
  pub low : at_most_half (flip_chance (record_kind m j) (record_field m j)) ≡ true

pub gate-right : (m : List ℕ) (n j : ℕ) → gate_refusal m n j ≡ Fine → GateRight m n j
unfolding gate_refusal
gate-right m n j e =
    let a = record_count m j in
    let ps = record_pins m j in
    let five = otherwise-fine _ _ e in
    let six = otherwise-fine _ _ five.1 in
    let s = shape-holds a (record_table m j) ps (unless-fine _ GateShape j five.0) in
    let flip = flip-fine GateFlip j (record_kind m j) (record_field m j) six.1 in
    record {
      shape = s;
      below = λ i l. used-holds (n + j) a ps (unless-fine _ GatePin j six.0) i l (omega (arith, s.few_pins));
      accepted = flip.0;
      low = flip.1;
    }

-- ---- all of them, 8 too

pub record ImageRight (bs : List ℕ) : Type 0 where
  pub trailer : TrailerRight bs
  pub gate : (j : ℕ) → j < image_gates bs → GateRight (middle bs) (image_inputs bs) j
  pub output : (k : ℕ) → k < image_outputs bs → output_at (middle bs) (image_gates bs) k < image_inputs bs + image_gates bs

pub image-right : (bs : List ℕ) → image_refusal bs ≡ Fine → ImageRight bs
unfolding image_refusal middle_refusal output_refusal
image-right bs e =
    let m = middle bs in
    let n = image_inputs bs in
    let g = image_gates bs in
    let whole = otherwise-fine _ _ e in
    let inner = otherwise-fine _ _ whole.1 in
    record {
      trailer = trailer-right bs whole.0;
      gate = λ j l. gate-right m n j (lowest-fine (gate_refusal m n) g j l inner.0);
      output = λ k l. ltb-true _ _ (unless-fine _ OutputSource k (lowest-fine (output_refusal m n g) (image_outputs bs) k l inner.1));
    }
