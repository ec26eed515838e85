-- An image without a refusal gives words that can be worked on, and chances of at most 1. Assumes nothing.
use Prim.Native.Nat.{ℕ, ◌≤◌, ◌<◌}
use mathlib.Core.List.{List, ◌++◌}
use mathlib.Core.Path.{◌≡◌, refl, sym, ap, ◌∙◌}
use native.Mathlib.Omega.{arith}
use lib.ListN.{length, get_or, length-append}
use lib.Pow.{pow_pos}
use Rattle.rounding.specs.Rounding.{units_in_one, to_units}
use Rattle.chance.specs.Number.{chance_scale}
use Rattle.chance.specs.Flip.{flip_units}
use Rattle.chance.proofs.Laws.{flip-chance-at-most, low-units}
use Rattle.area.specs.Layout.{pins, flip, largest_flip, reserved_word}
use Rattle.area.specs.Rules.{GateShaped, NetSound, FiguresSound, Workable}
use Rattle.lists.proofs.Joined.{length-listed, listed_at}
use Rattle.refusal.specs.Judgement.{Fine}
use Rattle.image.specs.Image.{image_gates, image_outputs, middle, record_kind, record_pins, record_field, output_at}
use Rattle.image.specs.Refusals.{image_refusal}
use Rattle.image.specs.Loading.{record_chance, record_units, middle_words, image_words, image_kinds, image_chances}
use Rattle.image.proofs.Middle.{length-words}
use Rattle.image.proofs.Right.{ImageRight, image-right}
use Rattle.image.proofs.Words.{head-inputs, outputs-held, gate-held}

module _ (bs rest : List ℕ) (right : ImageRight bs) where
  gate-shaped : (j : ℕ) → j < image_gates bs → GateShaped (image_words bs ++ rest) j
  gate-shaped j l =
      let held = gate-held bs rest j l in
      let gate = right.gate j l in
      record {
        few_pins = rw held.same_count gate.shape.few_pins;
        table_bits = rw (held.same_count, held.same_table) gate.shape.table_bits;
        pins_below = λ i b. omega (arith, at i, head-inputs bs rest, gate.below i (rw held.same_count at b));
        unused_zero = λ i b. at i ∙ gate.shape.unused_zero i (rw held.same_count at b);
      }
    where
      at : (i : ℕ) → get_or (pins (image_words bs ++ rest) j) i 0 ≡ get_or (record_pins (middle bs) j) i 0
      at i = ap (λ (ps : List ℕ). get_or ps i 0) (gate-held bs rest j l).same_pins

  units-fit : (j : ℕ) → j < image_gates bs → flip (image_words bs ++ rest) j ≤ largest_flip
  unfolding record_units
  units-fit j l = rw (gate-held bs rest j l).same_units (low-units (record_kind (middle bs) j) (record_field (middle bs) j) (right.gate j l).low)

  net-sound : NetSound (image_words bs ++ rest)
  unfolding image_words middle_words
  net-sound =
      record {
        inputs_fit = right.trailer.inputs_fit;
        gates_fit = right.trailer.gates_fit;
        some_output = right.trailer.some_output;
        outputs_fit = right.trailer.outputs_fit;
        long = omega (arith, length-append (image_words bs) rest, length-words bs);
        gate = gate-shaped;
        outputs_below = λ k l. rw (outputs-held bs rest, listed_at (output_at (middle bs) (image_gates bs)) (image_outputs bs) k l) (right.output k l);
      }

  figures-sound : FiguresSound (image_words bs ++ rest)
  unfolding image_words middle_words
  figures-sound =
      record {
        pattern_fits = pow_pos _;
        reliability_fits = omega arith;
        flip_fits = units-fit;
        figure_fits = λ j l. rw (gate-held bs rest j l).no_figure (omega arith);
      }

-- the words of an image that is not refused can be worked on, whatever follows them
pub loaded-workable : (bs rest : List ℕ) → image_refusal bs ≡ Fine → Workable (image_words bs ++ rest)
loaded-workable bs rest e =
    let right = image-right bs e in
    record { net = net-sound bs rest right; figures = figures-sound bs rest right }

pub loaded-reserved : (bs rest : List ℕ) → reserved_word (image_words bs ++ rest) ≡ 0
unfolding image_words middle_words
loaded-reserved bs rest = refl

-- kinds and chances, one a gate
pub length-kinds : (bs : List ℕ) → length (image_kinds bs) ≡ image_gates bs
unfolding image_kinds
length-kinds bs = length-listed (record_kind (middle bs)) (image_gates bs)

pub length-chances : (bs : List ℕ) → length (image_chances bs) ≡ image_gates bs
unfolding image_chances
length-chances bs = length-listed (record_chance (middle bs)) (image_gates bs)

pub kind_at : (bs : List ℕ) (j : ℕ) → j < image_gates bs → get_or (image_kinds bs) j 0 ≡ record_kind (middle bs) j
unfolding image_kinds
kind_at bs j l = listed_at (record_kind (middle bs)) (image_gates bs) j l

pub chance-at : (bs : List ℕ) (j : ℕ) → j < image_gates bs → get_or (image_chances bs) j 0 ≡ record_chance (middle bs) j
unfolding image_chances
chance-at bs j l = listed_at (record_chance (middle bs)) (image_gates bs) j l

-- each chance is at most 1
pub chances_fit : (bs : List ℕ) → image_refusal bs ≡ Fine → (j : ℕ) → j < image_gates bs → get_or (image_chances bs) j 0 ≤ chance_scale
unfolding record_chance
chances_fit bs e j l =
    rw (chance-at bs j l) (flip-chance-at-most (record_kind (middle bs) j) (record_field (middle bs) j) ((image-right bs e).gate j l).accepted)

-- each flip word is its chance in units
pub flips-at : (bs rest : List ℕ) (j : ℕ) → j < image_gates bs → flip (image_words bs ++ rest) j ≡ to_units units_in_one chance_scale (get_or (image_chances bs) j 0)
unfolding record_units record_chance flip_units
flips-at bs rest j l = (gate-held bs rest j l).same_units ∙ ap (to_units units_in_one chance_scale) (sym (chance-at bs j l))
