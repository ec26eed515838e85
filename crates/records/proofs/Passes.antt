-- A written image passes refusals 1 to 8 and 22. Assumes nothing.
use Prim.Native.Nat.{ℕ, zero, suc, ◌+◌, ◌*◌, ◌/◌, ◌%◌, ◌<◌, ◌≤◌}
use mathlib.Core.Path.{◌≡◌, refl, ap, ap₂, sym, ◌∙◌}
use mathlib.Core.Bool.{true}
use mathlib.Core.List.{List, [], ◌∷◌, ◌++◌, append-nil}
use native.Mathlib.Omega.{arith}
use lib.ListN.{length, get_or, drop, get_or-eq_default}
use lib.Seq.{get_or-drop, drop-drop, drop_at}
use borrow.Author.Tests.{lt-ltb}
use Rattle.lists.proofs.Joined.{drop-joined}
use Rattle.rules.proofs.Facts.{Shape, shape-passes, used-passes}
use Rattle.refusal.specs.Judgement.{Fine}
use Rattle.refusal.proofs.Laws.{fine-lowest}
use Rattle.chance.specs.Number.{at_most_half}
use Rattle.chance.specs.Flip.{flip_accepted, flip_chance}
use Rattle.chance.proofs.Laws.{never-chance, no-chance-low}
use Rattle.image.specs.Image.{u16_at, record_count, record_kind, record_table, record_pins, record_field, eight_bytes, output_at}
use Rattle.image.specs.Refusals.{flip_refusal, gate_refusal, output_refusal, middle_refusal, image_refusal}
use Rattle.image.proofs.Flips.{flip-passes}
use Rattle.netlist.specs.Netlist.{Netlist, gate_at}
use Rattle.records.specs.Bytes.{Contents, no_field, net_contents, two_bytes, contents_record, gates_bytes, outputs_bytes, middle_of}
use Rattle.records.specs.Passes.{Fits, four, ContentsPass, ContentsReadBack, Holdable, WrittenPasses}
use Rattle.records.proofs.Length.{gates-bytes}
use Rattle.records.proofs.Trailer.{two-again, inputs-again, gates-again, outputs-again, trailer-passes, middle-again}
use Rattle.refusal.specs.declared.Cause.TheVariants.{GateFlip}

-- four pins are all where those past the fourth are zero
pub four-at : (ps : List ℕ) → ((i : ℕ) → 4 ≤ i → get_or ps i 0 ≡ 0) → (i : ℕ) → get_or (four ps) i 0 ≡ get_or ps i 0
unfolding four
four-at ps h zero = refl
four-at ps h (suc zero) = refl
four-at ps h (suc (suc zero)) = refl
four-at ps h (suc (suc (suc zero))) = refl
four-at ps h (suc (suc (suc (suc i)))) = sym (h (suc (suc (suc (suc i)))) (omega arith))

-- a field of eight bytes
eight_are : (bs : List ℕ) → length bs ≡ 8 → eight_bytes bs 0 ≡ bs
eight_are (a ∷ b ∷ c ∷ d ∷ e ∷ f ∷ g ∷ h ∷ []) l = refl
eight_are [] l = absurd (omega arith)
eight_are (a ∷ []) l = absurd (omega arith)
eight_are (a ∷ b ∷ []) l = absurd (omega arith)
eight_are (a ∷ b ∷ c ∷ []) l = absurd (omega arith)
eight_are (a ∷ b ∷ c ∷ d ∷ []) l = absurd (omega arith)
eight_are (a ∷ b ∷ c ∷ d ∷ e ∷ []) l = absurd (omega arith)
eight_are (a ∷ b ∷ c ∷ d ∷ e ∷ f ∷ []) l = absurd (omega arith)
eight_are (a ∷ b ∷ c ∷ d ∷ e ∷ f ∷ g ∷ []) l = absurd (omega arith)
eight_are (a ∷ b ∷ c ∷ d ∷ e ∷ f ∷ g ∷ h ∷ i ∷ bs) l = absurd (omega arith)

module _ (w : Contents) (h : Fits w) where
  module _ (j : ℕ) (here : j < w.gates) where
    rest : (tail : List ℕ) × (drop (20 * j) (middle_of w) ≡ contents_record w j ++ tail)
    rest = drop-joined (contents_record w) 20 (λ i. refl) w.gates j here (outputs_bytes w)

    entry : (x i : ℕ) → x ≡ 20 * j + i → get_or (middle_of w) x 0 ≡ get_or (contents_record w j ++ rest.0) i 0
    entry x i e =
        ap (λ (y : ℕ). get_or (middle_of w) y 0) e
        ∙ sym (get_or-drop (20 * j) (middle_of w) i 0)
        ∙ ap (λ (xs : List ℕ). get_or xs i 0) rest.1

    two : (x i y : ℕ) → x ≡ 20 * j + i → get_or (contents_record w j ++ rest.0) i 0 ≡ y % 256 → get_or (contents_record w j ++ rest.0) (suc i) 0 ≡ y / 256
        → u16_at (middle_of w) x ≡ y
    two x i y e a b = ap₂ (λ (p q : ℕ). p + 256 * q) (entry x i e ∙ a) (entry (x + 1) (suc i) (omega arith) ∙ b) ∙ two-again y

    pub count-again : record_count (middle_of w) j ≡ w.count j
    count-again = entry (20 * j) 0 (omega arith)

    pub kind-again : record_kind (middle_of w) j ≡ w.kind j
    kind-again = entry (20 * j + 1) 1 refl

    pub table-again : record_table (middle_of w) j ≡ w.table j
    table-again = two (20 * j + 2) 2 (w.table j) refl refl refl

    pub pins-again : record_pins (middle_of w) j ≡ four (w.pins j)
    unfolding four
    pins-again =
        rw (
          two (20 * j + 4) 4 (get_or (w.pins j) 0 0) refl refl refl,
          two (20 * j + 4 + 2) 6 (get_or (w.pins j) 1 0) (omega arith) refl refl,
          two (20 * j + 4 + 4) 8 (get_or (w.pins j) 2 0) (omega arith) refl refl,
          two (20 * j + 4 + 6) 10 (get_or (w.pins j) 3 0) (omega arith) refl refl,
        )

    pub field-again : record_field (middle_of w) j ≡ w.field j
    field-again =
        rw (
          entry (20 * j + 12) 12 refl,
          entry (20 * j + 12 + 1) 13 (omega arith),
          entry (20 * j + 12 + 2) 14 (omega arith),
          entry (20 * j + 12 + 3) 15 (omega arith),
          entry (20 * j + 12 + 4) 16 (omega arith),
          entry (20 * j + 12 + 5) 17 (omega arith),
          entry (20 * j + 12 + 6) 18 (omega arith),
          entry (20 * j + 12 + 7) 19 (omega arith),
        )
        (eight_are (w.field j) (h.gate j here).eight)

    pins-are : (i : ℕ) → get_or (four (w.pins j)) i 0 ≡ get_or (w.pins j) i 0
    pins-are = let g = h.gate j here in four-at (w.pins j) (λ i past. g.unused_zero i (omega (arith, g.few_pins)))

    shaped : Shape (w.count j) (w.table j) (four (w.pins j))
    shaped =
        let g = h.gate j here in
        record {
          few_pins = g.few_pins;
          table_bits = g.table_fits;
          unused_zero = λ i past. pins-are i ∙ g.unused_zero i past;
        }

    gate-passes : gate_refusal (middle_of w) w.inputs j ≡ Fine
    unfolding gate_refusal
    gate-passes =
        rw (
          ap₂ (flip_refusal GateFlip j) kind-again field-again ∙ flip-passes GateFlip j (w.kind j) (w.field j) (h.gate j here).accepted (h.gate j here).low,
          count-again,
          table-again,
          pins-again,
          shape-passes (w.count j) (w.table j) (four (w.pins j)) shaped,
          used-passes (w.inputs + j) (w.count j) (four (w.pins j)) (λ i low. rw (pins-are i) ((h.gate j here).pins_below i low)),
        )

  module _ (k : ℕ) (here : k < w.outputs) where
    behind : (tail : List ℕ) × (drop (2 * k) (outputs_bytes w ++ []) ≡ two_bytes (w.output k) ++ tail)
    behind = drop-joined (λ (k : ℕ). two_bytes (w.output k)) 2 (λ i. refl) w.outputs k here []

    dropped : drop (20 * w.gates + 2 * k) (middle_of w) ≡ two_bytes (w.output k) ++ behind.0
    dropped =
        sym (drop-drop (2 * k) (20 * w.gates) (middle_of w))
        ∙ ap (drop (2 * k)) (drop_at (gates_bytes w) (outputs_bytes w) (20 * w.gates) (gates-bytes w) ∙ sym (append-nil (outputs_bytes w)))
        ∙ behind.1

    word : (x i : ℕ) → x ≡ 20 * w.gates + 2 * k + i → get_or (middle_of w) x 0 ≡ get_or (two_bytes (w.output k) ++ behind.0) i 0
    word x i e =
        ap (λ (y : ℕ). get_or (middle_of w) y 0) e
        ∙ sym (get_or-drop (20 * w.gates + 2 * k) (middle_of w) i 0)
        ∙ ap (λ (xs : List ℕ). get_or xs i 0) dropped

    pub output-again : output_at (middle_of w) w.gates k ≡ w.output k
    output-again =
        ap₂ (λ (p q : ℕ). p + 256 * q)
        (word (20 * w.gates + 2 * k) 0 (omega arith))
        (word (20 * w.gates + 2 * k + 1) 1 refl)
        ∙ two-again (w.output k)

    output-passes : output_refusal (middle_of w) w.inputs w.gates k ≡ Fine
    unfolding output_refusal
    output-passes = rw (output-again, lt-ltb _ _ (h.outputs_below k here))

  middle-passes : middle_refusal (middle_of w) w.inputs w.gates w.outputs ≡ Fine
  unfolding middle_refusal
  middle-passes =
      rw (
        fine-lowest (gate_refusal (middle_of w) w.inputs) w.gates gate-passes,
        fine-lowest (output_refusal (middle_of w) w.inputs w.gates) w.outputs output-passes,
      )

-- ---- any contents

pub contents-pass : ContentsPass
unfolding image_refusal
contents-pass w h =
    rw (trailer-passes w h, middle-again w h, inputs-again w h, gates-again w h, outputs-again w h) (middle-passes w h)

pub contents-read-back : ContentsReadBack
contents-read-back w h =
    record {
      inputs = inputs-again w h;
      gates = gates-again w h;
      outputs = outputs-again w h;
      gate = λ j here.
          rw (middle-again w h)
          (record {
            count = count-again w h j here;
            kind = kind-again w h j here;
            table = table-again w h j here;
            pins = pins-again w h j here;
            field = field-again w h j here;
          });
      output = λ k here. rw (middle-again w h) (output-again w h k here);
    }

-- ---- a netlist without flips

never-accepted : flip_accepted 0 no_field ≡ true
unfolding flip_accepted
never-accepted = refl

never-low : at_most_half (flip_chance 0 no_field) ≡ true
never-low = ap at_most_half (never-chance 0 no_field refl) ∙ no-chance-low

pub holdable-fits : (net : Netlist) → Holdable net → Fits (net_contents net)
holdable-fits net h =
    record {
      inputs_fit = h.inputs_fit;
      gates_fit = h.gates_fit;
      some_output = h.some_output;
      outputs_fit = h.outputs_fit;
      gate = λ j here.
          record {
            few_pins = h.few_pins j here;
            table_fits = h.table_fits j here;
            unused_zero = λ i past. get_or-eq_default (gate_at net j).pins 0 past;
            pins_below = h.pins_below j here;
            accepted = never-accepted;
            low = never-low;
            eight = refl;
          };
      outputs_below = h.outputs_below;
    }

pub written-passes : WrittenPasses
written-passes net h = contents-pass (net_contents net) (holdable-fits net h)
