-- An area that passes rule 14 passes it whatever stands past the words that it needs. Assumes nothing.
use Prim.Native.Nat.{ℕ, ◌+◌, ◌/◌, ◌%◌, ◌^◌, ◌≤◌, ◌<◌}
use mathlib.Core.List.{List, map}
use mathlib.Core.Path.{◌≡◌, sym, ap, ap₂, ◌∙◌}
use native.Mathlib.Omega.{arith}
use lib.ListN.{length, get_or, take}
use lib.Seq.{ext_get_or}
use Rattle.lists.proofs.Every.{map_same}
use Rattle.rounding.specs.Rounding.{units_in_one}
use Rattle.figure.specs.Figure.{gate_word}
use Rattle.area.specs.Layout.{inputs, gates, outputs, gate_index, pin_count, table, pins_index, pins, flip, figure, outputs_index, output}
use Rattle.area.specs.Layout.{used_pins, output_words, needed, source_word}
use Rattle.area.specs.Figures.{gate_word_from, product_from}
use Rattle.area.specs.Rules.{GateShaped, NetSound, FiguresSound, Sound}
use Rattle.area.specs.Sum.{flip_sum, low_bits, high_bits}
use Rattle.area.proofs.Words.{output-at, output_count, output-below, used-below}
use Rattle.area.proofs.Sum.{same_sum}
use Rattle.work.specs.Work.{gate_figure, reliability_now}
use Rattle.fresh.specs.Fresh.{Fresh}
use Rattle.fresh.proofs.Sources.{source-same, product-same}
use Rattle.written.specs.Statements.{SameWritten}

-- equal outputs, as a list
pub written-outputs : (vs ws : List ℕ) → NetSound vs → NetSound ws → SameWritten vs ws → output_words vs ≡ output_words ws
written-outputs vs ws net-vs net-ws same =
    let many : length (output_words vs) ≡ outputs vs = output_count vs net-vs in
    ext_get_or 0 (output_words vs) (output_words ws) (many ∙ same.same_outputs ∙ sym (output_count ws net-ws))
    (λ k l.
    let there : k < outputs vs = omega (arith, many) in
    let here : k < outputs ws = omega (arith, same.same_outputs) in
    sym (output-at vs k there) ∙ same.same_output k here ∙ output-at ws k here)

module _ (ws vs : List ℕ) (sound : Sound ws) (long : needed (gates ws) (outputs ws) ≤ length vs)
    (same : (i : ℕ) → i < needed (gates ws) (outputs ws) → get_or vs i 0 ≡ get_or ws i 0) where
  inputs_are : inputs vs ≡ inputs ws
  inputs_are = same 0 (omega arith)

  gates_are : gates vs ≡ gates ws
  gates_are = same 1 (omega arith)

  outputs_are : outputs vs ≡ outputs ws
  outputs_are = same 2 (omega arith)

  module _ (j : ℕ) (here : j < gates ws) where
    at : (i : ℕ) → i < 8 → get_or vs (gate_index j + i) 0 ≡ get_or ws (gate_index j + i) 0
    at i l = same (gate_index j + i) (omega arith)

    count-is : pin_count vs j ≡ pin_count ws j
    count-is = same (gate_index j) (omega arith)

    table_is : table vs j ≡ table ws j
    table_is = at 1 (omega arith)

    pins-are : pins vs j ≡ pins ws j
    pins-are =
        rw (
          same (pins_index j) (omega arith),
          same (pins_index j + 1) (omega arith),
          same (pins_index j + 2) (omega arith),
          same (pins_index j + 3) (omega arith),
        )

    pin-is : (i : ℕ) → get_or (pins vs j) i 0 ≡ get_or (pins ws j) i 0
    pin-is i = ap (λ (ps : List ℕ). get_or ps i 0) pins-are

    flip_is : flip vs j ≡ flip ws j
    flip_is = at 6 (omega arith)

    figure-is : figure vs j ≡ figure ws j
    figure-is = at 7 (omega arith)

    gate-shaped : GateShaped vs j
    gate-shaped =
        let g = sound.workable.net.gate j here in
        record {
          few_pins = rw count-is g.few_pins;
          table_bits = rw (count-is, table_is) g.table_bits;
          pins_below = λ i l. omega (arith, pin-is i, inputs_are, g.pins_below i (omega (arith, count-is)));
          unused_zero = λ i l. pin-is i ∙ g.unused_zero i (omega (arith, count-is));
        }

  output-is : (k : ℕ) → k < outputs ws → output vs k ≡ output ws k
  output-is k here = ap (λ (g : ℕ). get_or vs (outputs_index g + k) 0) gates_are ∙ same (outputs_index (gates ws) + k) (omega arith)

  pub past-written : SameWritten vs ws
  past-written =
      record {
        same_inputs = inputs_are;
        same_gates = gates_are;
        same_outputs = outputs_are;
        same_gate = λ j here. record { same_count = count-is j here; same_table = table_is j here; same_pins = pins-are j here; same_flip = flip_is j here };
        same_output = output-is;
      }

  inside : (j : ℕ) → j < gates vs → j < gates ws
  inside j l = omega (arith, gates_are)

  past-net : NetSound vs
  past-net =
      let net = sound.workable.net in
      record {
        inputs_fit = omega (arith, inputs_are, net.inputs_fit);
        gates_fit = omega (arith, gates_are, net.gates_fit);
        some_output = omega (arith, outputs_are, net.some_output);
        outputs_fit = omega (arith, outputs_are, net.outputs_fit);
        long = omega (arith, gates_are, outputs_are, long);
        gate = λ j l. gate-shaped j (inside j l);
        outputs_below = λ k l.
            let here : k < outputs ws = omega (arith, outputs_are) in
            omega (arith, output-at vs k l, output-is k here, output-at ws k here, net.outputs_below k here, inputs_are, gates_are);
      }

  past-figures : FiguresSound vs
  past-figures =
      let figures = sound.workable.figures in
      record {
        pattern_fits = rw (inputs_are, same 3 (omega arith)) figures.pattern_fits;
        reliability_fits = omega (arith, same 4 (omega arith), figures.reliability_fits);
        flip_fits = λ j l. omega (arith, flip_is j (inside j l), figures.flip_fits j (inside j l));
        figure_fits = λ j l. omega (arith, figure-is j (inside j l), figures.figure_fits j (inside j l));
      }

  output-words-are : output_words vs ≡ output_words ws
  output-words-are = written-outputs vs ws past-net sound.workable.net past-written

  -- pins, outputs and flips decide the sum
  sum_is : flip_sum vs ≡ flip_sum ws
  sum_is =
      same_sum vs ws
      (record {
        same_inputs = inputs_are;
        same_gates = gates_are;
        same_pins = λ j here. ap₂ take (count-is j here) (pins-are j here);
        same_table = table_is;
        same_outputs = output-words-are;
      })
      flip_is

  pub past-sound : Sound vs
  past-sound =
      let sum = sound.sum in
      record {
        workable = record { net = past-net; figures = past-figures };
        sum =
            record {
              low = same 5 (omega arith) ∙ sum.low ∙ ap low_bits (sym sum_is);
              high = same 6 (omega arith) ∙ sum.high ∙ ap high_bits (sym sum_is);
              reserved = same 7 (omega arith) ∙ sum.reserved;
            };
      }

  -- ---- the figures too

  source_is : (s : ℕ) → s < inputs ws + gates ws → source_word vs s ≡ source_word ws s
  source_is s l =
      source-same ws vs inputs_are s (λ low. ap (λ (q : ℕ). q / 2 ^ s % 2) (same 3 (omega arith))) (λ j e. figure-is j (omega arith))

  rule-is : (j : ℕ) → j < gates ws → gate_figure vs j ≡ gate_figure ws j
  unfolding gate_figure gate_word_from
  rule-is j here =
      ap₂ (λ (t f : ℕ). gate_word units_in_one t (map (source_word vs) (used_pins vs j)) f) (table_is j here) (flip_is j here)
      ∙ ap (λ (ps : List ℕ). gate_word units_in_one (table ws j) (map (source_word vs) ps) (flip ws j)) (ap₂ take (count-is j here) (pins-are j here))
      ∙ ap (λ (xs : List ℕ). gate_word units_in_one (table ws j) xs (flip ws j))
      (map_same (source_word vs) (source_word ws) (used_pins ws j) (λ i l.
      source_is (get_or (used_pins ws j) i 0) (omega (arith, used-below ws sound.workable.net j here i l))))

  product_is : reliability_now vs ≡ reliability_now ws
  unfolding reliability_now
  product_is =
      ap (product_from (source_word vs) units_in_one) output-words-are
      ∙ product-same (source_word vs) (source_word ws) units_in_one (output_words ws) (λ i l.
      source_is (get_or (output_words ws) i 0) (output-below ws sound.workable.net i l))

  pub past-fresh : Fresh ws → Fresh vs
  past-fresh fresh =
      record {
        figures = λ j l.
            let here : j < gates ws = omega (arith, gates_are) in
            figure-is j here ∙ fresh.figures j here ∙ sym (rule-is j here);
        product = same 4 (omega arith) ∙ fresh.product ∙ sym product_is;
      }
