-- What passes refusals 13 and 14 is well-formed, and what is well-formed passes. Assumes nothing.
use Prim.Native.Nat.{ℕ, ◌+◌, ◌^◌, ◌≤◌, ◌<◌}
use mathlib.Core.Bool.{true, ◌&&◌}
use mathlib.Core.List.{List}
use mathlib.Core.Path.{◌≡◌, ◌∙◌}
use native.Mathlib.Omega.{arith}
use borrow.Author.Tests.{leb-true, le-leb, ltb-true, lt-ltb, eqb-true, eq-eqb}
use lib.Dec.{leb, ltb, eqb}
use lib.ListN.{length, drop, length-take, length-drop}
use Rattle.lists.specs.Lists.{all_below}
use Rattle.lists.proofs.Every.{all_hold, hold-all}
use Rattle.refusal.specs.Judgement.{Judgement}
use Rattle.refusal.specs.Judgement.{Fine, refused}
use Rattle.refusal.specs.Judgement.{refuse_unless, otherwise}
use Rattle.refusal.proofs.Laws.{unless-fine, otherwise-fine, otherwise-first, otherwise-second}
use Rattle.rounding.specs.Rounding.{units_in_one}
use Rattle.area.specs.Layout.{largest_flip, largest_figure, head_words, inputs, gates, outputs, pattern, reliability_word}
use Rattle.area.specs.Layout.{sum_low_word, sum_high_word, reserved_word, pin_count, table, pins, flip, figure, outputs_index, output_words, needed}
use Rattle.area.specs.Rules.{gate_shape, used_below, gate_sound, gates_sound, counts_in_range, rest_sound, sum_right, room_judgement, words_judgement, area_judgement}
use Rattle.area.specs.Rules.{GateShaped, SumSound, Workable, Sound}
use Rattle.area.specs.Sum.{flip_sum, low_bits, high_bits}
use Rattle.rules.proofs.Facts.{both, join, shape-holds, shape-passes, used-holds, used-passes, below_holds, below-passes, counts_hold, counts-pass}
use Rattle.rules.proofs.Parts.{none, next}
use Rattle.refusal.specs.declared.Cause.{Cause}
use Rattle.refusal.specs.declared.Cause.TheVariants.{AreaTooShort, AreaRule}

-- a gate
pub record GateSound (ws : List ℕ) (j : ℕ) : Type 0 where
  pub shaped : GateShaped ws j
  pub flip_fits : flip ws j ≤ largest_flip
  pub figure_fits : figure ws j ≤ largest_figure

gate-holds : (ws : List ℕ) (j : ℕ) → gate_sound ws j ≡ true → GateSound ws j
unfolding gate_sound
gate-holds ws j e =
    let b = used_below (inputs ws + j) (pin_count ws j) (pins ws j) in
    let c = leb (flip ws j) largest_flip in
    let d = leb (figure ws j) largest_figure in
    let p = both (gate_shape (pin_count ws j) (table ws j) (pins ws j)) (b && (c && d)) e in
    let q = both b (c && d) p.1 in
    let r = both c d q.1 in
    let s = shape-holds (pin_count ws j) (table ws j) (pins ws j) p.0 in
    record {
      shaped = record {
        few_pins = s.few_pins;
        table_bits = s.table_bits;
        pins_below = λ i l. used-holds (inputs ws + j) (pin_count ws j) (pins ws j) q.0 i l (omega (arith, s.few_pins));
        unused_zero = s.unused_zero;
      };
      flip_fits = leb-true (flip ws j) largest_flip r.0;
      figure_fits = leb-true (figure ws j) largest_figure r.1;
    }

gate-passes : (ws : List ℕ) (j : ℕ) → GateSound ws j → gate_sound ws j ≡ true
unfolding gate_sound
gate-passes ws j g =
    let s = g.shaped in
    join _ _ (shape-passes _ _ _ (record { few_pins = s.few_pins; table_bits = s.table_bits; unused_zero = s.unused_zero }))
    (join _ _ (used-passes _ _ _ s.pins_below) (join _ _ (le-leb _ _ g.flip_fits) (le-leb _ _ g.figure_fits)))

-- all but the counts and the room
record Rest (ws : List ℕ) : Type 0 where
  pub gate : (j : ℕ) → j < gates ws → GateSound ws j
  pub outputs_below : all_below (inputs ws + gates ws) (output_words ws) ≡ true
  pub pattern_fits : pattern ws < 2 ^ inputs ws
  pub reliability_fits : reliability_word ws ≤ units_in_one

rest-holds : (ws : List ℕ) → rest_sound ws ≡ true → Rest ws
unfolding rest_sound gates_sound
rest-holds ws e =
    let b = all_below (inputs ws + gates ws) (output_words ws) in
    let c = ltb (pattern ws) (2 ^ inputs ws) in
    let d = leb (reliability_word ws) units_in_one in
    let p = both (gates_sound ws) (b && (c && d)) e in
    let q = both b (c && d) p.1 in
    let r = both c d q.1 in
    record {
      gate = λ j l. gate-holds ws j (all_hold (gate_sound ws) (gates ws) p.0 j l);
      outputs_below = q.0;
      pattern_fits = ltb-true (pattern ws) (2 ^ inputs ws) r.0;
      reliability_fits = leb-true (reliability_word ws) units_in_one r.1;
    }

rest-passes : (ws : List ℕ) → Rest ws → rest_sound ws ≡ true
unfolding rest_sound gates_sound
rest-passes ws r =
    join _ _ (hold-all (gate_sound ws) (gates ws) (λ j l. gate-passes ws j (r.gate j l)))
    (join _ _ r.outputs_below (join _ _ (lt-ltb _ _ r.pattern_fits) (le-leb _ _ r.reliability_fits)))

-- ---- the words but for the sum

pub workable : (ws : List ℕ) → words_judgement ws ≡ Fine → Workable ws
unfolding words_judgement
workable ws e =
    let counts = refuse_unless (counts_in_range (inputs ws) (gates ws) (outputs ws)) AreaRule 0 in
    let room = room_judgement (gates ws) (outputs ws) (length ws) in
    let rest = refuse_unless (rest_sound ws) AreaRule 0 in
    let p = otherwise-fine (refuse_unless (leb head_words (length ws)) AreaTooShort 0) (otherwise counts (otherwise room rest)) e in
    let q = otherwise-fine counts (otherwise room rest) p.1 in
    let r = otherwise-fine room rest q.1 in
    let n = counts_hold (inputs ws) (gates ws) (outputs ws) (unless-fine _ AreaRule 0 q.0) in
    let long = leb-true (needed (gates ws) (outputs ws)) (length ws) (unless-fine _ AreaTooShort 0 r.0) in
    let t = rest-holds ws (unless-fine (rest_sound ws) AreaRule 0 r.1) in
    record {
      net = record {
        inputs_fit = n.0;
        gates_fit = n.1;
        some_output = n.2;
        outputs_fit = n.3;
        long = long;
        gate = λ j l. (t.gate j l).shaped;
        outputs_below = λ k l. below_holds (inputs ws + gates ws) (output_words ws) t.outputs_below k (rw (length-take, length-drop) (omega arith));
      };
      figures = record {
        pattern_fits = t.pattern_fits;
        reliability_fits = t.reliability_fits;
        flip_fits = λ j l. (t.gate j l).flip_fits;
        figure_fits = λ j l. (t.gate j l).figure_fits;
      };
    }

workable-passes : (ws : List ℕ) → Workable ws → words_judgement ws ≡ Fine
unfolding words_judgement
workable-passes ws s =
    let net = s.net in
    let figures = s.figures in
    let few = length-take (outputs ws) (drop (outputs_index (gates ws)) ws) in
    next AreaTooShort 0 _ (le-leb head_words (length ws) (omega arith))
    ∙ next AreaRule 0 _ (counts-pass (inputs ws) (gates ws) (outputs ws) net.inputs_fit net.gates_fit net.some_output net.outputs_fit)
    ∙ next AreaTooShort 0 _ (le-leb (needed (gates ws) (outputs ws)) (length ws) net.long)
    ∙ none AreaRule 0
    (rest-passes ws
    (record {
      gate = λ j l.
          record { shaped = net.gate j l; flip_fits = figures.flip_fits j l; figure_fits = figures.figure_fits j l };
      outputs_below = below-passes (inputs ws + gates ws) (output_words ws) (λ k l. net.outputs_below k (omega arith));
      pattern_fits = figures.pattern_fits;
      reliability_fits = figures.reliability_fits;
    }))

-- ---- with the sum

sum-holds : (ws : List ℕ) → sum_right ws ≡ true → SumSound ws
unfolding sum_right
sum-holds ws e =
    let low = eqb (sum_low_word ws) (low_bits (flip_sum ws)) in
    let high = eqb (sum_high_word ws) (high_bits (flip_sum ws)) in
    let p = both low (high && eqb (reserved_word ws) 0) e in
    let q = both high (eqb (reserved_word ws) 0) p.1 in
    record { low = eqb-true _ _ p.0; high = eqb-true _ _ q.0; reserved = eqb-true _ _ q.1 }

sum-passes : (ws : List ℕ) → SumSound ws → sum_right ws ≡ true
unfolding sum_right
sum-passes ws s = join _ _ (eq-eqb _ _ s.low) (join _ _ (eq-eqb _ _ s.high) (eq-eqb _ _ s.reserved))

pub sound : (ws : List ℕ) → area_judgement ws ≡ Fine → Sound ws
unfolding area_judgement
sound ws e =
    let p = otherwise-fine (words_judgement ws) (refuse_unless (sum_right ws) AreaRule 0) e in
    record { workable = workable ws p.0; sum = sum-holds ws (unless-fine (sum_right ws) AreaRule 0 p.1) }

pub sound-passes : (ws : List ℕ) → Sound ws → area_judgement ws ≡ Fine
unfolding area_judgement
sound-passes ws s = otherwise-second (words_judgement ws) _ (workable-passes ws s.workable) ∙ none AreaRule 0 (sum-passes ws s.sum)

-- an area that passes all but the sum, or not even that
pub past_words : (ws : List ℕ) → words_judgement ws ≡ Fine → area_judgement ws ≡ refuse_unless (sum_right ws) AreaRule 0
unfolding area_judgement
past_words ws e = otherwise-second (words_judgement ws) _ e

pub stopped-words : (ws : List ℕ) (n : Cause) (p : ℕ) → words_judgement ws ≡ refused n p → area_judgement ws ≡ refused n p
unfolding area_judgement
stopped-words ws n p e = otherwise-first (words_judgement ws) _ n p e

-- what is judged after a sound area
pub past-area : (ws : List ℕ) → Sound ws → (j : Judgement) → otherwise (area_judgement ws) j ≡ j
past-area ws s j = otherwise-second (area_judgement ws) j (sound-passes ws s)
