-- A fresh area is settled by its netlist, flips and pattern: two that agree there are equal word for word. So toggling an input or setting a flip leaves
-- what storing it and working everything out would. Assumes nothing.
use Prim.Native.Nat.{ℕ, zero, suc, ◌+◌, ◌-◌, ◌/◌, ◌%◌, ◌^◌, ◌≤◌, ◌<◌}
use mathlib.Core.List.{List}
use mathlib.Core.Logic.{⊎_elim, by_cases}
use mathlib.Core.Path.{◌≡◌, refl, sym, ap, subst, ◌∙◌}
use native.Mathlib.Nat.{eq-or-lt_of_le, le_of_suc-le-suc, le_refl, add-zero}
use native.Mathlib.Decide.{dec_lt, ℕ_discrete}
use native.Mathlib.Omega.{arith}
use lib.ListN.{length, get_or, set}
use lib.Seq.{get_or-set_same, get_or-set_other, ext_get_or}
use Rattle.area.specs.Layout.{most_pins, head_words, gate_words, inputs, gates, outputs, pattern_index, pattern, reliability_index, reliability_word}
use Rattle.area.specs.Layout.{sum_low_index, sum_high_index}
use Rattle.area.specs.Layout.{gate_index, pin_count, table, pins_index, pins, flip_index, flip, figure_index, figure}
use Rattle.area.specs.Layout.{outputs_index, output_words, needed, source_word}
use Rattle.area.specs.Rules.{NetSound, Sound}
use Rattle.area.specs.Sum.{low_bits, high_bits}
use Rattle.area.proofs.Words.{pin_at, output-at}
use Rattle.area.proofs.Sum.{same_sum}
use Rattle.work.specs.Work.{work_all, invert_bit, toggle_words, set_words}
use Rattle.work.proofs.Frame.{FrameWord, SameFrame, same_inputs, same_gates, same-sym, same-trans, same-work-all, same-store-pattern, same-store-flip}
use Rattle.work.proofs.Frame.{same-toggle, same_set, frame-same-net, toggle-kept, set-kept, low-unworked, high-unworked, work-all-pattern}
use Rattle.work.proofs.Sound.{SameSum, net-same, work-all-sum, set_flip, set-flip-other}
use Rattle.fresh.specs.Fresh.{Fresh}
use Rattle.fresh.proofs.Sources.{source-same, gate-figure-earlier, reliability-same}
use Rattle.fresh.proofs.WorkAll.{work-all-fresh}
use Rattle.fresh.proofs.Calls.{toggle-flip, toggle-pattern, toggle-fresh, set-pattern, set-fresh}

-- every word of an area is the pattern, the reliability, of the sum, a gate's flip or figure, or of the frame
word-kinds : (C : ℕ → Type 0) (g : ℕ) → C pattern_index → C reliability_index → C sum_low_index → C sum_high_index
    → ((j : ℕ) → j < g → C (flip_index j)) → ((j : ℕ) → j < g → C (figure_index j))
    → ((i : ℕ) → FrameWord g i → C i) → (i : ℕ) → C i
word-kinds C g at-pattern at-reliability at_low at_high at-flip at-figure frame i =
    by_cases (ℕ_discrete i pattern_index) (λ e. subst C (sym e) at-pattern) (λ p.
    by_cases (ℕ_discrete i reliability_index) (λ e. subst C (sym e) at-reliability) (λ r.
    by_cases (ℕ_discrete i sum_low_index) (λ e. subst C (sym e) at_low) (λ s.
    by_cases (ℕ_discrete i sum_high_index) (λ e. subst C (sym e) at_high) (λ t.
    by_cases (dec_lt j g)
    (λ l.
    by_cases (ℕ_discrete i (flip_index j)) (λ e. subst C (sym e) (at-flip j l)) (λ f.
    by_cases (ℕ_discrete i (figure_index j)) (λ e. subst C (sym e) (at-figure j l)) (λ w.
    frame i
    (record {
      not_pattern = p;
      not_reliability = r;
      not_low = s;
      not_high = t;
      not_flip = λ k small e. f (e ∙ ap flip_index (flip_of k e));
      not_figure = λ k small e. w (e ∙ ap figure_index (figure-of k e));
    }))))
    (λ no.
    frame i
    (record {
      not_pattern = p;
      not_reliability = r;
      not_low = s;
      not_high = t;
      not_flip = λ k small e. no (subst (λ (x : ℕ). x < g) (flip_of k e) small);
      not_figure = λ k small e. no (subst (λ (x : ℕ). x < g) (figure-of k e) small);
    }))))))
  where
    -- the gate whose word this would be
    j : ℕ
    j = (i - head_words) / gate_words

    flip_of : (k : ℕ) → i ≡ flip_index k → k ≡ j
    flip_of k e = omega arith

    figure-of : (k : ℕ) → i ≡ figure_index k → k ≡ j
    figure-of k e = omega arith

module _ (ws vs : List ℕ) (net : NetSound ws) (fresh-ws : Fresh ws) (fresh-vs : Fresh vs) (same : SameFrame ws vs) (pattern-same : pattern vs ≡ pattern ws)
    (sum : SameSum ws vs) where
  sources-below : (b : ℕ) → ((l : ℕ) → l < b → figure vs l ≡ figure ws l) → (s : ℕ) → s < inputs ws + b → source_word vs s ≡ source_word ws s
  sources-below b h s l =
      source-same ws vs (same_inputs ws vs same) s (λ small. ap (λ (q : ℕ). q / 2 ^ s % 2) pattern-same) (λ j e. h j (omega arith))

  figures-below : (b : ℕ) → b ≤ gates ws → (l : ℕ) → l < b → figure vs l ≡ figure ws l
  figures-below zero fits l k = absurd (omega arith)
  figures-below (suc b) fits l k =
      let earlier = figures-below b (omega arith) in
      let here : figure vs b ≡ figure ws b
      = fresh-vs.figures b (omega (arith, same_gates ws vs same))
      ∙ gate-figure-earlier ws vs net same b fits (sum.same_flips b fits) (sources-below b earlier)
      ∙ sym (fresh-ws.figures b fits) in
      ⊎_elim (λ e. subst (λ (t : ℕ). figure vs t ≡ figure ws t) (sym e) here) (earlier l) (eq-or-lt_of_le (le_of_suc-le-suc k))

  pub figures-unique : (j : ℕ) → j < gates ws → figure vs j ≡ figure ws j
  figures-unique = figures-below (gates ws) (le_refl (gates ws))

  pub reliability-unique : reliability_word vs ≡ reliability_word ws
  reliability-unique = fresh-vs.product ∙ reliability-same ws vs net same (sources-below (gates ws) figures-unique) ∙ sym fresh-ws.product

  pub areas-equal : vs ≡ ws
  areas-equal =
      ext_get_or 0 vs ws same.size
      (λ i l.
      word-kinds (λ (k : ℕ). get_or vs k 0 ≡ get_or ws k 0) (gates ws) pattern-same reliability-unique sum.same_low sum.same_high sum.same_flips
      figures-unique same.kept i)

-- what two areas must agree on to have one frame: length, counts, gates, outputs, and the words past them
pub record SameHeld (ws vs : List ℕ) : Type 0 where
  pub size : length vs ≡ length ws
  pub input_count : inputs vs ≡ inputs ws
  pub gate_count : gates vs ≡ gates ws
  pub output_count : outputs vs ≡ outputs ws
  pub pin_counts : (j : ℕ) → j < gates ws → pin_count vs j ≡ pin_count ws j
  pub tables : (j : ℕ) → j < gates ws → table vs j ≡ table ws j
  pub gate_pins : (j : ℕ) → j < gates ws → pins vs j ≡ pins ws j
  pub output_sources : output_words vs ≡ output_words ws
  pub past : (i : ℕ) → needed (gates ws) (outputs ws) ≤ i → get_or vs i 0 ≡ get_or ws i 0

-- what holds of each of the first eight numbers
eight-cases : (C : ℕ → Type 0) → C 0 → C 1 → C 2 → C 3 → C 4 → C 5 → C 6 → C 7 → (r : ℕ) → r < 8 → C r
eight-cases C a b c d e f g h zero l = a
eight-cases C a b c d e f g h (suc zero) l = b
eight-cases C a b c d e f g h (suc (suc zero)) l = c
eight-cases C a b c d e f g h (suc (suc (suc zero))) l = d
eight-cases C a b c d e f g h (suc (suc (suc (suc zero)))) l = e
eight-cases C a b c d e f g h (suc (suc (suc (suc (suc zero))))) l = f
eight-cases C a b c d e f g h (suc (suc (suc (suc (suc (suc zero)))))) l = g
eight-cases C a b c d e f g h (suc (suc (suc (suc (suc (suc (suc zero))))))) l = h
eight-cases C a b c d e f g h (suc (suc (suc (suc (suc (suc (suc (suc r)))))))) l = absurd (omega arith)

pub held-frame : (ws vs : List ℕ) → Sound ws → Sound vs → SameHeld ws vs → SameFrame ws vs
held-frame ws vs sound-ws sound-vs held =
    record {
      size = held.size;
      kept =
          λ i w.
          by_cases (dec_lt i head_words) (λ l. head i l w) (λ no.
          by_cases (dec_lt i (outputs_index (gates ws)))
          (λ l.
          let at : gate_index ((i - head_words) / gate_words) + (i - head_words) % gate_words ≡ i = omega arith in
          subst (λ (k : ℕ). FrameWord (gates ws) k → Same k) at
          (gate ((i - head_words) / gate_words) (omega arith) ((i - head_words) % gate_words) (omega arith)) w)
          (λ l. behind i (omega arith)));
    }
  where
    Same : ℕ → Type 0
    Same k = get_or vs k 0 ≡ get_or ws k 0

    head : (i : ℕ) → i < head_words → FrameWord (gates ws) i → Same i
    head =
        eight-cases (λ (k : ℕ). FrameWord (gates ws) k → Same k)
        (λ w. held.input_count)
        (λ w. held.gate_count)
        (λ w. held.output_count)
        (λ w. absurd (w.not_pattern refl))
        (λ w. absurd (w.not_reliability refl))
        (λ w. absurd (w.not_low refl))
        (λ w. absurd (w.not_high refl))
        (λ w. sound-vs.sum.reserved ∙ sym sound-ws.sum.reserved)

    gate : (j : ℕ) → j < gates ws → (r : ℕ) → r < gate_words → FrameWord (gates ws) (gate_index j + r) → Same (gate_index j + r)
    gate j inside =
        let same-pin : (t : ℕ) → t < most_pins → Same (pins_index j + t)
        = λ t l. pin_at vs j t l ∙ ap (λ (ps : List ℕ). get_or ps t 0) (held.gate_pins j inside) ∙ sym (pin_at ws j t l) in
        eight-cases (λ (t : ℕ). FrameWord (gates ws) (gate_index j + t) → Same (gate_index j + t))
        (λ w. subst Same (sym (add-zero (gate_index j))) (held.pin_counts j inside))
        (λ w. held.tables j inside)
        (λ w. subst Same (omega arith) (same-pin 0 (omega arith)))
        (λ w. subst Same (omega arith) (same-pin 1 (omega arith)))
        (λ w. subst Same (omega arith) (same-pin 2 (omega arith)))
        (λ w. subst Same (omega arith) (same-pin 3 (omega arith)))
        (λ w. absurd (w.not_flip j inside refl))
        (λ w. absurd (w.not_figure j inside refl))

    -- the outputs, and past them
    behind : (k : ℕ) → outputs_index (gates ws) ≤ k → Same k
    behind k from =
        by_cases (dec_lt k (needed (gates ws) (outputs ws)))
        (λ l.
        let t = k - outputs_index (gates ws) in
        let at : outputs_index (gates ws) + t ≡ k = omega arith in
        let low : t < outputs ws = omega arith in
        subst Same at
        (ap (λ (g : ℕ). get_or vs (outputs_index g + t) 0) (sym held.gate_count)
        ∙ output-at vs t (omega (arith, held.output_count))
        ∙ ap (λ (os : List ℕ). get_or os t 0) held.output_sources
        ∙ sym (output-at ws t low)))
        (λ no. held.past k (omega arith))

-- two sound and fresh areas of one frame that hold the same flips and pattern are equal
pub frame-unique : (ws vs : List ℕ) → Sound ws → Sound vs → Fresh ws → Fresh vs → SameFrame ws vs → ((j : ℕ) → j < gates ws → flip vs j ≡ flip ws j)
    → pattern vs ≡ pattern ws → vs ≡ ws
frame-unique ws vs sound-ws sound-vs fresh-ws fresh-vs same flips q =
    let sums = same_sum vs ws (frame-same-net ws vs same) flips in
    areas-equal ws vs sound-ws.workable.net fresh-ws fresh-vs same q
    (record {
      same_low = sound-vs.sum.low ∙ ap low_bits sums ∙ sym sound-ws.sum.low;
      same_high = sound-vs.sum.high ∙ ap high_bits sums ∙ sym sound-ws.sum.high;
      same_flips = flips;
    })

-- and two that hold the same netlist, flips and pattern
pub fresh-unique : (ws vs : List ℕ) → Sound ws → Sound vs → Fresh ws → Fresh vs → SameHeld ws vs → ((j : ℕ) → j < gates ws → flip vs j ≡ flip ws j)
    → pattern vs ≡ pattern ws → vs ≡ ws
fresh-unique ws vs sound-ws sound-vs fresh-ws fresh-vs held =
    frame-unique ws vs sound-ws sound-vs fresh-ws fresh-vs (held-frame ws vs sound-ws sound-vs held)

-- the sum and the flips the other way round, and through a third area
sum-sym : (ws vs : List ℕ) → gates vs ≡ gates ws → SameSum ws vs → SameSum vs ws
sum-sym ws vs e sum =
    record { same_low = sym sum.same_low; same_high = sym sum.same_high; same_flips = λ j l. sym (sum.same_flips j (omega arith)) }

sum-trans : (ws vs us : List ℕ) → SameSum ws vs → gates vs ≡ gates ws → SameSum vs us → SameSum ws us
sum-trans ws vs us a e b =
    record {
      same_low = b.same_low ∙ a.same_low;
      same_high = b.same_high ∙ a.same_high;
      same_flips = λ j l. b.same_flips j (omega arith) ∙ a.same_flips j l;
    }

-- working out a fresh area changes nothing
pub fresh-fixed : (ws : List ℕ) → NetSound ws → Fresh ws → work_all ws ≡ ws
fresh-fixed ws net fresh =
    areas-equal ws (work_all ws) net fresh (work-all-fresh ws net) (same-work-all ws) (work-all-pattern ws) (work-all-sum ws)

-- what an area is worked out to does not depend on the figures that it held
pub work-all-same : (ws vs : List ℕ) → NetSound ws → SameFrame ws vs → pattern vs ≡ pattern ws → SameSum ws vs → work_all vs ≡ work_all ws
work-all-same ws vs net same q sum =
    let worked = same-work-all ws in
    areas-equal (work_all ws) (work_all vs) (net-same ws (work_all ws) net worked) (work-all-fresh ws net) (work-all-fresh vs (net-same ws vs net same))
    (same-trans (work_all ws) ws (work_all vs) (same-sym ws (work_all ws) worked) (same-trans ws vs (work_all vs) same (same-work-all vs)))
    (work-all-pattern vs ∙ q ∙ sym (work-all-pattern ws))
    (sum-trans (work_all ws) ws (work_all vs) (sum-sym ws (work_all ws) (same_gates ws (work_all ws) worked) (work-all-sum ws))
    (same_gates (work_all ws) ws (same-sym ws (work_all ws) worked))
    (sum-trans ws vs (work_all vs) sum (same_gates ws vs same) (work-all-sum vs)))

-- a fresh area that has the frame, pattern and flips of another is what that one is worked out to
pub fresh-is-afresh : (ws vs : List ℕ) → NetSound ws → Fresh vs → SameFrame ws vs → pattern vs ≡ pattern ws → SameSum ws vs → vs ≡ work_all ws
fresh-is-afresh ws vs net fresh same q sum = sym (fresh-fixed vs (net-same ws vs net same) fresh) ∙ work-all-same ws vs net same q sum

pub toggle-is-afresh : (ws : List ℕ) (i : ℕ) → NetSound ws → Fresh ws → i < inputs ws
    → toggle_words ws i ≡ work_all (set ws pattern_index (invert_bit (pattern ws) i))
toggle-is-afresh ws i net fresh l =
    let q = invert_bit (pattern ws) i in
    let stored = set ws pattern_index q in
    let store = same-store-pattern ws q in
    fresh-is-afresh stored (toggle_words ws i)
    (net-same ws stored net store)
    (toggle-fresh ws i net fresh l)
    (same-trans stored ws (toggle_words ws i) (same-sym ws stored store) (same-toggle ws i))
    (toggle-pattern ws i net ∙ sym (get_or-set_same ws pattern_index q 0 (omega (arith, net.long))))
    (record {
      same_low = (toggle-kept ws i).kept sum_low_index (λ e. omega arith, low-unworked 0 (gates ws))
          ∙ sym (get_or-set_other ws pattern_index sum_low_index q 0 (λ e. omega arith));
      same_high = (toggle-kept ws i).kept sum_high_index (λ e. omega arith, high-unworked 0 (gates ws))
          ∙ sym (get_or-set_other ws pattern_index sum_high_index q 0 (λ e. omega arith));
      same_flips = λ j inside. toggle-flip ws i j ∙ sym (get_or-set_other ws pattern_index (flip_index j) q 0 (λ e. omega arith));
    })

pub set-is-afresh : (ws : List ℕ) (g units : ℕ) → NetSound ws → Fresh ws → g < gates ws → set_words ws g units ≡ work_all (set ws (flip_index g) units)
set-is-afresh ws g units net fresh l =
    let stored = set ws (flip_index g) units in
    let store = same-store-flip ws g units l in
    fresh-is-afresh stored (set_words ws g units)
    (net-same ws stored net store)
    (set-fresh ws g units l net fresh)
    (same-trans stored ws (set_words ws g units) (same-sym ws stored store) (same_set ws g units l))
    (set-pattern ws g units l ∙ sym (get_or-set_other ws (flip_index g) pattern_index units 0 (λ e. omega arith)))
    (record {
      same_low = (set-kept ws g units).kept sum_low_index (λ e. omega arith, low-unworked g _)
          ∙ sym (get_or-set_other ws (flip_index g) sum_low_index units 0 (λ e. omega arith));
      same_high = (set-kept ws g units).kept sum_high_index (λ e. omega arith, high-unworked g _)
          ∙ sym (get_or-set_other ws (flip_index g) sum_high_index units 0 (λ e. omega arith));
      same_flips = λ j inside.
          by_cases (ℕ_discrete j g)
          (λ e.
          subst (λ (t : ℕ). flip (set_words ws g units) t ≡ flip stored t) (sym e)
          (set_flip ws g units l net ∙ sym (get_or-set_same ws (flip_index g) units 0 (omega (arith, net.long)))))
          (λ other.
          set-flip-other ws g units l j other ∙ sym (get_or-set_other ws (flip_index g) (flip_index j) units 0 (λ e. other (omega arith))));
    })
