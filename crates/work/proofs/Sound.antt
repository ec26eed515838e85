-- Areas that keep rule 14 stay so: the netlist is as it was, and what is worked out or stored fits its word. Assumes nothing.
use Prim.Native.Nat.{ℕ, suc, ◌+◌, ◌-◌, ◌/◌, ◌%◌, ◌^◌, ◌≤◌, ◌<◌}
use mathlib.Core.Bool.{Bool, true, false, cond}
use mathlib.Core.List.{List, [], ◌∷◌, map}
use mathlib.Core.Logic.{◌≢◌, by_cases}
use mathlib.Core.Path.{◌≡◌, refl, sym, ap, subst, ◌∙◌}
use native.Mathlib.Decide.{ℕ_discrete}
use native.Mathlib.Nat.{le_refl}
use native.Mathlib.Omega.{arith}
use lib.ListN.{length, get_or, set}
use lib.Seq.{get_or-set_same, get_or-set_other}
use lib.Dec.{ltb}
use borrow.Author.Tests.{ltb-false}
use Rattle.lists.specs.Lists.{Below}
use Rattle.lists.proofs.Every.{map-all}
use Rattle.rounding.specs.Rounding.{units_in_one}
use Rattle.figure.specs.Figure.{bit_of, answer, output_step, right_of, failure_of, gate_word}
use Rattle.figure.proofs.Laws.{failure-at-most, output-at-most}
use Rattle.area.specs.Layout.{largest_flip, largest_figure, inputs, gates, pattern_index, pattern, reliability_index, sum_low_word, sum_high_word, reserved_word}
use Rattle.area.specs.Layout.{table, pins, flip_index, flip, figure_index, figure, used_pins, output_words, source_word}
use Rattle.area.specs.Rules.{NetSound, FiguresSound, Workable, Sound}
use Rattle.netlist.specs.Live.{if_live, readers}
use Rattle.area.specs.Net.{net_of}
use Rattle.area.specs.Sum.{live_flip, flip_sum, low_bits, high_bits, stored_sum, with_sum}
use Rattle.area.proofs.Sum.{same_sum, changed-sum, stored_other, stored_low, stored-high}
use Rattle.area.specs.Figures.{gate_word_from, product_from}
use Rattle.area.proofs.Words.{gate-inside, used-below, output-below}
use Rattle.work.specs.Work.{gate_figure, work_gate, reliability_now, work_reliability, work_all, work_if, mark_of, invert_bit, toggle_words, set_words}
use Rattle.work.proofs.Frame.{SameFrame, same_inputs, same_gates, same_outputs, same-pin-count, same_table, same_pins, same-output-words}
use Rattle.work.proofs.Frame.{same-reserved, frame-same-net}
use Rattle.work.proofs.Frame.{Walk, end, next, gates-walk, marked-walk, set_walk, same-store-figure, same-work-if, same-work-reliability}
use Rattle.work.proofs.Frame.{same-store-pattern, same-store-flip, same-store-sum, same-work-all, same-toggle, same_set}
use Rattle.work.proofs.Frame.{store_kept, worked_kept, work-all-kept, toggle-kept, set-kept, low-unworked, high-unworked, flip-unworked, work-all-flip}
use Rattle.work.proofs.Pattern.{invert-fits}

-- ---- areas of one frame: the netlist is the same, the figures are to be shown

pub net-same : (ws vs : List ℕ) → NetSound ws → SameFrame ws vs → NetSound vs
net-same ws vs net same =
    let n = same_inputs ws vs same in
    let g = same_gates ws vs same in
    let k = same_outputs ws vs same in
    record {
      inputs_fit = omega (arith, net.inputs_fit);
      gates_fit = omega (arith, net.gates_fit);
      some_output = omega (arith, net.some_output);
      outputs_fit = omega (arith, net.outputs_fit);
      long = omega (arith, net.long, same.size);
      gate =
          λ j l.
          let old = net.gate j (omega arith) in
          let c = same-pin-count ws vs same j in
          let pin : (i : ℕ) → get_or (pins vs j) i 0 ≡ get_or (pins ws j) i 0 = λ i. ap (λ (ps : List ℕ). get_or ps i 0) (same_pins ws vs same j) in
          record {
            few_pins = omega (arith, old.few_pins);
            table_bits = rw (c, same_table ws vs same j) old.table_bits;
            pins_below = λ i below. omega (arith, pin i, old.pins_below i (omega arith));
            unused_zero = λ i from. pin i ∙ old.unused_zero i (omega arith);
          };
      outputs_below = λ i l. rw (same-output-words ws vs same, n, g) (net.outputs_below i (omega arith));
    }

pub workable-same : (ws vs : List ℕ) → Workable ws → SameFrame ws vs → FiguresSound vs → Workable vs
workable-same ws vs workable same figures = record { net = net-same ws vs workable.net same; figures = figures }

-- and whose sum and flips are the same
pub record SameSum (ws vs : List ℕ) : Type 0 where
  pub same_low : sum_low_word vs ≡ sum_low_word ws
  pub same_high : sum_high_word vs ≡ sum_high_word ws
  pub same_flips : (j : ℕ) → j < gates ws → flip vs j ≡ flip ws j

pub sound-same : (ws vs : List ℕ) → Sound ws → SameFrame ws vs → SameSum ws vs → Workable vs → Sound vs
sound-same ws vs sound same kept workable =
    let sum = sym (same_sum vs ws (frame-same-net ws vs same) kept.same_flips) in
    record {
      workable = workable;
      sum = record {
        low = kept.same_low ∙ sound.sum.low ∙ ap low_bits sum;
        high = kept.same_high ∙ sound.sum.high ∙ ap high_bits sum;
        reserved = same-reserved ws vs same ∙ sound.sum.reserved;
      };
    }

-- ---- one word stored

-- a word after a store: the new one or the old one
stored_at : (P : ℕ → Type 0) (ws : List ℕ) (k v i : ℕ) → k < length ws → (i ≡ k → P v) → P (get_or ws i 0) → P (get_or (set ws k v) i 0)
stored_at P ws k v i inside new old =
    by_cases (ℕ_discrete i k)
    (λ e. subst (λ (x : ℕ). P (get_or (set ws k v) x 0)) (sym e) (subst P (sym (get_or-set_same ws k v 0 inside)) (new e)))
    (λ other. subst P (sym (get_or-set_other ws k i v 0 other)) old)

-- the value stored fits each of the words that it may be
workable-store : (ws : List ℕ) (k v : ℕ) → Workable ws → SameFrame ws (set ws k v) → k < length ws
    → (pattern_index ≡ k → v < 2 ^ inputs ws) → (reliability_index ≡ k → v ≤ units_in_one) → ((j : ℕ) → flip_index j ≡ k → v ≤ largest_flip)
    → ((j : ℕ) → figure_index j ≡ k → v ≤ largest_figure) → Workable (set ws k v)
workable-store ws k v workable same inside q r p f =
    let figures = workable.figures in
    let n = same_inputs ws (set ws k v) same in
    let g = same_gates ws (set ws k v) same in
    workable-same ws (set ws k v) workable same
    (record {
      pattern_fits = rw n (stored_at (λ (x : ℕ). x < 2 ^ inputs ws) ws k v pattern_index inside q figures.pattern_fits);
      reliability_fits = stored_at (λ (x : ℕ). x ≤ units_in_one) ws k v reliability_index inside r figures.reliability_fits;
      flip_fits = λ j l. stored_at (λ (x : ℕ). x ≤ largest_flip) ws k v (flip_index j) inside (p j) (figures.flip_fits j (omega arith));
      figure_fits = λ j l. stored_at (λ (x : ℕ). x ≤ largest_figure) ws k v (figure_index j) inside (f j) (figures.figure_fits j (omega arith));
    })

pub workable-store-pattern : (ws : List ℕ) (q : ℕ) → Workable ws → q < 2 ^ inputs ws → Workable (set ws pattern_index q)
workable-store-pattern ws q workable h =
    workable-store ws pattern_index q workable (same-store-pattern ws q) (omega (arith, workable.net.long))
    (λ e. h) (λ e. absurd (omega arith)) (λ j e. absurd (omega arith)) (λ j e. absurd (omega arith))

pub workable-store-flip : (ws : List ℕ) (g units : ℕ) → Workable ws → g < gates ws → units ≤ largest_flip → Workable (set ws (flip_index g) units)
workable-store-flip ws g units workable l h =
    workable-store ws (flip_index g) units workable (same-store-flip ws g units l) (omega (arith, workable.net.long))
    (λ e. absurd (omega arith)) (λ e. absurd (omega arith)) (λ j e. h) (λ j e. absurd (omega arith))

-- ---- the sum stored

module _ (ws : List ℕ) (workable : Workable ws) where
  abbrev summed : List ℕ
  summed = stored_sum ws (flip_sum ws)

  other : (i : ℕ) → (i ≡ 5 → ⊥) → (i ≡ 6 → ⊥) → get_or summed i 0 ≡ get_or ws i 0
  other i low high = stored_other ws (flip_sum ws) i low high

  workable-summed : Workable summed
  workable-summed =
      let same = same-store-sum ws (flip_sum ws) in
      let figures = workable.figures in
      let g = same_gates ws summed same in
      workable-same ws summed workable same
      (record {
        pattern_fits = rw (same_inputs ws summed same, other pattern_index (λ e. omega arith) (λ e. omega arith)) figures.pattern_fits;
        reliability_fits = rw (other reliability_index (λ e. omega arith) (λ e. omega arith)) figures.reliability_fits;
        flip_fits = λ j l. rw (other (flip_index j) (λ e. omega arith) (λ e. omega arith)) (figures.flip_fits j (omega arith));
        figure_fits = λ j l. rw (other (figure_index j) (λ e. omega arith) (λ e. omega arith)) (figures.figure_fits j (omega arith));
      })

  -- an area that holds its own sum, and whose reserved word is zero, keeps all of rule 14
  pub sound-with-sum : reserved_word ws ≡ 0 → Sound (with_sum ws)
  unfolding with_sum
  sound-with-sum zero =
      let same = same-store-sum ws (flip_sum ws) in
      let sum = sym (same_sum summed ws (frame-same-net ws summed same) (λ j l. other (flip_index j) (λ e. omega arith) (λ e. omega arith))) in
      let long = workable.net.long in
      record {
        workable = workable-summed;
        sum = record {
          low = stored_low ws (flip_sum ws) (omega arith) ∙ ap low_bits sum;
          high = stored-high ws (flip_sum ws) (omega arith) ∙ ap high_bits sum;
          reserved = same-reserved ws summed same ∙ zero;
        };
      }

-- ---- what is worked out fits

bit-fits : (b : Bool) → bit_of b ≤ 1
bit-fits true = omega arith
bit-fits false = omega arith

module _ (ws : List ℕ) (workable : Workable ws) where
  -- every source's word is at most 2 × U + 1
  pub source-word-fits : (s : ℕ) → s < inputs ws + gates ws → source_word ws s ≤ largest_figure
  source-word-fits s l = go (ltb s (inputs ws)) refl
    where
      go : (c : Bool) → ltb s (inputs ws) ≡ c → cond c (pattern ws / 2 ^ s % 2) (figure ws (s - inputs ws)) ≤ largest_figure
      go true e = omega arith
      go false e =
          let from : inputs ws ≤ s = ltb-false s (inputs ws) e in
          workable.figures.figure_fits (s - inputs ws) (omega arith)

  -- and so is what a gate is worked out to
  gate-figure-fits : (j : ℕ) → j < gates ws → gate_figure ws j ≤ largest_figure
  unfolding gate_figure gate_word_from gate_word
  gate-figure-fits j l =
      let words = map (source_word ws) (used_pins ws j) in
      let fails : (i : ℕ) → get_or (map failure_of words) i 0 + 0 ≤ units_in_one
      = λ i. map-all 0 (λ (x : ℕ). x + 0 ≤ units_in_one) (omega arith) failure_of words
      (λ k s. omega (
        arith,
        map-all 0 (λ (x : ℕ). x ≤ largest_figure) (omega arith) (source_word ws) (used_pins ws j)
            (λ p t. source-word-fits (get_or (used_pins ws j) p 0) (omega (arith, used-below ws workable.net j l p t))) k,
      )) i in
      omega (
        arith,
        failure-at-most units_in_one (omega arith) (table ws j) (map right_of words) (map failure_of words) (flip ws j) fails
            (omega (arith, workable.figures.flip_fits j l)),
        bit-fits (answer (table ws j) (map right_of words)),
      )

  -- the reliability is at most U
  product-fits : (s : ℕ) → s ≤ units_in_one → (os : List ℕ) → Below (inputs ws + gates ws) os → product_from (source_word ws) s os ≤ units_in_one
  product-fits s l [] h = l
  product-fits s l (o ∷ os) h =
      product-fits (output_step units_in_one s (failure_of (source_word ws o)))
      (output-at-most units_in_one (omega arith) s (failure_of (source_word ws o)) l (omega (arith, source-word-fits o (h 0 (omega arith)))))
      os
      (λ i k. h (suc i) (omega arith))

  reliability-now-fits : reliability_now ws ≤ units_in_one
  unfolding reliability_now
  reliability-now-fits = product-fits units_in_one (le_refl units_in_one) (output_words ws) (output-below ws workable.net)

  pub workable-store-figure : (j v : ℕ) → j < gates ws → v ≤ largest_figure → Workable (set ws (figure_index j) v)
  workable-store-figure j v l fits =
      workable-store ws (figure_index j) v workable (same-store-figure ws j v l) (gate-inside ws workable.net j l)
      (λ e. absurd (omega arith)) (λ e. absurd (omega arith)) (λ i e. absurd (omega arith)) (λ i e. fits)

  pub workable-work-gate : (j : ℕ) → j < gates ws → Workable (work_gate ws j)
  unfolding work_gate
  workable-work-gate j l = workable-store-figure j (gate_figure ws j) l (gate-figure-fits j l)

  pub workable-work-if : (m : Bool) (j : ℕ) → j < gates ws → Workable (work_if m ws j)
  workable-work-if true j l = workable-work-gate j l
  workable-work-if false j l = workable

  pub workable-work-reliability : Workable (work_reliability ws)
  unfolding work_reliability
  workable-work-reliability =
      workable-store ws reliability_index (reliability_now ws) workable (same-work-reliability ws) (omega (arith, workable.net.long))
      (λ e. absurd (omega arith)) (λ e. reliability-now-fits) (λ j e. absurd (omega arith)) (λ j e. absurd (omega arith))

-- ---- the walks and the calls

pub workable-walk : {j k : ℕ} {ws vs : List ℕ} → Walk j k ws vs → j + k ≤ gates ws → Workable ws → Workable vs
workable-walk end l workable = workable
workable-walk {j = j} {ws = ws} (next m walk) l workable =
    workable-walk walk (omega (arith, same_gates ws _ (same-work-if m ws j (omega arith)))) (workable-work-if ws workable m j (omega arith))

workable-worked : {j k : ℕ} {ws vs : List ℕ} → Walk j k ws vs → j + k ≤ gates ws → Workable ws → Workable (work_reliability vs)
workable-worked {vs = vs} walk l workable = workable-work-reliability vs (workable-walk walk l workable)

pub workable-work-all : (ws : List ℕ) → Workable ws → Workable (work_all ws)
unfolding work_all
workable-work-all ws workable = workable-worked (gates-walk ws 0 (gates ws)) (omega arith) workable

pub workable-toggle : (ws : List ℕ) (i : ℕ) → Workable ws → i < inputs ws → Workable (toggle_words ws i)
unfolding toggle_words
workable-toggle ws i workable l =
    let q = invert_bit (pattern ws) i in
    workable-worked (marked-walk (set ws pattern_index q) (mark_of i) 0 (gates ws)) (omega (arith, same_gates ws _ (same-store-pattern ws q)))
    (workable-store-pattern ws q workable (invert-fits (pattern ws) i (inputs ws) l workable.figures.pattern_fits))

pub workable-set : (ws : List ℕ) (g units : ℕ) → Workable ws → g < gates ws → units ≤ largest_flip → Workable (set_words ws g units)
unfolding set_words
workable-set ws g units workable l h =
    workable-worked (set_walk ws g units) (omega (arith, same_gates ws _ (same-store-flip ws g units l))) (workable-store-flip ws g units workable l h)

-- ---- whole areas

pub sound-store-pattern : (ws : List ℕ) (q : ℕ) → Sound ws → q < 2 ^ inputs ws → Sound (set ws pattern_index q)
sound-store-pattern ws q sound h =
    let kept = (store_kept ws pattern_index q).kept in
    sound-same ws _ sound (same-store-pattern ws q)
    (record { same_low = kept _ (λ e. omega arith); same_high = kept _ (λ e. omega arith); same_flips = λ j l. kept _ (λ e. omega arith) })
    (workable-store-pattern ws q sound.workable h)

pub work-all-sum : (ws : List ℕ) → SameSum ws (work_all ws)
work-all-sum ws =
    let kept = (work-all-kept ws).kept in
    record { same_low = kept _ (low-unworked 0 (gates ws)); same_high = kept _ (high-unworked 0 (gates ws)); same_flips = λ j l. work-all-flip ws j }

pub sound-work-all : (ws : List ℕ) → Sound ws → Sound (work_all ws)
sound-work-all ws sound = sound-same ws _ sound (same-work-all ws) (work-all-sum ws) (workable-work-all ws sound.workable)

pub sound-toggle : (ws : List ℕ) (i : ℕ) → Sound ws → i < inputs ws → Sound (toggle_words ws i)
sound-toggle ws i sound l =
    let kept = (toggle-kept ws i).kept in
    sound-same ws _ sound (same-toggle ws i)
    (record {
      same_low = kept _ (λ e. omega arith, low-unworked 0 (gates ws));
      same_high = kept _ (λ e. omega arith, high-unworked 0 (gates ws));
      same_flips = λ j l. kept _ (λ e. omega arith, flip-unworked 0 (gates ws) j);
    })
    (workable-toggle ws i sound.workable l)

-- the sum is to be stored again once a flip is set
pub sound-set : (ws : List ℕ) (g units : ℕ) → Sound ws → g < gates ws → units ≤ largest_flip → Sound (with_sum (set_words ws g units))
sound-set ws g units sound l h =
    sound-with-sum (set_words ws g units) (workable-set ws g units sound.workable l h)
    (same-reserved ws (set_words ws g units) (same_set ws g units l) ∙ sound.sum.reserved)

-- ---- the flips after one is set

module _ (ws : List ℕ) (g units : ℕ) (small : g < gates ws) where
  pub set-flip-other : (j : ℕ) → j ≢ g → flip (set_words ws g units) j ≡ flip ws j
  set-flip-other j other = (set-kept ws g units).kept (flip_index j) (λ e. other (omega arith), flip-unworked g _ j)

  pub set_flip : NetSound ws → flip (set_words ws g units) g ≡ units
  unfolding set_words
  set_flip net =
      (worked_kept (set_walk ws g units)).kept (flip_index g) (flip-unworked g _ g)
      ∙ get_or-set_same ws (flip_index g) units 0 (omega (arith, net.long))

  -- and the raw flip sum
  pub set_sum : NetSound ws
      → flip_sum (set_words ws g units) + live_flip ws g ≡ flip_sum ws + if_live (readers (net_of ws [] []) (inputs ws + g)) units
  set_sum net =
      changed-sum (set_words ws g units) ws g (frame-same-net ws (set_words ws g units) (same_set ws g units small)) small (λ j l other. set-flip-other j other)
      ∙ ap (λ (u : ℕ). flip_sum ws + if_live (readers (net_of ws [] []) (inputs ws + g)) u) (set_flip net)
