-- Toggling an input and setting a flip keep an area fresh, and change of its pattern, flips and netlist only what they name. Assumes nothing.
use Prim.Native.Nat.{ℕ, suc, ◌+◌, ◌-◌, ◌/◌, ◌%◌, ◌^◌, ◌<◌}
use mathlib.Core.List.{List}
use mathlib.Core.Logic.{◌≢◌, by_cases}
use mathlib.Core.Path.{◌≡◌, sym, ap, ◌∙◌}
use native.Mathlib.Decide.{ℕ_discrete}
use native.Mathlib.Omega.{arith}
use lib.ListN.{length, get_or, set, replicate, length-set, length-replicate}
use lib.Seq.{get_or-set_same, get_or-set_other}
use Rattle.rounding.specs.Rounding.{units_in_one, to_units}
use Rattle.area.specs.Layout.{most_sources, inputs, gates, pattern_index, pattern, reliability_index, flip_index, flip, figure_index, figure, source_word}
use Rattle.area.specs.Layout.{sum_low_index, sum_high_index}
use Rattle.area.specs.Rules.{NetSound}
use Rattle.area.specs.Net.{net_of}
use Rattle.area.proofs.Words.{few-sources}
use Rattle.area.specs.Sum.{flip_sum, with_sum}
use Rattle.area.proofs.Net.{same-net}
use Rattle.area.proofs.Sum.{stored_other}
use Rattle.work.specs.Work.{work_gate, work_marked, mark_of, invert_bit, toggle_words, set_words}
use Rattle.work.proofs.Frame.{SameFrame, same_inputs, same_gates, frame-same-net, same-trans}
use Rattle.work.proofs.Frame.{same-store-pattern, same-store-flip, same-store-sum, same-work-gate, same-walk, same-toggle, same_set}
use Rattle.work.proofs.Frame.{work-gate-kept, marked-walk, worked_kept, toggle-kept, set-kept, pattern-unworked, flip-unworked}
use Rattle.work.proofs.Pattern.{invert-other}
use Rattle.work.proofs.Sound.{net-same, set_flip, set-flip-other}
use Rattle.fresh.specs.Fresh.{Fresh, Converted}
use Rattle.fresh.proofs.Sources.{source-same, gate-figure-earlier, reliability-same, source-work-gate}
use Rattle.fresh.proofs.WorkAll.{FreshAt, fresh_step, fresh-reliability}
use Rattle.fresh.proofs.Sweep.{Swept, sweep-fresh}

-- the marks at the start
pub mark-room : (s : ℕ) → length (mark_of s) ≡ most_sources
mark-room s = length-set (replicate most_sources 0) s 1 ∙ length-replicate {A = ℕ} most_sources 0

pub mark_set : (s : ℕ) → s < most_sources → get_or (mark_of s) s 0 ≡ 1
mark_set s l = get_or-set_same (replicate most_sources 0) s 1 0 (omega (arith, length-replicate {A = ℕ} most_sources 0))

-- an area with the same frame holds the same netlist
pub frame-net : (ws vs kinds chances : List ℕ) → SameFrame ws vs → net_of vs kinds chances ≡ net_of ws kinds chances
frame-net ws vs kinds chances same =
    same-net vs ws kinds chances (frame-same-net ws vs same)

module _ (ws : List ℕ) (i : ℕ) where
  -- the netlist and the flips stay, the pattern's bit i is inverted
  pub toggle-net : (kinds chances : List ℕ) → net_of (toggle_words ws i) kinds chances ≡ net_of ws kinds chances
  toggle-net kinds chances = frame-net ws (toggle_words ws i) kinds chances (same-toggle ws i)

  pub toggle-flip : (j : ℕ) → flip (toggle_words ws i) j ≡ flip ws j
  toggle-flip j = (toggle-kept ws i).kept (flip_index j) (λ e. omega arith, flip-unworked 0 (gates ws) j)

  pub toggle-pattern : NetSound ws → pattern (toggle_words ws i) ≡ invert_bit (pattern ws) i
  unfolding toggle_words
  toggle-pattern net =
      let q = invert_bit (pattern ws) i in
      (worked_kept (marked-walk (set ws pattern_index q) (mark_of i) 0 (gates ws))).kept pattern_index (pattern-unworked 0 (gates ws))
      ∙ get_or-set_same ws pattern_index q 0 (omega (arith, net.long))

  -- only input i differs at the start, and it is marked
  toggle-start : NetSound ws → i < inputs ws → Swept ws (set ws pattern_index (invert_bit (pattern ws) i)) (mark_of i) 0
  toggle-start net l =
      let q = invert_bit (pattern ws) i in
      let stored = set ws pattern_index q in
      let same = same-store-pattern ws q in
      let n = same_inputs ws stored same in
      record {
        same = same;
        net = net-same ws stored net same;
        room = mark-room i;
        fresh = λ b none. absurd (omega arith);
        figures_kept = λ k from. get_or-set_other ws pattern_index (figure_index k) q 0 (λ e. omega arith);
        flips_kept = λ k from. get_or-set_other ws pattern_index (flip_index k) q 0 (λ e. omega arith);
        unmarked =
            λ s below clear.
            let other : s ≢ i = λ e. clear (ap (λ (t : ℕ). get_or (mark_of i) t 0) e ∙ mark_set i (omega (arith, net.inputs_fit))) in
            source-same ws stored n s
            (λ small. ap (λ (x : ℕ). x / 2 ^ s % 2) (get_or-set_same ws pattern_index q 0 (omega (arith, net.long))) ∙ invert-other (pattern ws) i s other)
            (λ j e. absurd (omega arith));
      }

  pub toggle-fresh : NetSound ws → Fresh ws → i < inputs ws → Fresh (toggle_words ws i)
  unfolding toggle_words
  toggle-fresh net fresh l =
      let q = invert_bit (pattern ws) i in
      let stored = set ws pattern_index q in
      let worked = work_marked stored (mark_of i) 0 (gates ws) in
      let start = toggle-start net l in
      let count = same_gates ws stored (same-store-pattern ws q) in
      let walk = same-walk (marked-walk stored (mark_of i) 0 (gates ws)) (omega arith) in
      let again = same_gates stored worked walk in
      fresh-reliability worked (net-same stored worked start.net walk)
      (λ b below. sweep-fresh ws fresh.figures stored (mark_of i) 0 (gates ws) (omega arith) start b (omega arith))

module _ (ws : List ℕ) (g units : ℕ) (small : g < gates ws) where
  -- the netlist and the pattern stay, and every flip but gate g's
  pub set-net : (kinds chances : List ℕ) → net_of (set_words ws g units) kinds chances ≡ net_of ws kinds chances
  set-net kinds chances = frame-net ws (set_words ws g units) kinds chances (same_set ws g units small)

  pub set-pattern : pattern (set_words ws g units) ≡ pattern ws
  set-pattern = (set-kept ws g units).kept pattern_index (λ e. omega arith, pattern-unworked g _)

  -- a flip is no source's word
  source-store-flip : (s : ℕ) → source_word (set ws (flip_index g) units) s ≡ source_word ws s
  source-store-flip s =
      let stored = set ws (flip_index g) units in
      source-same ws stored (same_inputs ws stored (same-store-flip ws g units small)) s
      (λ l. ap (λ (q : ℕ). q / 2 ^ s % 2) (get_or-set_other ws (flip_index g) pattern_index units 0 (λ e. omega arith)))
      (λ j e. get_or-set_other ws (flip_index g) (figure_index j) units 0 (λ q. omega arith))

  -- once gate g is worked out only its source differs, and it is marked
  set-start : NetSound ws → Fresh ws → Swept ws (work_gate (set ws (flip_index g) units) g) (mark_of (inputs ws + g)) (suc g)
  set-start net fresh =
      let stored = set ws (flip_index g) units in
      let first = work_gate stored g in
      let store = same-store-flip ws g units small in
      let net-stored = net-same ws stored net store in
      let inside : g < gates stored = omega (arith, same_gates ws stored store) in
      let work = same-work-gate stored g inside in
      let flip-kept : (l : ℕ) → l ≢ g → flip stored l ≡ flip ws l
      = λ l other. get_or-set_other ws (flip_index g) (flip_index l) units 0 (λ e. other (omega arith)) in
      let figure-kept : (l : ℕ) → figure stored l ≡ figure ws l
      = λ l. get_or-set_other ws (flip_index g) (figure_index l) units 0 (λ e. omega arith) in
      let earlier : (l : ℕ) → l < g → FreshAt stored l
      = λ l below.
      figure-kept l
      ∙ fresh.figures l (omega arith)
      ∙ sym (gate-figure-earlier ws stored net store l (omega arith) (flip-kept l (λ e. omega arith)) (λ s k. source-store-flip s)) in
      record {
        same = same-trans ws stored first store work;
        net = net-same stored first net-stored work;
        room = mark-room (inputs ws + g);
        fresh = fresh_step stored net-stored g inside earlier;
        figures_kept = λ l from. (work-gate-kept stored g).kept (figure_index l) (λ e. omega arith) ∙ figure-kept l;
        flips_kept = λ l from. (work-gate-kept stored g).kept (flip_index l) (λ e. omega arith) ∙ flip-kept l (λ e. omega arith);
        unmarked =
            λ s below clear.
            let n = same_inputs ws stored store in
            let other : s ≢ inputs ws + g
            = λ e.
            clear (ap (λ (t : ℕ). get_or (mark_of (inputs ws + g)) t 0) e ∙ mark_set (inputs ws + g) (omega (arith, few-sources ws net))) in
            source-work-gate stored g s inside (λ e. other (omega arith)) ∙ source-store-flip s;
      }

  pub set-fresh : NetSound ws → Fresh ws → Fresh (set_words ws g units)
  unfolding set_words
  set-fresh net fresh =
      let marks = mark_of (inputs ws + g) in
      let first = work_gate (set ws (flip_index g) units) g in
      let left = gates ws - suc g in
      let worked = work_marked first marks (suc g) left in
      let start = set-start net fresh in
      let count = same_gates ws first start.same in
      let walk = same-walk (marked-walk first marks (suc g) left) (omega arith) in
      let again = same_gates first worked walk in
      fresh-reliability worked (net-same first worked start.net walk)
      (λ b below. sweep-fresh ws fresh.figures first marks (suc g) left (omega arith) start b (omega arith))

-- ---- the sum stored: an area stays fresh, and keeps its netlist, pattern and flips

module _ (ws : List ℕ) where
  pub same-with-sum : SameFrame ws (with_sum ws)
  unfolding with_sum
  same-with-sum = same-store-sum ws (flip_sum ws)

  kept_word : (i : ℕ) → i ≢ sum_low_index → i ≢ sum_high_index → get_or (with_sum ws) i 0 ≡ get_or ws i 0
  unfolding with_sum
  kept_word i low high = stored_other ws (flip_sum ws) i low high

  pub with-sum-net : (kinds chances : List ℕ) → net_of (with_sum ws) kinds chances ≡ net_of ws kinds chances
  with-sum-net kinds chances = frame-net ws (with_sum ws) kinds chances same-with-sum

  pub with-sum-pattern : pattern (with_sum ws) ≡ pattern ws
  with-sum-pattern = kept_word pattern_index (λ e. omega arith) (λ e. omega arith)

  pub with-sum-flip : (j : ℕ) → flip (with_sum ws) j ≡ flip ws j
  with-sum-flip j = kept_word (flip_index j) (λ e. omega arith) (λ e. omega arith)

  source-with-sum : (s : ℕ) → source_word (with_sum ws) s ≡ source_word ws s
  source-with-sum s =
      source-same ws (with_sum ws) (same_inputs ws (with_sum ws) same-with-sum) s
      (λ l. ap (λ (q : ℕ). q / 2 ^ s % 2) with-sum-pattern)
      (λ j e. kept_word (figure_index j) (λ q. omega arith) (λ q. omega arith))

  pub with-sum-fresh : NetSound ws → Fresh ws → Fresh (with_sum ws)
  with-sum-fresh net fresh =
      record {
        figures = λ j l.
            let inside : j < gates ws = omega (arith, same_gates ws (with_sum ws) same-with-sum) in
            kept_word (figure_index j) (λ e. omega arith) (λ e. omega arith)
            ∙ fresh.figures j inside
            ∙ sym (gate-figure-earlier ws (with_sum ws) net same-with-sum j inside (with-sum-flip j) (λ s k. source-with-sum s));
        product = kept_word reliability_index (λ e. omega arith) (λ e. omega arith)
            ∙ fresh.product
            ∙ sym (reliability-same ws (with_sum ws) net same-with-sum (λ s l. source-with-sum s));
      }

  pub with-sum-converted : (d : ℕ) (chances : List ℕ) → Converted d ws chances → Converted d (with_sum ws) chances
  with-sum-converted d chances converted =
      record { flips = λ j l. with-sum-flip j ∙ converted.flips j (omega (arith, same_gates ws (with_sum ws) same-with-sum)) }

-- ---- chances

-- the flips stay a netlist's chances in units; one that is set is the new chance in units
pub toggle-converted : (d : ℕ) (ws chances : List ℕ) (i : ℕ) → Converted d ws chances → Converted d (toggle_words ws i) chances
toggle-converted d ws chances i converted =
    record { flips = λ j l. toggle-flip ws i j ∙ converted.flips j (omega (arith, same_gates ws (toggle_words ws i) (same-toggle ws i))) }

pub set-converted : (d : ℕ) (ws chances : List ℕ) (g c : ℕ) → NetSound ws → g < gates ws → g < length chances → Converted d ws chances
    → Converted d (set_words ws g (to_units units_in_one d c)) (set chances g c)
set-converted d ws chances g c net small long converted =
    let units = to_units units_in_one d c in
    let after = set_words ws g units in
    record {
      flips =
          λ j l.
          by_cases (ℕ_discrete j g)
          (λ e.
          ap (flip after) e
          ∙ set_flip ws g units small net
          ∙ sym (ap (λ (t : ℕ). to_units units_in_one d (get_or (set chances g c) t 0)) e ∙ ap (to_units units_in_one d) (get_or-set_same chances g c 0 long)))
          (λ other.
          set-flip-other ws g units small j other
          ∙ converted.flips j (omega (arith, same_gates ws after (same_set ws g units small)))
          ∙ ap (to_units units_in_one d) (sym (get_or-set_other chances g j c 0 other)));
    }
