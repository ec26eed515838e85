-- What working out and storing leave as it was: the length, and every word but those worked out or stored. Assumes nothing.
use Prim.Native.Nat.{ℕ, zero, suc, ◌+◌, ◌-◌, ◌≤◌, ◌<◌}
use mathlib.Core.Bool.{Bool, true, false}
use mathlib.Core.List.{List}
use mathlib.Core.Logic.{◌≢◌}
use mathlib.Core.Path.{◌≡◌, refl, sym, ap₂, subst, ◌∙◌}
use native.Mathlib.Omega.{arith}
use lib.ListN.{length, get_or, set, take, drop, length-set, length-take, length-drop}
use lib.Seq.{get_or-set_same, get_or-set_other, ext_get_or}
use Rattle.lists.proofs.Parts.{part_at}
use Rattle.area.specs.Layout.{inputs, gates, outputs, pattern_index, pattern, reliability_index, reliability_word, sum_low_index, sum_high_index, reserved_word}
use Rattle.area.specs.Layout.{gate_index, pin_count, table, pins_index, pins, flip_index, flip, figure_index, figure, used_pins, outputs_index, output_words, needed}
use Rattle.area.specs.Sum.{stored_sum}
use Rattle.area.proofs.Words.{pin_at}
use Rattle.area.proofs.Net.{SameNet}
use Rattle.area.proofs.Sum.{stored-length, stored_other}
use Rattle.work.specs.Work.{gate_figure, work_gate, work_gates, reliability_now, work_reliability, work_all, reads_marked, work_if, mark_if, work_marked}
use Rattle.work.specs.Work.{mark_of, invert_bit, toggle_words, set_words}

-- vs has the length of ws, and the words of ws wherever P holds
pub record Keeps (P : ℕ → Type 0) (ws vs : List ℕ) : Type 0 where
  pub size : length vs ≡ length ws
  pub kept : (i : ℕ) → P i → get_or vs i 0 ≡ get_or ws i 0

pub keeps-all : {P : ℕ → Type 0} {ws : List ℕ} → Keeps P ws ws
keeps-all = record { size = refl; kept = λ i p. refl }

pub keeps_then : {P : ℕ → Type 0} {ws vs us : List ℕ} → Keeps P ws vs → Keeps P vs us → Keeps P ws us
keeps_then a b = record { size = b.size ∙ a.size; kept = λ i p. b.kept i p ∙ a.kept i p }

pub keeps_fewer : {P Q : ℕ → Type 0} {ws vs : List ℕ} → ((i : ℕ) → Q i → P i) → Keeps P ws vs → Keeps Q ws vs
keeps_fewer f a = record { size = a.size; kept = λ i q. a.kept i (f i q) }

-- ---- one step: a word stored, a gate or the reliability worked out

pub store_kept : (ws : List ℕ) (k v : ℕ) → Keeps (λ i. i ≢ k) ws (set ws k v)
store_kept ws k v = record { size = length-set ws k v; kept = λ i h. get_or-set_other ws k i v 0 h }

pub work-gate-kept : (ws : List ℕ) (j : ℕ) → Keeps (λ i. i ≢ figure_index j) ws (work_gate ws j)
unfolding work_gate
work-gate-kept ws j = store_kept ws (figure_index j) (gate_figure ws j)

pub work-gate-same : (ws : List ℕ) (j : ℕ) → figure_index j < length ws → figure (work_gate ws j) j ≡ gate_figure ws j
unfolding work_gate
work-gate-same ws j h = get_or-set_same ws (figure_index j) (gate_figure ws j) 0 h

pub work-if-kept : (m : Bool) (ws : List ℕ) (j : ℕ) → Keeps (λ i. i ≢ figure_index j) ws (work_if m ws j)
work-if-kept true ws j = work-gate-kept ws j
work-if-kept false ws j = keeps-all

pub work-reliability-kept : (ws : List ℕ) → Keeps (λ i. i ≢ reliability_index) ws (work_reliability ws)
unfolding work_reliability
work-reliability-kept ws = store_kept ws reliability_index (reliability_now ws)

pub work-reliability-same : (ws : List ℕ) → reliability_index < length ws → reliability_word (work_reliability ws) ≡ reliability_now ws
unfolding work_reliability
work-reliability-same ws h = get_or-set_same ws reliability_index (reliability_now ws) 0 h

-- ---- the k gates from j on in order, each worked out or passed over: every loop over the gates is such a walk

pub data Walk : ℕ → ℕ → List ℕ → List ℕ → Type 0 where
  end : {j : ℕ} {ws : List ℕ} → Walk j 0 ws ws
  next : {j k : ℕ} {ws vs : List ℕ} (m : Bool) → Walk (suc j) k (work_if m ws j) vs → Walk j (suc k) ws vs

pub gates-walk : (ws : List ℕ) (j k : ℕ) → Walk j k ws (work_gates ws j k)
gates-walk ws j zero = end
gates-walk ws j (suc k) = next true (gates-walk (work_gate ws j) (suc j) k)

pub marked-walk : (ws marks : List ℕ) (j k : ℕ) → Walk j k ws (work_marked ws marks j k)
marked-walk ws marks j zero = end
marked-walk ws marks j (suc k) =
    let m = reads_marked marks (used_pins ws j) in
    next m (marked-walk (work_if m ws j) (mark_if m marks (inputs ws + j)) (suc j) k)

-- word i is no figure of the k gates from j on
abbrev pub NoFigure : ℕ → ℕ → ℕ → Type 0
NoFigure j k i = (l : ℕ) → j ≤ l → l < j + k → i ≢ figure_index l

pub walk_kept : {j k : ℕ} {ws vs : List ℕ} → Walk j k ws vs → Keeps (NoFigure j k) ws vs
walk_kept end = keeps-all
walk_kept {j = j} {ws = ws} (next m walk) =
    keeps_then
    (keeps_fewer (λ i h. h j (omega arith) (omega arith)) (work-if-kept m ws j))
    (keeps_fewer (λ i h l from to. h l (omega arith) (omega arith)) (walk_kept walk))

-- ---- the calls: a word stored or none, a walk, then the reliability

pub record Unworked (j k i : ℕ) : Type 0 where
  pub not_reliability : i ≢ reliability_index
  pub no_figure : NoFigure j k i

pub worked_kept : {j k : ℕ} {ws vs : List ℕ} → Walk j k ws vs → Keeps (Unworked j k) ws (work_reliability vs)
worked_kept {vs = vs} walk =
    keeps_then (keeps_fewer (λ i u. u.no_figure) (walk_kept walk)) (keeps_fewer (λ i u. u.not_reliability) (work-reliability-kept vs))

-- and so with a word stored before
stored-kept : (ws : List ℕ) (at v : ℕ) {j k : ℕ} {vs : List ℕ} → Walk j k (set ws at v) vs → Keeps (λ i. (i ≢ at) × Unworked j k i) ws (work_reliability vs)
stored-kept ws at v walk = keeps_then (keeps_fewer (λ i u. u.0) (store_kept ws at v)) (keeps_fewer (λ i u. u.1) (worked_kept walk))

pub work-all-kept : (ws : List ℕ) → Keeps (Unworked 0 (gates ws)) ws (work_all ws)
unfolding work_all
work-all-kept ws = worked_kept (gates-walk ws 0 (gates ws))

pub toggle-kept : (ws : List ℕ) (i : ℕ) → Keeps (λ k. (k ≢ pattern_index) × Unworked 0 (gates ws) k) ws (toggle_words ws i)
unfolding toggle_words
toggle-kept ws i =
    let q = invert_bit (pattern ws) i in
    stored-kept ws pattern_index q (marked-walk (set ws pattern_index q) (mark_of i) 0 (gates ws))

-- the gate whose flip is set is the first of the walk
pub set_walk : (ws : List ℕ) (g units : ℕ)
    → Walk g (suc (gates ws - suc g)) (set ws (flip_index g) units)
    (work_marked (work_gate (set ws (flip_index g) units) g) (mark_of (inputs ws + g)) (suc g) (gates ws - suc g))
set_walk ws g units = next true (marked-walk (work_gate (set ws (flip_index g) units) g) (mark_of (inputs ws + g)) (suc g) (gates ws - suc g))

pub set-kept : (ws : List ℕ) (g units : ℕ) → Keeps (λ k. (k ≢ flip_index g) × Unworked g (suc (gates ws - suc g)) k) ws (set_words ws g units)
unfolding set_words
set-kept ws g units = stored-kept ws (flip_index g) units (set_walk ws g units)

-- ---- areas that differ only in pattern, reliability, raw flip sum, flips and figures

-- word i is of the netlist of g gates, or lies past it: not the pattern, nor the reliability, nor of the sum, nor a flip or figure of a gate
pub record FrameWord (g i : ℕ) : Type 0 where
  pub not_pattern : i ≢ pattern_index
  pub not_reliability : i ≢ reliability_index
  pub not_low : i ≢ sum_low_index
  pub not_high : i ≢ sum_high_index
  pub not_flip : (j : ℕ) → j < g → i ≢ flip_index j
  pub not_figure : (j : ℕ) → j < g → i ≢ figure_index j

-- vs has the netlist of ws, and what lies past it
abbrev pub SameFrame : List ℕ → List ℕ → Type 0
SameFrame ws vs = Keeps (FrameWord (gates ws)) ws vs

-- the counts, the reserved word, a gate's words up to its flip, and those past the gates are of the netlist
pub counts-frame : (g i : ℕ) → i < pattern_index → FrameWord g i
counts-frame g i l =
    record {
      not_pattern = λ e. omega arith;
      not_reliability = λ e. omega arith;
      not_low = λ e. omega arith;
      not_high = λ e. omega arith;
      not_flip = λ j s e. omega arith;
      not_figure = λ j s e. omega arith;
    }

pub later-frame : (g i : ℕ) → sum_high_index < i → ((j : ℕ) → j < g → i ≢ flip_index j) → ((j : ℕ) → j < g → i ≢ figure_index j) → FrameWord g i
later-frame g i l flips figures =
    record {
      not_pattern = λ e. omega arith;
      not_reliability = λ e. omega arith;
      not_low = λ e. omega arith;
      not_high = λ e. omega arith;
      not_flip = flips;
      not_figure = figures;
    }

pub reserved-frame : (g : ℕ) → FrameWord g 7
reserved-frame g = later-frame g 7 (omega arith) (λ k s e. omega arith) (λ k s e. omega arith)

pub gate-frame : (g j i : ℕ) → gate_index j ≤ i → i < flip_index j → FrameWord g i
gate-frame g j i from to = later-frame g i (omega arith) (λ k s e. omega arith) (λ k s e. omega arith)

pub past-frame : (g i : ℕ) → outputs_index g ≤ i → FrameWord g i
past-frame g i l = later-frame g i (omega arith) (λ k s e. omega arith) (λ k s e. omega arith)

-- the parts of two lists that agree there
part_same : (ws vs : List ℕ) (a n : ℕ) → length vs ≡ length ws → ((i : ℕ) → i < n → get_or vs (a + i) 0 ≡ get_or ws (a + i) 0)
    → take n (drop a vs) ≡ take n (drop a ws)
part_same ws vs a n e h =
    ext_get_or 0 (take n (drop a vs)) (take n (drop a ws))
    (simp (length-take, length-drop, e))
    (λ i l.
    let small : i < n = omega (arith, length-take n (drop a vs)) in
    part_at vs a n i small ∙ h i small ∙ sym (part_at ws a n i small))

module _ (ws vs : List ℕ) (same : SameFrame ws vs) where
  pub same_inputs : inputs vs ≡ inputs ws
  same_inputs = same.kept _ (counts-frame (gates ws) _ (omega arith))

  pub same_gates : gates vs ≡ gates ws
  same_gates = same.kept _ (counts-frame (gates ws) _ (omega arith))

  pub same_outputs : outputs vs ≡ outputs ws
  same_outputs = same.kept _ (counts-frame (gates ws) _ (omega arith))

  gate-word : (j i : ℕ) → gate_index j ≤ i → i < flip_index j → get_or vs i 0 ≡ get_or ws i 0
  gate-word j i from to = same.kept i (gate-frame (gates ws) j i from to)

  pub same-pin-count : (j : ℕ) → pin_count vs j ≡ pin_count ws j
  same-pin-count j = gate-word j _ (omega arith) (omega arith)

  pub same_table : (j : ℕ) → table vs j ≡ table ws j
  same_table j = gate-word j _ (omega arith) (omega arith)

  pub same_pins : (j : ℕ) → pins vs j ≡ pins ws j
  same_pins j =
      ext_get_or 0 (pins vs j) (pins ws j) refl
      (λ i l. sym (pin_at vs j i l) ∙ gate-word j (pins_index j + i) (omega arith) (omega arith) ∙ pin_at ws j i l)

  pub same-used-pins : (j : ℕ) → used_pins vs j ≡ used_pins ws j
  same-used-pins j = ap₂ take (same-pin-count j) (same_pins j)

  pub same-output-words : output_words vs ≡ output_words ws
  same-output-words =
      ap₂ (λ (k g : ℕ). take k (drop (outputs_index g) vs)) same_outputs same_gates
      ∙ part_same ws vs (outputs_index (gates ws)) (outputs ws) same.size
      (λ i l. same.kept (outputs_index (gates ws) + i) (past-frame (gates ws) _ (omega arith)))

  pub same-reserved : reserved_word vs ≡ reserved_word ws
  same-reserved = same.kept _ (reserved-frame (gates ws))

  pub frame-same-net : SameNet vs ws
  frame-same-net =
      record {
        same_inputs = same_inputs;
        same_gates = same_gates;
        same_pins = λ j l. same-used-pins j;
        same_table = λ j l. same_table j;
        same_outputs = same-output-words;
      }

  -- the words past those needed
  pub past-kept : (i : ℕ) → needed (gates ws) (outputs ws) ≤ i → get_or vs i 0 ≡ get_or ws i 0
  past-kept i l = same.kept i (past-frame (gates ws) i (omega arith))

  pub same-sym : SameFrame vs ws
  same-sym = record { size = sym same.size; kept = λ i n. sym (same.kept i (subst (λ (g : ℕ). FrameWord g i) same_gates n)) }

pub same_refl : (ws : List ℕ) → SameFrame ws ws
same_refl ws = keeps-all

pub same-trans : (ws vs us : List ℕ) → SameFrame ws vs → SameFrame vs us → SameFrame ws us
same-trans ws vs us p q = keeps_then p (keeps_fewer (λ i. subst (λ (g : ℕ). FrameWord g i) (sym (same_gates ws vs p))) q)

-- each step and each call leaves the frame
pub same-store-pattern : (ws : List ℕ) (q : ℕ) → SameFrame ws (set ws pattern_index q)
same-store-pattern ws q = keeps_fewer (λ i n. n.not_pattern) (store_kept ws pattern_index q)

pub same-store-flip : (ws : List ℕ) (g units : ℕ) → g < gates ws → SameFrame ws (set ws (flip_index g) units)
same-store-flip ws g units l = keeps_fewer (λ i n. n.not_flip g l) (store_kept ws (flip_index g) units)

pub same-store-sum : (ws : List ℕ) (sum : ℕ) → SameFrame ws (stored_sum ws sum)
same-store-sum ws sum = record { size = stored-length ws sum; kept = λ i n. stored_other ws sum i n.not_low n.not_high }

pub same-store-figure : (ws : List ℕ) (j v : ℕ) → j < gates ws → SameFrame ws (set ws (figure_index j) v)
same-store-figure ws j v l = keeps_fewer (λ i n. n.not_figure j l) (store_kept ws (figure_index j) v)

pub same-work-gate : (ws : List ℕ) (j : ℕ) → j < gates ws → SameFrame ws (work_gate ws j)
same-work-gate ws j l = keeps_fewer (λ i n. n.not_figure j l) (work-gate-kept ws j)

pub same-work-if : (m : Bool) (ws : List ℕ) (j : ℕ) → j < gates ws → SameFrame ws (work_if m ws j)
same-work-if m ws j l = keeps_fewer (λ i n. n.not_figure j l) (work-if-kept m ws j)

pub same-walk : {j k : ℕ} {ws vs : List ℕ} → Walk j k ws vs → j + k ≤ gates ws → SameFrame ws vs
same-walk walk l = keeps_fewer (λ i n m from to. n.not_figure m (omega arith)) (walk_kept walk)

pub same-work-reliability : (ws : List ℕ) → SameFrame ws (work_reliability ws)
same-work-reliability ws = keeps_fewer (λ i n. n.not_reliability) (work-reliability-kept ws)

frame-unworked : {g j k i : ℕ} → j + k ≤ g → FrameWord g i → Unworked j k i
frame-unworked l n = record { not_reliability = n.not_reliability; no_figure = λ m from to. n.not_figure m (omega arith) }

pub same-work-all : (ws : List ℕ) → SameFrame ws (work_all ws)
same-work-all ws = keeps_fewer (λ i n. frame-unworked (omega arith) n) (work-all-kept ws)

pub same-toggle : (ws : List ℕ) (i : ℕ) → SameFrame ws (toggle_words ws i)
same-toggle ws i = keeps_fewer (λ k n. (n.not_pattern, frame-unworked (omega arith) n)) (toggle-kept ws i)

pub same_set : (ws : List ℕ) (g units : ℕ) → g < gates ws → SameFrame ws (set_words ws g units)
same_set ws g units l = keeps_fewer (λ k n. (n.not_flip g l, frame-unworked (omega arith) n)) (set-kept ws g units)

-- ---- the pattern, the sum and the flips are not worked out

pub pattern-unworked : (j k : ℕ) → Unworked j k pattern_index
pattern-unworked j k = record { not_reliability = λ e. omega arith; no_figure = λ l from to e. omega arith }

pub flip-unworked : (j k l : ℕ) → Unworked j k (flip_index l)
flip-unworked j k l = record { not_reliability = λ e. omega arith; no_figure = λ m from to e. omega arith }

pub low-unworked : (j k : ℕ) → Unworked j k sum_low_index
low-unworked j k = record { not_reliability = λ e. omega arith; no_figure = λ l from to e. omega arith }

pub high-unworked : (j k : ℕ) → Unworked j k sum_high_index
high-unworked j k = record { not_reliability = λ e. omega arith; no_figure = λ l from to e. omega arith }

pub work-all-pattern : (ws : List ℕ) → pattern (work_all ws) ≡ pattern ws
work-all-pattern ws = (work-all-kept ws).kept pattern_index (pattern-unworked 0 (gates ws))

pub work-all-flip : (ws : List ℕ) (j : ℕ) → flip (work_all ws) j ≡ flip ws j
work-all-flip ws j = (work-all-kept ws).kept (flip_index j) (flip-unworked 0 (gates ws) j)
