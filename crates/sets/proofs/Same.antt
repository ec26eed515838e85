-- Areas that differ in figures of later gates alone: the netlist, its shared gates and the figures of all sets are the same. Assumes nothing.
use Prim.Native.Nat.{ℕ, ◌+◌, ◌-◌, ◌*◌, ◌^◌, ◌≤◌, ◌<◌}
use mathlib.Core.Bool.{false}
use mathlib.Core.List.{List, [], ◌∷◌}
use mathlib.Core.Logic.{by_cases}
use mathlib.Core.Path.{◌≡◌, refl, sym, ap, ap₂, subst, ◌∙◌}
use native.Mathlib.Decide.{ℕ_discrete}
use native.Mathlib.Omega.{arith}
use lib.ListN.{length, get_or, set, length-set}
use lib.Seq.{get_or-set_same, get_or-set_other}
use Rattle.lists.specs.Lists.{sum_below, joined}
use Rattle.lists.proofs.Joined.{joined_same}
use Rattle.rounding.specs.Rounding.{units_in_one}
use Rattle.figure.specs.Figure.{bit_of}
use Rattle.netlist.specs.Netlist.{Netlist, input_values, right_values}
use Rattle.netlist.specs.Live.{readers}
use Rattle.suppose.specs.Suppose.{shared_from, shared_gates, seen, supposed_failures, shared_steps, supposed_figure, shared_reliability}
use Rattle.area.specs.Layout.{largest_figure, inputs, gates, pattern_index, pattern, flip_index, flip, figure_index, figure}
use Rattle.area.specs.Rules.{Workable}
use Rattle.area.specs.Net.{net_of}
use Rattle.plan.specs.Plan.{IsLive}
use Rattle.area.proofs.Words.{gate-inside}
use Rattle.work.proofs.Frame.{SameFrame, same_inputs, same_gates}
use Rattle.work.proofs.Sound.{workable-store-figure}
use Rattle.fresh.proofs.Calls.{frame-net}
use Rattle.sets.specs.Sets.{flip_words, units_net, shared_of, shared_to, set_of, own_failure, seen_failure, product_to, set_figure, shared_units}
use Rattle.sets.specs.Branches.{right_bit, SeenAs, WordsSeen, Marks, NextMarked, Stands, sum_begun, SameBefore}

module _ (ws marks vs : List ℕ) (b : ℕ) (same : SameBefore ws marks vs b) where
  pub frame : SameFrame ws vs
  frame = record { size = same.size; kept = λ i n. same.kept i (λ j from less mark. n.not_figure j less) }

  pub inputs-same : inputs vs ≡ inputs ws
  inputs-same = same_inputs ws vs frame

  pub gates-same : gates vs ≡ gates ws
  gates-same = same_gates ws vs frame

  pattern-same : pattern vs ≡ pattern ws
  pattern-same = same.kept pattern_index (λ j from less mark e. omega arith)

  flip-same : (j : ℕ) → flip vs j ≡ flip ws j
  flip-same j = same.kept (flip_index j) (λ k from less mark e. omega arith)

  pub earlier : (j : ℕ) → j < b → figure vs j ≡ figure ws j
  earlier j less = same.kept (figure_index j) (λ k from inside mark e. omega arith)

  flips-same : flip_words vs ≡ flip_words ws
  flips-same =
      ap (joined (λ (j : ℕ). flip vs j ∷ [])) gates-same
      ∙ joined_same (λ (j : ℕ). flip vs j ∷ []) (λ (j : ℕ). flip ws j ∷ []) (gates ws) (λ j l. ap (λ (x : ℕ). x ∷ []) (flip-same j))

  units-same : units_net vs ≡ units_net ws
  unfolding units_net
  units-same = ap (net_of vs []) flips-same ∙ frame-net ws vs [] (flip_words ws) frame

  pub shared_same : shared_of vs ≡ shared_of ws
  shared_same = ap shared_gates units-same

  pub readers-same : (s : ℕ) → readers (net_of vs [] []) s ≡ readers (net_of ws [] []) s
  readers-same s = ap (λ (net : Netlist). readers net s) (frame-net ws vs [] [] frame)

  pub to_same : (j : ℕ) → shared_to vs j ≡ shared_to ws j
  unfolding shared_to
  to_same j = ap₂ (λ (net : Netlist) (n : ℕ). shared_from (readers net) n j) (frame-net ws vs [] [] frame) inputs-same

  pub right-same : (s : ℕ) → right_bit vs s ≡ right_bit ws s
  right-same s = ap₂ (λ (net : Netlist) (q : ℕ). bit_of (get_or (right_values net q) s false)) units-same pattern-same

  own_same : (m s : ℕ) → own_failure vs m s ≡ own_failure ws m s
  unfolding own_failure
  own_same m s =
      ap₂ (λ (net : Netlist) (q : ℕ). get_or (supposed_failures units_in_one units_in_one net q (input_values (length (shared_gates net)) m)) s 0)
      units-same
      pattern-same

  pub seen_same : (m s : ℕ) → seen_failure vs m s ≡ seen_failure ws m s
  unfolding seen_failure
  seen_same m s =
      ap₂ (λ (net : Netlist) (f : ℕ). seen units_in_one (shared_gates net) (input_values (length (shared_gates net)) m) s f) units-same (own_same m s)

  pub product-same : (m j : ℕ) → product_to vs m j ≡ product_to ws m j
  unfolding product_to own_failure
  product-same m j =
      ap₂ (λ (net : Netlist) (q : ℕ).
      shared_steps
      units_in_one
      (λ s. get_or (supposed_failures units_in_one units_in_one net q (input_values (length (shared_gates net)) m)) s 0)
      units_in_one
      (shared_to vs j)
      (input_values (length (shared_gates net)) m)) units-same pattern-same
      ∙ ap (λ (ss : List ℕ). shared_steps units_in_one (own_failure ws m) units_in_one ss (set_of ws m)) (to_same j)

  pub sum-same-begun : (begun met : ℕ) → sum_begun vs begun met ≡ sum_begun ws begun met
  unfolding sum_begun set_figure
  sum-same-begun begun met =
      ap₂ (λ (net : Netlist) (q : ℕ).
      sum_below (2 ^ (length (shared_gates net) - met))
      (λ i. supposed_figure units_in_one units_in_one net q (input_values (length (shared_gates net)) (begun + 2 ^ met * i)))) units-same pattern-same

  pub answer-same : shared_units vs ≡ shared_units ws
  unfolding shared_units
  answer-same = ap₂ (shared_reliability units_in_one units_in_one) units-same pattern-same

  -- what was said of ws
  pub live_back : (s : ℕ) → IsLive vs s → IsLive ws s
  live_back s live = omega (arith, readers-same s, live)

  -- a word that readers of ws see is the one that those of vs see
  pub seen_as : (m j : ℕ) → figure vs j ≡ 2 * seen_failure ws m (inputs ws + j) + right_bit ws (inputs ws + j) → SeenAs vs m j
  seen_as m j is =
      is
      ∙ sym (ap₂ (λ (f r : ℕ). 2 * f + r) (seen_same m (inputs ws + j)) (right-same (inputs ws + j)))
      ∙ ap (λ (k : ℕ). 2 * seen_failure vs m (k + j) + right_bit vs (k + j)) (sym inputs-same)

  pub live-gate-back : (j : ℕ) → IsLive vs (inputs vs + j) → IsLive ws (inputs ws + j)
  live-gate-back j live = subst (λ (k : ℕ). IsLive ws (k + j)) inputs-same (live_back (inputs vs + j) live)

  pub words_same : (begun met : ℕ) → WordsSeen ws begun met b → WordsSeen vs begun met b
  words_same begun met seen m begins j less live = seen_as m j (earlier j less ∙ seen m begins j less (live-gate-back j live))

  pub marks-same : Marks ws marks → Marks vs marks
  marks-same known =
      let at : (j : ℕ) → inputs vs + j ≡ inputs ws + j = λ j. ap (λ (k : ℕ). k + j) inputs-same in
      record {
        shared =
            λ j less two.
            let there : 2 ≤ readers (net_of ws [] []) (inputs ws + j) = known.shared j (omega (arith, gates-same)) (rw (at j) at two) in
            rw (at j) (omega (arith, there, readers-same (inputs ws + j)));
        single =
            λ j less one.
            let there : readers (net_of ws [] []) (inputs ws + j) ≤ 1 = known.single j (omega (arith, gates-same)) (rw (at j) at one) in
            rw (at j) (omega (arith, there, readers-same (inputs ws + j)));
        held =
            λ j less zero live m.
            let none = rw (at j) at zero in
            seen_as m j
            (same.kept (figure_index j) (λ k from inside mark e. unmarked j k none mark e)
            ∙ known.held j (omega (arith, gates-same)) none (live-gate-back j live) m);
      }
    where
      unmarked : (j k : ℕ) → get_or marks (inputs ws + j) 0 ≡ 0 → 0 < get_or marks (inputs ws + k) 0 → figure_index j ≡ figure_index k → ⊥
      unmarked j k none mark e =
          let one : j ≡ k = omega arith in
          let there : get_or marks (inputs ws + k) 0 ≡ 0 = subst (λ (i : ℕ). get_or marks (inputs ws + i) 0 ≡ 0) one none in
          omega arith

  pub next-same : (next : List ℕ) → NextMarked marks next (inputs ws) (gates ws) 0 → NextMarked marks next (inputs vs) (gates vs) 0
  next-same next known = rw (inputs-same, gates-same) known

  pub stands_same : (begun met product : ℕ) → Stands ws begun met b product → Stands vs begun met b product
  stands_same begun met product stands =
      record {
        number = stands.number ∙ ap length (sym (to_same b));
        small = stands.small;
        products = λ m begins. stands.products m begins ∙ sym (product-same m b);
        words = words_same begun met stands.words;
      }

pub same_none : (ws marks : List ℕ) (b : ℕ) → Workable ws → SameBefore ws marks ws b
same_none ws marks b workable = record { size = refl; kept = λ i other. refl; workable = workable }

pub same_then : (ws marks vs us : List ℕ) (b c : ℕ) → b ≤ c → SameBefore ws marks vs b → SameBefore vs marks us c → SameBefore ws marks us b
same_then ws marks vs us b c later first second =
    record {
      size = second.size ∙ first.size;
      kept =
          λ i other.
          second.kept i (λ j from less mark.
          other j (omega arith) (omega (arith, gates-same ws marks vs b first))
          (subst (λ (n : ℕ). 0 < get_or marks (n + j) 0) (inputs-same ws marks vs b first) mark))
          ∙ first.kept i other;
      workable = second.workable;
    }

-- the figure of a marked gate is stored
pub same-stored : (ws marks : List ℕ) (b g v : ℕ) → Workable ws → b ≤ g → g < gates ws → 0 < get_or marks (inputs ws + g) 0 → v ≤ largest_figure
    → SameBefore ws marks (set ws (figure_index g) v) b
same-stored ws marks b g v workable later inside mark fits =
    record {
      size = length-set ws (figure_index g) v;
      kept = λ i other. get_or-set_other ws (figure_index g) i v 0 (other g later inside mark);
      workable = workable-store-figure ws workable g v inside fits;
    }

-- a figure stored twice over one area, with later gates worked out after the first
pub same-restored : (ws marks vs : List ℕ) (g v w : ℕ) → g < gates ws → w ≤ largest_figure → SameBefore (set ws (figure_index g) v) marks vs (g + 1)
    → SameBefore (set ws (figure_index g) w) marks (set vs (figure_index g) w) (g + 1)
same-restored ws marks vs g v w inside fits same =
    let k = figure_index g in
    let head : (x i : ℕ) → i < 8 → get_or (set ws k x) i 0 ≡ get_or ws i 0 = λ x i l. get_or-set_other ws k i x 0 (λ e. omega arith) in
    let there : g < gates vs = omega (arith, gates-same (set ws k v) marks vs (g + 1) same, head v 1 (omega arith)) in
    record {
      size = length-set vs k w ∙ same.size ∙ length-set ws k v ∙ sym (length-set ws k w);
      kept =
          λ i other.
          by_cases (ℕ_discrete i k)
          (λ e.
          subst (λ (x : ℕ). get_or (set vs k w) x 0 ≡ get_or (set ws k w) x 0) (sym e)
          (get_or-set_same vs k w 0 (gate-inside vs same.workable.net g there)
          ∙ sym (get_or-set_same ws k w 0 (omega (arith, same.size, length-set ws k v, gate-inside vs same.workable.net g there)))))
          (λ elsewhere.
          get_or-set_other vs k i w 0 elsewhere
          ∙ same.kept i (λ j from less mark.
          other j from (omega (arith, head v 1 (omega arith), head w 1 (omega arith)))
          (subst (λ (n : ℕ). 0 < get_or marks (n + j) 0) (head v 0 (omega arith) ∙ sym (head w 0 (omega arith))) mark))
          ∙ get_or-set_other ws k i v 0 elsewhere
          ∙ sym (get_or-set_other ws k i w 0 elsewhere));
      workable = workable-store-figure vs same.workable g w there fits;
    }
