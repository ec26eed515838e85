-- Laws of the netlist that words hold: its gates, its well-formedness, what does not depend on kinds and chances, and which words hold the same one.
-- Assumes nothing.
use Prim.Native.Nat.{ℕ, zero, suc, ◌+◌, ◌≤◌, ◌<◌}
use mathlib.Core.Bool.{Bool, not}
use mathlib.Core.List.{List, [], ◌∷◌, ◌++◌}
use mathlib.Core.Path.{◌≡◌, refl, sym, ap, ap₂, subst, fun_ext, ◌∙◌}
use native.Mathlib.Nat.{add-zero, zero-add}
use native.Mathlib.Omega.{arith}
use lib.ListN.{length, get_or}
use Rattle.figure.specs.Figure.{invert_if, answer}
use Rattle.netlist.specs.declared.Method.TheVariants.{Flip}
use Rattle.netlist.specs.Netlist.{no_gate, gate_at, input_values, pin_values, first_flip, other_flips, values, right_values}
use Rattle.netlist.specs.WellFormed.{PinsBelow, WellFormed}
use Rattle.netlist.specs.Exact.{outputs_agree}
use Rattle.netlist.specs.Seen.{alone, flip_seen, seen_counts}
use Rattle.lists.specs.Lists.{count, joined, count_where}
use Rattle.netlist.specs.Live.{with_gate, live_reads_from, live_reads, readers, live_among, live_gates, SingleReaders}
use Rattle.area.specs.Layout.{inputs, gates, table, used_pins, output_words}
use Rattle.area.specs.Rules.{NetSound}
use Rattle.area.specs.Net.{gate_of, gates_from, net_of}
use Rattle.area.proofs.Words.{used-below, output-below}

module _ (ws kinds chances : List ℕ) where
  pub length-gates : (j k : ℕ) → length (gates_from ws kinds chances j k) ≡ k
  length-gates j zero = refl
  length-gates j (suc k) = ap suc (length-gates (suc j) k)

  pub gate-from : (i k j : ℕ) → j < k → get_or (gates_from ws kinds chances i k) j no_gate ≡ gate_of ws kinds chances (i + j)
  gate-from i zero j l = absurd (omega arith)
  gate-from i (suc k) zero l = ap (gate_of ws kinds chances) (sym (add-zero i))
  gate-from i (suc k) (suc j) l = gate-from (suc i) k j (omega arith) ∙ ap (gate_of ws kinds chances) (omega arith)

  pub gate-at : (j : ℕ) → j < gates ws → gate_at (net_of ws kinds chances) j ≡ gate_of ws kinds chances j
  gate-at j l = gate-from 0 (gates ws) j l ∙ ap (gate_of ws kinds chances) (zero-add j)

  pub gate_count : length (net_of ws kinds chances).gates ≡ gates ws
  gate_count = length-gates 0 (gates ws)

-- what passes is well-formed as a netlist
pub sound-pins : (ws kinds chances : List ℕ) → NetSound ws → PinsBelow (net_of ws kinds chances)
sound-pins ws kinds chances sound j l =
    let inside : j < gates ws = omega (arith, gate_count ws kinds chances) in
    rw (gate-at ws kinds chances j inside) (used-below ws sound j inside)

pub sound-net : (d : ℕ) (ws kinds chances : List ℕ) → NetSound ws → ((j : ℕ) → j < gates ws → get_or chances j 0 ≤ d)
    → WellFormed d (net_of ws kinds chances)
sound-net d ws kinds chances sound fit =
    record {
      pins_below = sound-pins ws kinds chances sound;
      chances = λ j l.
          let inside : j < gates ws = omega (arith, gate_count ws kinds chances) in
          rw (gate-at ws kinds chances j inside) (fit j inside);
      outputs_below = rw (gate_count ws kinds chances) (output-below ws sound);
    }

-- who reads whom is in the pins and outputs alone: for any two choices of kinds and chances it is the same
reads-from-same : (ws ks cs ls ds outs : List ℕ) (s j k : ℕ)
    → live_reads_from outs s (gates_from ws ks cs j k) ≡ live_reads_from outs s (gates_from ws ls ds j k)
reads-from-same ws ks cs ls ds outs s j zero = refl
reads-from-same ws ks cs ls ds outs s j (suc k) = ap (with_gate s (used_pins ws j)) (reads-from-same ws ks cs ls ds outs (suc s) (suc j) k)

-- and the values under flips are in the pins and tables alone
values-from-same : (ws ks cs ls ds : List ℕ) (j k : ℕ) (flips vs : List Bool)
    → values (gates_from ws ks cs j k) flips vs ≡ values (gates_from ws ls ds j k) flips vs
values-from-same ws ks cs ls ds j zero flips vs = refl
values-from-same ws ks cs ls ds j (suc k) flips vs =
    values-from-same ws ks cs ls ds (suc j) k (other_flips flips)
    (vs ++ (invert_if (first_flip flips) (answer (table ws j) (pin_values vs (used_pins ws j))) ∷ []))

module _ (ws ks cs ls ds : List ℕ) where
  pub same_reads : live_reads (net_of ws ks cs) ≡ live_reads (net_of ws ls ds)
  unfolding live_reads
  same_reads = reads-from-same ws ks cs ls ds (output_words ws) (inputs ws) 0 (gates ws)

  pub same-readers : (s : ℕ) → readers (net_of ws ks cs) s ≡ readers (net_of ws ls ds) s
  unfolding readers
  same-readers s = ap (count s) same_reads

  pub same-right-values : (q : ℕ) → right_values (net_of ws ks cs) q ≡ right_values (net_of ws ls ds) q
  unfolding right_values
  same-right-values q = values-from-same ws ks cs ls ds 0 (gates ws) [] (input_values (inputs ws) q)

  pub same-gate-count : length (net_of ws ks cs).gates ≡ length (net_of ws ls ds).gates
  same-gate-count = gate_count ws ks cs ∙ sym (gate_count ws ls ds)

  pub same-live-gates : live_gates (net_of ws ks cs) ≡ live_gates (net_of ws ls ds)
  unfolding live_gates
  same-live-gates = ap₂ (λ (rs : List ℕ) (k : ℕ). live_among rs (inputs ws) k) same_reads same-gate-count

  pub same-single-readers : SingleReaders (net_of ws ks cs) → SingleReaders (net_of ws ls ds)
  unfolding SingleReaders
  same-single-readers single j l = omega (arith, single j (omega (arith, same-gate-count)), same-readers (inputs ws + j))

  pub same-flip-counts : (patterns : List ℕ) → seen_counts Flip (net_of ws ks cs) patterns ≡ seen_counts Flip (net_of ws ls ds) patterns
  unfolding seen_counts flip_seen right_values
  same-flip-counts patterns =
      ap₂
      (λ (under : List Bool → List Bool → List Bool) (k : ℕ).
      joined (λ (j : ℕ).
      count_where (λ q.
      not (outputs_agree (output_words ws) (under (alone j) (input_values (inputs ws) q)) (under [] (input_values (inputs ws) q)))) patterns
      ∷ []) k)
      (fun_ext (λ flips. fun_ext (values-from-same ws ks cs ls ds 0 (gates ws) flips)))
      same-gate-count

-- words with the same counts, used pins, tables and outputs hold the same netlist
pub record SameNet (vs ws : List ℕ) : Type 0 where
  pub same_inputs : inputs vs ≡ inputs ws
  pub same_gates : gates vs ≡ gates ws
  pub same_pins : (j : ℕ) → j < gates ws → used_pins vs j ≡ used_pins ws j
  pub same_table : (j : ℕ) → j < gates ws → table vs j ≡ table ws j
  pub same_outputs : output_words vs ≡ output_words ws

gates-from-same : (vs ws kinds chances : List ℕ) (j k : ℕ)
    → ((i : ℕ) → i < k → gate_of vs kinds chances (j + i) ≡ gate_of ws kinds chances (j + i))
    → gates_from vs kinds chances j k ≡ gates_from ws kinds chances j k
gates-from-same vs ws kinds chances j zero h = refl
gates-from-same vs ws kinds chances j (suc k) h =
    ap₂
    ◌∷◌
    (subst (λ (i : ℕ). gate_of vs kinds chances i ≡ gate_of ws kinds chances i) (add-zero j) (h 0 (omega arith)))
    (gates-from-same vs ws kinds chances (suc j) k (λ i l.
    subst (λ (n : ℕ). gate_of vs kinds chances n ≡ gate_of ws kinds chances n) (omega arith) (h (suc i) (omega arith))))

pub same-net : (vs ws kinds chances : List ℕ) → SameNet vs ws → net_of vs kinds chances ≡ net_of ws kinds chances
same-net vs ws kinds chances same =
    let gs : gates_from vs kinds chances 0 (gates ws) ≡ gates_from ws kinds chances 0 (gates ws)
    = gates-from-same vs ws kinds chances 0 (gates ws) (λ i l.
    rw (zero-add i) (rw (same.same_pins i l, same.same_table i l))) in
    rw (same.same_outputs, same.same_gates, same.same_inputs, gs)
