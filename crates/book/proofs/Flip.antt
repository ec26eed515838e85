-- Setting a flip in the words sets it in the netlist that they hold: that gate's kind and chance, and nothing else. Assumes nothing.
use Prim.Native.Nat.{ℕ, ◌≤◌, ◌<◌}
use mathlib.Core.List.{List}
use mathlib.Core.Logic.{◌≢◌, by_cases}
use mathlib.Core.Path.{◌≡◌, sym, ap, ap₂, subst, ◌∙◌}
use native.Mathlib.Decide.{ℕ_discrete}
use native.Mathlib.Omega.{arith}
use lib.ListN.{length, get_or, set, length-set}
use lib.Seq.{ext_get_or, get_or-set_same, get_or-set_other}
use Rattle.netlist.specs.Netlist.{Gate, no_gate, gate_at}
use Rattle.area.specs.Layout.{inputs, gates, output_words}
use Rattle.area.specs.Net.{gate_of, net_of}
use Rattle.area.proofs.Net.{gate_count, gate-at}
use Rattle.book.specs.Book.{reflipped, with_flip}

module _ (ws kinds chances : List ℕ) (g kind chance : ℕ) (small : g < gates ws) (kind_each : gates ws ≤ length kinds)
    (chance_each : gates ws ≤ length chances) where
  gate-named : gate_of ws (set kinds g kind) (set chances g chance) g ≡ reflipped (gate_at (net_of ws kinds chances) g) kind chance
  gate-named =
      ap₂ (reflipped (gate_of ws kinds chances g)) (get_or-set_same kinds g kind 0 (omega arith)) (get_or-set_same chances g chance 0 (omega arith))
      ∙ ap (λ (gate : Gate). reflipped gate kind chance) (sym (gate-at ws kinds chances g small))

  gate-other : (j : ℕ) → j ≢ g → gate_of ws (set kinds g kind) (set chances g chance) j ≡ gate_of ws kinds chances j
  gate-other j other =
      ap₂ (reflipped (gate_of ws kinds chances j)) (get_or-set_other kinds g j kind 0 other) (get_or-set_other chances g j chance 0 other)

  pub flip-net : net_of ws (set kinds g kind) (set chances g chance) ≡ with_flip (net_of ws kinds chances) g kind chance
  unfolding with_flip
  flip-net =
      let net = net_of ws kinds chances in
      let changed : Gate = reflipped (gate_at net g) kind chance in
      let old = net.gates in
      let new = (net_of ws (set kinds g kind) (set chances g chance)).gates in
      let count = gate_count ws kinds chances in
      let new-count = gate_count ws (set kinds g kind) (set chances g chance) in
      let new_at = gate-at ws (set kinds g kind) (set chances g chance) in
      let same : new ≡ set old g changed
      = ext_get_or no_gate new (set old g changed)
      (new-count ∙ sym (length-set old g changed ∙ count))
      (λ j l.
      let inside : j < gates ws = omega arith in
      by_cases (ℕ_discrete j g)
      (λ e.
      subst (λ (t : ℕ). get_or new t no_gate ≡ get_or (set old g changed) t no_gate) (sym e)
      (new_at g small ∙ gate-named ∙ sym (get_or-set_same old g changed no_gate (omega arith))))
      (λ other.
      new_at j inside ∙ gate-other j other ∙ sym (get_or-set_other old g j changed no_gate other ∙ gate-at ws kinds chances j inside))) in
      ap (λ (gs : List Gate). record { inputs = inputs ws; gates = gs; outputs = output_words ws }) same
