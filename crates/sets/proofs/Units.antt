-- The flips of an area for chances, U of them in one, or the chances that they were converted from: the shared reliability is the same. Assumes nothing.
use Prim.Native.Nat.{ℕ, zero, suc, ◌+◌, ◌<◌}
use mathlib.Core.Bool.{Bool}
use mathlib.Core.List.{List, [], ◌∷◌, ◌++◌, map}
use mathlib.Core.Path.{◌≡◌, refl, ap, ap₂, fun_ext, ◌∙◌}
use native.Mathlib.Omega.{arith}
use lib.ListN.{length, get_or, replicate}
use Rattle.lists.proofs.Joined.{listed_at}
use Rattle.rounding.specs.Rounding.{units_in_one, to_units}
use Rattle.rounding.proofs.Laws.{exact}
use Rattle.figure.specs.Figure.{gate_failure}
use Rattle.netlist.specs.Netlist.{pin_values, right_values}
use Rattle.netlist.specs.Exact.{sum_over_flips}
use Rattle.suppose.specs.Suppose.{shared_from, shared_gates, seen, supposed_from, supposed_failures}
use Rattle.suppose.specs.Suppose.{shared_steps, output_steps, supposed_figure, at_most, shared_reliability}
use Rattle.area.specs.Layout.{inputs, gates, pattern, table, flip, used_pins, output_words}
use Rattle.area.specs.Net.{gates_from, net_of}
use Rattle.area.proofs.Net.{same-readers, same-gate-count, same-right-values}
use Rattle.sets.specs.Sets.{flip_words, units_net, shared_units}

module _ (u d e : ℕ) (ws ks cs ls ds : List ℕ) (same : (j : ℕ) → j < gates ws → to_units u d (get_or cs j 0) ≡ to_units u e (get_or ds j 0)) where
  from-same : (vs : List Bool) (ss : List ℕ) (bs : List Bool) (j k : ℕ) → j + k ≡ gates ws → (fs : List ℕ)
      → supposed_from u d vs ss bs (gates_from ws ks cs j k) fs ≡ supposed_from u e vs ss bs (gates_from ws ls ds j k) fs
  from-same vs ss bs j zero end fs = refl
  from-same vs ss bs j (suc k) end fs =
      let figure : ℕ → ℕ
      = gate_failure u (table ws j) (pin_values vs (used_pins ws j)) (map (λ (p : ℕ). seen u ss bs p (get_or fs p 0)) (used_pins ws j)) in
      ap (λ (p : ℕ). supposed_from u d vs ss bs (gates_from ws ks cs (suc j) k) (fs ++ (figure p ∷ []))) (same j (omega arith))
      ∙ from-same vs ss bs (suc j) k (omega arith) (fs ++ (figure (to_units u e (get_or ds j 0)) ∷ []))

  same-shared-gates : shared_gates (net_of ws ks cs) ≡ shared_gates (net_of ws ls ds)
  unfolding shared_gates
  same-shared-gates =
      ap₂ (λ (reads : ℕ → ℕ) (k : ℕ). shared_from reads (inputs ws) k) (fun_ext (same-readers ws ks cs ls ds)) (same-gate-count ws ks cs ls ds)

  pub same_shared : (q : ℕ) → shared_reliability u d (net_of ws ks cs) q ≡ shared_reliability u e (net_of ws ls ds) q
  unfolding shared_reliability supposed_figure supposed_failures
  same_shared q =
      let zeros : List ℕ = replicate (inputs ws) 0 in
      let total : List ℕ → (List Bool → List ℕ) → ℕ
      = λ ss fs.
      at_most u (sum_over_flips (length ss) (λ bs.
      output_steps u (λ o. seen u ss bs o (get_or (fs bs) o 0)) (shared_steps u (λ p. get_or (fs bs) p 0) u ss bs) (output_words ws))) in
      let old = shared_gates (net_of ws ks cs) in
      let vs = right_values (net_of ws ks cs) q in
      ap (total old) (fun_ext (λ bs. from-same vs old bs 0 (gates ws) (omega arith) zeros))
      ∙ ap₂ (λ (ss : List ℕ) (xs : List Bool). total ss (λ bs. supposed_from u e xs ss bs (gates_from ws ls ds 0 (gates ws)) zeros))
      same-shared-gates
      (same-right-values ws ks cs ls ds q)

-- by the chances
pub units-are : (d : ℕ) (ws kinds chances : List ℕ) → ((j : ℕ) → j < gates ws → flip ws j ≡ to_units units_in_one d (get_or chances j 0))
    → shared_units ws ≡ shared_reliability units_in_one d (net_of ws kinds chances) (pattern ws)
unfolding shared_units units_net to_units
units-are d ws kinds chances flips =
    same_shared units_in_one units_in_one d ws [] (flip_words ws) kinds chances
    (λ j l. exact (get_or (flip_words ws) j 0) units_in_one (omega arith) ∙ listed_at (flip ws) (gates ws) j l ∙ flips j l)
    (pattern ws)

pub gates_are : (ws kinds chances : List ℕ) → shared_gates (units_net ws) ≡ shared_gates (net_of ws kinds chances)
unfolding units_net shared_gates
gates_are ws kinds chances =
    ap₂ (λ (reads : ℕ → ℕ) (k : ℕ). shared_from reads (inputs ws) k)
    (fun_ext (same-readers ws [] (flip_words ws) kinds chances))
    (same-gate-count ws [] (flip_words ws) kinds chances)
