-- Toggling an input and setting a flip work out exactly the gates that depend on it, in order; a gate that does not keeps all its words. Assumes nothing.
use Prim.Native.Nat.{ℕ, zero, suc, ◌+◌, ◌-◌, ◌≤◌, ◌<◌}
use mathlib.Core.Bool.{Bool, true, false, false≢true}
use mathlib.Core.List.{List}
use mathlib.Core.Logic.{◌≢◌, ◌↔◌, ◌⊎◌, inl, inr, ⊎_elim}
use mathlib.Core.Path.{◌≡◌, refl, sym, ap, ap₂, subst, ◌∙◌}
use native.Mathlib.Nat.{zero-add, add-zero, suc-add}
use native.Mathlib.Omega.{arith}
use lib.ListN.{get_or, set}
use lib.Seq.{get_or-set_other}
use lib.Dec.{eqb}
use borrow.Author.Tests.{eqb-true, eq-eqb}
use Rattle.netlist.specs.Live.{Depends}
use Rattle.netlist.proofs.Live.{depends-earlier}
use Rattle.area.specs.Layout.{inputs, gates, pattern_index, pattern, gate_words, gate_index, flip_index, figure_index, used_pins}
use Rattle.area.specs.Rules.{NetSound}
use Rattle.work.specs.Work.{work_gate, work_reliability, reads_marked, work_if, mark_if, work_marked, mark_of, invert_bit, toggle_words, set_words}
use Rattle.work.proofs.Frame.{SameFrame, same_inputs, same_gates, same-used-pins, same-trans}
use Rattle.work.proofs.Frame.{same-work-gate, same-work-if, same-walk, same-store-pattern, same-store-flip, work-if-kept, work-reliability-kept}
use Rattle.work.proofs.Sound.{net-same}
use Rattle.area.specs.Net.{net_of}
use Rattle.area.proofs.Net.{sound-pins}
use Rattle.fresh.specs.Fresh.{marks_from, work_chosen}
use Rattle.fresh.proofs.WorkAll.{FreshAt, chosen-walk, fresh-chosen, fresh-reliability-at}
use Rattle.fresh.proofs.Marks.{Marked, reads-depends, mark-next, toggle-mark, set-mark, toggle-marks, set-marks}

-- ---- the chosen gates

-- two answers that mean the same are equal
same_answer : (a b : Bool) {P : Type 0} → (a ≡ true) ↔ P → (b ≡ true) ↔ P → a ≡ b
same_answer true true p q = refl
same_answer true false p q = absurd (false≢true (q.1 (p.0 refl)))
same_answer false true p q = absurd (false≢true (p.1 (q.0 refl)))
same_answer false false p q = refl

-- a gate that is not chosen keeps its words
pub chosen-other : (chosen : ℕ → Bool) (ws : List ℕ) (j k i : ℕ) → ((l : ℕ) → j ≤ l → l < j + k → chosen l ≡ true → i ≢ figure_index l)
    → get_or (work_chosen chosen ws j k) i 0 ≡ get_or ws i 0
chosen-other chosen ws j zero i h = refl
chosen-other chosen ws j (suc k) i h =
    chosen-other chosen (work_if (chosen j) ws j) (suc j) k i (λ l from to. h l (omega arith) (omega arith)) ∙ here (chosen j) refl
  where
    here : (c : Bool) → chosen j ≡ c → get_or (work_if c ws j) i 0 ≡ get_or ws i 0
    here true e = (work-if-kept true ws j).kept i (h j (omega arith) (omega arith) e)
    here false e = refl

-- where none is chosen nothing is done
chosen_none : (chosen : ℕ → Bool) (ws : List ℕ) (j k : ℕ) → ((l : ℕ) → j ≤ l → l < j + k → chosen l ≡ false) → work_chosen chosen ws j k ≡ ws
chosen_none chosen ws j zero h = refl
chosen_none chosen ws j (suc k) h =
    ap (λ (c : Bool). work_chosen chosen (work_if c ws j) (suc j) k) (h j (omega arith) (omega arith))
    ∙ chosen_none chosen ws (suc j) k (λ l from to. h l (omega arith) (omega arith))

-- in two parts
chosen-parts : (chosen : ℕ → Bool) (ws : List ℕ) (j a b : ℕ) → work_chosen chosen ws j (a + b) ≡ work_chosen chosen (work_chosen chosen ws j a) (j + a) b
chosen-parts chosen ws j zero b = ap₂ (λ (x y : ℕ). work_chosen chosen ws y x) (zero-add b) (sym (add-zero j))
chosen-parts chosen ws j (suc a) b =
    let on : suc j + a ≡ j + suc a = omega arith in
    ap (work_chosen chosen ws j) (suc-add a b)
    ∙ chosen-parts chosen (work_if (chosen j) ws j) (suc j) a b
    ∙ ap (λ (x : ℕ). work_chosen chosen (work_chosen chosen (work_if (chosen j) ws j) (suc j) a) x b) on

not-true : (b : Bool) → (b ≡ true → ⊥) → b ≡ false
not-true true h = absurd (h refl)
not-true false h = refl

-- ---- the marked gates are the chosen ones, where the choice is dependence on t

module _ (ws kinds chances : List ℕ) (sound : NetSound ws) (t : ℕ) (chosen : ℕ → Bool) where
  marked-chosen : (vs marks : List ℕ) (j k : ℕ) → SameFrame ws vs → j + k ≤ gates ws → Marked (net_of ws kinds chances) t marks j
      → ((l : ℕ) → j ≤ l → l < gates ws → (chosen l ≡ true) ↔ Depends (net_of ws kinds chances) (inputs ws + l) t)
      → work_marked vs marks j k ≡ work_chosen chosen vs j k
  marked-chosen vs marks j zero same fits marked decides = refl
  marked-chosen vs marks j (suc k) same fits marked decides =
      let net = net_of ws kinds chances in
      let small : j < gates ws = omega arith in
      let inside : j < gates vs = omega (arith, same_gates ws vs same) in
      let n = same_inputs ws vs same in
      let ps = same-used-pins ws vs same j in
      let m = reads_marked marks (used_pins vs j) in
      let agree : m ≡ chosen j
      = ap (reads_marked marks) ps
      ∙ same_answer (reads_marked marks (used_pins ws j)) (chosen j) (reads-depends ws kinds chances sound t marks j small marked)
      (decides j (omega arith) small) in
      let next : Marked net t (mark_if m marks (inputs vs + j)) (suc j)
      = subst (λ (x : ℕ). Marked net t (mark_if m marks (x + j)) (suc j)) (sym n)
      (subst (λ (x : List ℕ). Marked net t (mark_if (reads_marked marks x) marks (inputs ws + j)) (suc j)) (sym ps)
      (mark-next ws kinds chances sound t marks j small marked)) in
      marked-chosen (work_if m vs j) (mark_if m marks (inputs vs + j)) (suc j) k
      (same-trans ws vs (work_if m vs j) same (same-work-if m vs j inside))
      (omega arith)
      next
      (λ l from to. decides l (omega arith) to)
      ∙ ap (λ (c : Bool). work_chosen chosen (work_if c vs j) (suc j) k) agree

-- ---- the chosen gates are worked out, and no others

module _ (ws stored : List ℕ) (sound : NetSound ws) (same : SameFrame ws stored) {P : ℕ → Type 0} (chosen : ℕ → Bool)
    (decides : (j : ℕ) → j < gates ws → (chosen j ≡ true) ↔ P j) where
  abbrev left : List ℕ
  left = work_reliability (work_chosen chosen stored 0 (gates ws))

  chosen-worked : (j : ℕ) → j < gates ws → P j → FreshAt left j
  chosen-worked j l p =
      let net = net-same ws stored sound same in
      let count = same_gates ws stored same in
      let fits : 0 + gates ws ≤ gates stored = omega arith in
      let walk = same-walk (chosen-walk chosen stored 0 (gates ws)) fits in
      let worked = work_chosen chosen stored 0 (gates ws) in
      fresh-reliability-at worked (net-same stored worked net walk) j (omega (arith, same_gates stored worked walk))
      (fresh-chosen chosen stored 0 (gates ws) net fits j (omega arith) (omega arith) ((decides j l).1 p))

  chosen-keeps : (j r : ℕ) → j < gates ws → r < gate_words → (P j → ⊥) → get_or left (gate_index j + r) 0 ≡ get_or stored (gate_index j + r) 0
  chosen-keeps j r l low free =
      let at = gate_index j + r in
      (work-reliability-kept (work_chosen chosen stored 0 (gates ws))).kept at (λ e. omega arith)
      ∙ chosen-other chosen stored 0 (gates ws) at
      (λ k from to picked e.
      let here : k ≡ j = omega arith in
      free (subst P here ((decides k (omega arith)).0 picked)))

-- ---- the two calls

module _ (ws kinds chances : List ℕ) (sound : NetSound ws) (i : ℕ) (small : i < inputs ws) where
  -- toggling works out the gates that depend on input i, and no others
  pub toggle-works : (chosen : ℕ → Bool)
      → ((j : ℕ) → j < gates ws → (chosen j ≡ true) ↔ Depends (net_of ws kinds chances) (inputs ws + j) i)
      → toggle_words ws i ≡ work_reliability (work_chosen chosen (set ws pattern_index (invert_bit (pattern ws) i)) 0 (gates ws))
  unfolding toggle_words
  toggle-works chosen decides =
      let q = invert_bit (pattern ws) i in
      ap work_reliability
      (marked-chosen ws kinds chances sound i chosen (set ws pattern_index q) (mark_of i) 0 (gates ws) (same-store-pattern ws q) (omega arith)
      (toggle-mark ws kinds chances sound i small)
      (λ j from to. decides j to))

  -- such a choice: the marks
  abbrev pub toggle-chosen : ℕ → Bool
  toggle-chosen k = eqb (get_or (marks_from ws (mark_of i) 0 (gates ws)) (inputs ws + k) 0) 1

  pub toggle-decides : (j : ℕ) → j < gates ws → (toggle-chosen j ≡ true) ↔ Depends (net_of ws kinds chances) (inputs ws + j) i
  toggle-decides j l =
      let mark = get_or (marks_from ws (mark_of i) 0 (gates ws)) (inputs ws + j) 0 in
      let means = toggle-marks ws kinds chances sound i j small l in
      (λ e. means.0 (eqb-true mark 1 e), λ d. eq-eqb mark 1 (means.1 d))

  abbrev toggled : List ℕ
  toggled = set ws pattern_index (invert_bit (pattern ws) i)

  -- a gate that depends on input i has what the rule makes of the words left, any other keeps all its words
  pub toggle-worked : (j : ℕ) → j < gates ws → Depends (net_of ws kinds chances) (inputs ws + j) i → FreshAt (toggle_words ws i) j
  toggle-worked j l d =
      subst (λ (xs : List ℕ). FreshAt xs j) (sym (toggle-works toggle-chosen toggle-decides))
      (chosen-worked ws toggled sound (same-store-pattern ws _) toggle-chosen toggle-decides j l d)

  pub toggle-keeps : (j r : ℕ) → j < gates ws → r < gate_words → (Depends (net_of ws kinds chances) (inputs ws + j) i → ⊥)
      → get_or (toggle_words ws i) (gate_index j + r) 0 ≡ get_or ws (gate_index j + r) 0
  toggle-keeps j r l low free =
      ap (λ (xs : List ℕ). get_or xs (gate_index j + r) 0) (toggle-works toggle-chosen toggle-decides)
      ∙ chosen-keeps ws toggled sound (same-store-pattern ws _) toggle-chosen toggle-decides j r l low free
      ∙ get_or-set_other ws pattern_index (gate_index j + r) _ 0 (λ e. omega arith)

module _ (ws kinds chances : List ℕ) (sound : NetSound ws) (g : ℕ) (small : g < gates ws) where
  -- setting gate g's flip works out g and the gates that depend on it, and no others
  pub set-works : (units : ℕ) (chosen : ℕ → Bool)
      → ((j : ℕ) → j < gates ws → (chosen j ≡ true) ↔ ((j ≡ g) ⊎ Depends (net_of ws kinds chances) (inputs ws + j) (inputs ws + g)))
      → set_words ws g units ≡ work_reliability (work_chosen chosen (set ws (flip_index g) units) 0 (gates ws))
  unfolding set_words
  set-works units chosen decides =
      let net = net_of ws kinds chances in
      let stored = set ws (flip_index g) units in
      let first = work_gate stored g in
      let left = gates ws - suc g in
      let store = same-store-flip ws g units small in
      let inside : g < gates stored = omega (arith, same_gates ws stored store) in
      let whole : g + suc left ≡ gates ws = omega arith in
      let before : work_chosen chosen stored 0 g ≡ stored
      = chosen_none chosen stored 0 g (λ l from to.
      not-true (chosen l) (λ e.
      ⊎_elim
      (λ q. omega arith)
      (λ d. omega (arith, depends-earlier net (sound-pins ws kinds chances sound) d))
      ((decides l (omega arith)).0 e))) in
      let parts : work_chosen chosen stored 0 (gates ws) ≡ work_chosen chosen first (suc g) left
      = ap (work_chosen chosen stored 0) (sym whole)
      ∙ chosen-parts chosen stored 0 g (suc left)
      ∙ ap₂ (λ (xs : List ℕ) (x : ℕ). work_chosen chosen xs x (suc left)) before (zero-add g)
      ∙ ap (λ (c : Bool). work_chosen chosen (work_if c stored g) (suc g) left) ((decides g small).1 (inl refl)) in
      ap work_reliability
      (marked-chosen ws kinds chances sound (inputs ws + g) chosen first (mark_of (inputs ws + g)) (suc g) left
      (same-trans ws stored first store (same-work-gate stored g inside))
      (omega arith)
      (set-mark ws kinds chances sound g small)
      (λ l from to.
      (λ e. ⊎_elim (λ q. absurd (omega arith)) (λ d. d) ((decides l to).0 e), λ d. (decides l to).1 (inr d)))
      ∙ sym parts)

  abbrev pub set-chosen : ℕ → Bool
  set-chosen k = eqb (get_or (marks_from ws (mark_of (inputs ws + g)) (suc g) (gates ws - suc g)) (inputs ws + k) 0) 1

  pub set-decides : (j : ℕ) → j < gates ws → (set-chosen j ≡ true) ↔ ((j ≡ g) ⊎ Depends (net_of ws kinds chances) (inputs ws + j) (inputs ws + g))
  set-decides j l =
      let mark = get_or (marks_from ws (mark_of (inputs ws + g)) (suc g) (gates ws - suc g)) (inputs ws + j) 0 in
      let means = set-marks ws kinds chances sound g j small l in
      (λ e. means.0 (eqb-true mark 1 e), λ d. eq-eqb mark 1 (means.1 d))

  -- gate g and those that depend on it have what the rule makes of the words left, any other keeps all its words
  pub set-worked : (units j : ℕ) → j < gates ws → (j ≡ g) ⊎ Depends (net_of ws kinds chances) (inputs ws + j) (inputs ws + g)
      → FreshAt (set_words ws g units) j
  set-worked units j l d =
      subst (λ (xs : List ℕ). FreshAt xs j) (sym (set-works units set-chosen set-decides))
      (chosen-worked ws (set ws (flip_index g) units) sound (same-store-flip ws g units small) set-chosen set-decides j l d)

  pub set_keeps : (units j r : ℕ) → j < gates ws → r < gate_words → j ≢ g → (Depends (net_of ws kinds chances) (inputs ws + j) (inputs ws + g) → ⊥)
      → get_or (set_words ws g units) (gate_index j + r) 0 ≡ get_or ws (gate_index j + r) 0
  set_keeps units j r l low other free =
      ap (λ (xs : List ℕ). get_or xs (gate_index j + r) 0) (set-works units set-chosen set-decides)
      ∙ chosen-keeps ws (set ws (flip_index g) units) sound (same-store-flip ws g units small) set-chosen set-decides j r l low (⊎_elim other free)
      ∙ get_or-set_other ws (flip_index g) (gate_index j + r) units 0 (λ e. other (omega arith))
