-- Each gate of the placing order is the earliest that can come next. Assumes nothing.
use Prim.Native.Nat.{ℕ, zero, suc, ◌+◌, ◌-◌, ◌<◌, ◌≤◌}
use mathlib.Core.Path.{◌≡◌, refl, ap, sym, subst, ◌∙◌}
use mathlib.Core.Bool.{Bool, true, false}
use mathlib.Core.List.{List, [], ◌∷◌, ◌++◌, append_assoc, Memᴰ}
use mathlib.Core.Logic.{⊎_elim}
use native.Mathlib.Nat.{eq-or-lt_of_le, add-zero, zero-add}
use native.Mathlib.Decide.{ℕ_discrete}
use native.Mathlib.Omega.{arith}
use lib.ListN.{length, get_or, set, length-set, length-append, get_or-append}
use lib.Seq.{get_or-set_same, get_or-set_other, get_or-append-add}
use lib.Dec.{eqb, ltb}
use borrow.Author.Tests.{eq-eqb, ne_eqb, eqb-true, ltb-true, ltb-false}
use Rattle.area.specs.Layout.{most_gates}
use Rattle.placing.specs.Placing.{placed_source, all_placed, ready, passed, placing_order, CanFollow, Earliest}
use Rattle.placing.proofs.Placed.{all_placed-all}
use Rattle.placing.proofs.Search.{found-ready}

-- the sources of a gate whose gate sources are placed
sources-placed : (n : ℕ) (place ds : List ℕ) → ((i : ℕ) → Memᴰ (n + i) ds → 0 < get_or place i 0) → all_placed n place ds ≡ true
sources-placed n place [] f = refl
sources-placed n place (d ∷ ds) f = rw (source-placed (ltb d n) refl) (sources-placed n place ds (λ i m. f i (Memᴰ.tail m)))
  where
    source-placed : (b : Bool) → ltb d n ≡ b → placed_source n place d ≡ true
    source-placed true e = rw e
    source-placed false e =
        let past : n ≤ d = ltb-false d n e in
        let back : n + (d - n) ≡ d = omega arith in
        let some : 0 < get_or place (d - n) 0 = f (d - n) (Memᴰ.head back) in
        rw (e, ne_eqb (get_or place (d - n) 0) 0 (λ z. omega arith))

-- the search passes no gate that is ready
passed-least : (S : ℕ → List ℕ) (n : ℕ) (place : List ℕ) (j k x : ℕ) → j ≤ x → x < j + k → ready S n place x ≡ true → j + passed S n place j k ≤ x
passed-least S n place j zero x low high e = absurd (omega arith)
passed-least S n place j (suc k) x low high e = go (ready S n place j) refl (passed-least S n place (suc j) k x)
  where
    go : (b : Bool) → ready S n place j ≡ b → (suc j ≤ x → x < suc j + k → ready S n place x ≡ true → suc j + passed S n place (suc j) k ≤ x)
        → j + passed S n place j (suc k) ≤ x
    go true p ih = rw p (omega arith)
    go false p ih =
        rw p (⊎_elim
        (λ (q : j ≡ x). absurd (let z : ◌≡◌ {A = Bool} true false = sym e ∙ ap (ready S n place) (sym q) ∙ p in let y : ◌≡◌ {A = ℕ} 0 1 = cc in omega arith))
        (λ (q : j < x). let h = ih (omega arith) (omega arith) e in omega (arith, h))
        (eq-or-lt_of_le {n = j} {m = x} low))

-- done lists the gates that are placed
record Done (place done : List ℕ) : Type 0 where
  long : length place ≡ most_gates
  listed : (j : ℕ) → 0 < get_or place j 0 → (p : ℕ) × ((p < length done) × (get_or done p 0 ≡ j))
  placed : (p : ℕ) → p < length done → 0 < get_or place (get_or done p 0) 0

module _ (S : ℕ → List ℕ) (n g : ℕ) (within : g ≤ most_gates) where
  module _ (place done : List ℕ) (d : Done place done) (x : ℕ) (inside : x < g) (q : ℕ) where
    by-gate : (P : ℕ → Type 0) (i : ℕ) → P x → ((i ≡ x → ⊥) → P i) → P i
    by-gate P i at_x off = go (ℕ_discrete i x)
      where
        go : Dec (i ≡ x) → P i
        go (yes e) = subst P (sym e) at_x
        go (no e) = off e

    same : get_or (set place x (suc q)) x 0 ≡ suc q
    same = get_or-set_same place x (suc q) 0 (omega (arith, d.long))

    other : (i : ℕ) → (i ≡ x → ⊥) → get_or (set place x (suc q)) i 0 ≡ get_or place i 0
    other i apart = get_or-set_other place x i (suc q) 0 apart

    grown : length (done ++ (x ∷ [])) ≡ length done + 1
    grown = length-append done (x ∷ [])

    last : get_or (done ++ (x ∷ [])) (length done) 0 ≡ x
    last = ap (λ (k : ℕ). get_or (done ++ (x ∷ [])) k 0) (sym (add-zero (length done))) ∙ get_or-append-add done (x ∷ []) 0 0

    one_more : Done (set place x (suc q)) (done ++ (x ∷ []))
    one_more =
        record {
          long = rw length-set d.long;
          listed = λ j. by-gate (λ j. 0 < get_or (set place x (suc q)) j 0 → (p : ℕ) × ((p < length (done ++ (x ∷ []))) × (get_or (done ++ (x ∷ [])) p 0 ≡ j))) j
              (λ _. (length done, (omega (arith, grown), last)))
              (λ off h.
              let old = d.listed j (omega (arith, other j off)) in
              (old.0, (omega (arith, grown, old.1.0), get_or-append done (x ∷ []) 0 old.0 old.1.0 ∙ old.1.1)));
          placed = λ p h. ⊎_elim (newest p) (earlier p) (eq-or-lt_of_le {n = p} {m = length done} (omega (arith, grown)));
        }
      where
        newest : (p : ℕ) → p ≡ length done → 0 < get_or (set place x (suc q)) (get_or (done ++ (x ∷ [])) p 0) 0
        newest p e = rw (e, last, same) (omega arith)

        earlier : (p : ℕ) → p < length done → 0 < get_or (set place x (suc q)) (get_or (done ++ (x ∷ [])) p 0) 0
        earlier p h =
            rw (get_or-append done (x ∷ []) 0 p h)
            (by-gate (λ i. 0 < get_or place i 0 → 0 < get_or (set place x (suc q)) i 0) (get_or done p 0)
            (λ _. omega (arith, same))
            (λ off h. omega (arith, other (get_or done p 0) off))
            (d.placed p h))

  -- the next gate, behind those that are done
  module _ (place done : List ℕ) (d : Done place done) (rest : List ℕ) (inside : passed S n place 0 g < g) where
    abbrev x : ℕ
    x = passed S n place 0 g

    abbrev order : List ℕ
    order = done ++ (x ∷ rest)

    before : (p : ℕ) → p < length done → get_or order p 0 ≡ get_or done p 0
    before p h = get_or-append done (x ∷ rest) 0 p h

    here : get_or order (length done) 0 ≡ x
    here = ap (λ (k : ℕ). get_or order k 0) (sym (add-zero (length done))) ∙ get_or-append-add done (x ∷ rest) 0 0

    free : ready S n place x ≡ true
    free = rw zero-add at (found-ready S n place 0 g inside)

    idle : get_or place x 0 ≡ 0
    unfolding ready
    idle = go (eqb (get_or place x 0) 0) refl
      where
        go : (b : Bool) → eqb (get_or place x 0) 0 ≡ b → get_or place x 0 ≡ 0
        go true p = eqb-true (get_or place x 0) 0 p
        go false p = absurd (let z : ◌≡◌ {A = Bool} true false = sym (rw p at free) in let y : ◌≡◌ {A = ℕ} 0 1 = cc in omega arith)

    sourced : all_placed n place (S x) ≡ true
    unfolding ready
    sourced = rw (eq-eqb (get_or place x 0) 0 idle) at free

    -- a gate that can follow is ready
    is-ready : (j : ℕ) → CanFollow S n g order (length done) j → ready S n place j ≡ true
    unfolding ready
    is-ready j c = rw (eq-eqb (get_or place j 0) 0 not_yet) (sources-placed n place (S j) source)
      where
        not_yet : get_or place j 0 ≡ 0
        not_yet = go (get_or place j 0) refl
          where
            go : (v : ℕ) → get_or place j 0 ≡ v → v ≡ 0
            go zero e = refl
            go (suc v) e =
                let old = d.listed j (omega arith) in
                absurd (c.fresh old.0 old.1.0 (before old.0 old.1.0 ∙ old.1.1))

        source : (i : ℕ) → Memᴰ (n + i) (S j) → 0 < get_or place i 0
        source i m =
            let f = c.fed i m in
            subst (λ (y : ℕ). 0 < get_or place y 0) (sym (before f.0 f.1.0) ∙ f.1.1) (d.placed f.0 f.1.0)

    next-earliest : Earliest S n g order (length done)
    next-earliest =
        record {
          can = subst (CanFollow S n g order (length done)) (sym here)
              (record {
                gate = inside;
                fresh = λ p h e. omega (arith, idle, d.placed p h, ap (λ (y : ℕ). get_or place y 0) (sym (before p h) ∙ e));
                fed = λ i m. let old = d.listed i (all_placed-all n place (S x) sourced i m) in (old.0, (old.1.0, before old.0 old.1.0 ∙ old.1.1));
              });
          least = λ j c. rw here (rw zero-add at (passed-least S n place 0 g j (omega arith) (rw zero-add c.gate) (is-ready j c)));
        }

  -- every gate of the order from those that are done on
  all-earliest : (f q : ℕ) (place done : List ℕ) → Done place done
      → (p : ℕ) → p < length (placing_order S n g f q place) → Earliest S n g (done ++ placing_order S n g f q place) (length done + p)
  all-earliest zero q place done d p h = absurd (omega arith)
  all-earliest (suc f) q place done d p h = go (ltb (passed S n place 0 g) g) refl p h (all-earliest f)
    where
      go : (b : Bool) → ltb (passed S n place 0 g) g ≡ b → (p : ℕ) → p < length (placing_order S n g (suc f) q place)
          → ((q : ℕ) (place done : List ℕ) → Done place done
          → (p : ℕ) → p < length (placing_order S n g f q place) → Earliest S n g (done ++ placing_order S n g f q place) (length done + p))
          → Earliest S n g (done ++ placing_order S n g (suc f) q place) (length done + p)
      go false e p h ih = absurd (let none : p < 0 = rw e at h in omega arith)
      go true e zero h ih = rw (e, add-zero) (next-earliest place done d _ (ltb-true (passed S n place 0 g) g e))
      go true e (suc p) h ih =
          let x = passed S n place 0 g in
          let inside : x < g = ltb-true x g e in
          let later = placing_order S n g f (suc q) (set place x (suc q)) in
          let low : suc p < suc (length later) = rw e at h in
          let all : done ++ (x ∷ []) ++ later ≡ done ++ (x ∷ later) = append_assoc done (x ∷ []) later in
          let count : length (done ++ (x ∷ [])) + p ≡ length done + suc p = omega (arith, length-append done (x ∷ [])) in
          rw e (subst (λ (k : ℕ). Earliest S n g (done ++ (x ∷ later)) k) count
          (subst (λ (o : List ℕ). Earliest S n g o (length (done ++ (x ∷ [])) + p)) all
          (ih (suc q) (set place x (suc q)) (done ++ (x ∷ [])) (one_more place done d x inside q) p (omega arith))))

  pub earliest : (place : List ℕ) → length place ≡ most_gates → ((j : ℕ) → get_or place j 0 ≡ 0)
      → (p : ℕ) → p < length (placing_order S n g g 0 place) → Earliest S n g (placing_order S n g g 0 place) p
  earliest place long none p h =
      rw zero-add at (all-earliest g 0 place []
      (record { long = long; listed = λ j some. absurd (omega (arith, none j)); placed = λ p h. absurd (omega arith) }) p h)
