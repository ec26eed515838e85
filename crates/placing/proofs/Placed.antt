-- Laws of placed gates. Assumes nothing.
use Prim.Native.Nat.{ℕ, zero, suc, ◌+◌, ◌-◌, ◌<◌, ◌≤◌}
use mathlib.Core.Path.{◌≡◌, refl, ap, sym, subst, ◌∙◌}
use mathlib.Core.Bool.{Bool, true, false}
use mathlib.Core.List.Memᴰ
use mathlib.Core.List.{List, [], ◌∷◌, Memᴰ}
use mathlib.Core.Logic.{⊎_elim}
use native.Mathlib.Nat.{eq-or-lt_of_le}
use native.Mathlib.Decide.{ℕ_discrete}
use native.Mathlib.Omega.{arith}
use lib.ListN.{length, get_or, set, length-set}
use lib.Seq.{get_or-set_same, get_or-set_other}
use lib.Dec.{eqb, ltb}
use borrow.Author.Tests.{eq-eqb, ne_eqb, eqb-true, eqb-false, le-ltb, not-true}
use Rattle.placing.specs.Placing.{placed_source, all_placed, ready, Reads, Depends, direct, further, left, Kept}

-- a gate that a placed gate depends on is placed before it
pub depends-before : (S : ℕ → List ℕ) (n g q : ℕ) (place order : List ℕ) → Kept S n g q place order
    → (j i : ℕ) → 0 < get_or place j 0 → Depends S n j i → (0 < get_or place i 0) × (get_or place i 0 < get_or place j 0)
depends-before S n g q place order k j i h (direct r) = k.after j i h r
depends-before S n g q place order k j i h (further {i = m} r d) =
    let first = k.after j m h r in
    let rest = depends-before S n g q place order k m i first.0 d in
    (rest.0, omega (arith, first.1, rest.1))

-- so no placed gate depends on itself
pub no_loop : (S : ℕ → List ℕ) (n g q : ℕ) (place order : List ℕ) → Kept S n g q place order
    → (j : ℕ) → 0 < get_or place j 0 → Depends S n j j → ⊥
no_loop S n g q place order k j h d = omega (arith, (depends-before S n g q place order k j j h d).1)

-- each gate source of a gate that is ready is placed
pub all_placed-all : (n : ℕ) (place ds : List ℕ) → all_placed n place ds ≡ true → (i : ℕ) → Memᴰ (n + i) ds → 0 < get_or place i 0
all_placed-all n place [] e i m = elim m [ ]
all_placed-all n place (d ∷ ds) e i m =
    go (placed_source n place d) refl (all_placed-all n place ds)
  where
    here : placed_source n place d ≡ true → n + i ≡ d → 0 < get_or place i 0
    here p q =
        let outside : ltb d n ≡ false = le-ltb d n (omega arith) in
        let same : d - n ≡ i = omega arith in
        let some : eqb (get_or place i 0) 0 ≡ false = not-true _ (rw (outside, same) at p) in
        pos (get_or place i 0) some
      where
        pos : (x : ℕ) → eqb x 0 ≡ false → 0 < x
        pos zero e = absurd (let z : ◌≡◌ {A = ℕ} 0 1 = cc in omega arith)
        pos (suc x) e = omega arith

    go : (b : Bool) → placed_source n place d ≡ b → (all_placed n place ds ≡ true → (i : ℕ) → Memᴰ (n + i) ds → 0 < get_or place i 0) → 0 < get_or place i 0
    go true p ih = ⊎_elim (here p) (ih (rw p at e) i) (Memᴰ.cases_cons m)
    go false p ih = absurd (let z : ◌≡◌ {A = Bool} true false = sym (rw p at e) in let y : ◌≡◌ {A = ℕ} 0 1 = cc in omega arith)

-- one gate less is left
pub left-set : (place : List ℕ) (j v k : ℕ) → j < length place → get_or place j 0 ≡ 0 → 0 < v
    → (k ≤ j → left (set place j v) k ≡ left place k) × (j < k → suc (left (set place j v) k) ≡ left place k)
left-set place j v zero inside e pos = (λ _. refl, λ h. absurd (omega arith))
left-set place j v (suc k) inside e pos = go (left-set place j v k inside e pos)
  where
    go : (k ≤ j → left (set place j v) k ≡ left place k) × (j < k → suc (left (set place j v) k) ≡ left place k)
        → (suc k ≤ j → left (set place j v) (suc k) ≡ left place (suc k)) × (j < suc k → suc (left (set place j v) (suc k)) ≡ left place (suc k))
    go ih = (
      λ h. rw (get_or-set_other place j k v 0 (λ q. omega arith), ih.0 (omega arith)),
      λ h. ⊎_elim (at_j h) (past-j h) (eq-or-lt_of_le {n = j} {m = k} (omega arith)),
    )
      where
        at_j : j < suc k → j ≡ k → suc (left (set place j v) (suc k)) ≡ left place (suc k)
        at_j h q =
            let new : get_or (set place j v) k 0 ≡ v = rw (← q) (get_or-set_same place j v 0 inside) in
            let old : get_or place k 0 ≡ 0 = rw (← q) e in
            rw (new, old, ne_eqb v 0 (λ z. omega arith), ih.0 (omega arith))

        past-j : j < suc k → j < k → suc (left (set place j v) (suc k)) ≡ left place (suc k)
        past-j h q = step (eqb (get_or place k 0) 0) refl
          where
            step : (b : Bool) → eqb (get_or place k 0) 0 ≡ b → suc (left (set place j v) (suc k)) ≡ left place (suc k)
            step true p = rw (get_or-set_other place j k v 0 (λ z. omega arith), p) (ap suc (ih.1 q))
            step false p = rw (get_or-set_other place j k v 0 (λ z. omega arith), p) (ih.1 q)

-- none is left: every gate is placed
pub left-none : (place : List ℕ) (k : ℕ) → left place k ≡ 0 → (j : ℕ) → j < k → 0 < get_or place j 0
left-none place zero e j h = absurd (omega arith)
left-none place (suc k) e j h = go (eqb (get_or place k 0) 0) refl (left-none place k)
  where
    go : (b : Bool) → eqb (get_or place k 0) 0 ≡ b → (left place k ≡ 0 → (j : ℕ) → j < k → 0 < get_or place j 0) → 0 < get_or place j 0
    go true p ih = absurd (let z : suc (left place k) ≡ 0 = rw p at e in omega arith)
    go false p ih =
        ⊎_elim
        (λ (q : j ≡ k). rw q (pos (get_or place k 0) (eqb-false (get_or place k 0) 0 p)))
        (ih (rw p at e) j)
        (eq-or-lt_of_le {n = j} {m = k} (omega arith))
      where
        pos : (x : ℕ) → (x ≡ 0 → ⊥) → 0 < x
        pos zero n = absurd (n refl)
        pos (suc x) n = omega arith

-- a ready gate is placed
module _ (S : ℕ → List ℕ) (n g q : ℕ) (place order : List ℕ) (kept : Kept S n g q place order) (within : g ≤ 1024)
    (j : ℕ) (inside : j < g) (free : ready S n place j ≡ true) where
  idle : get_or place j 0 ≡ 0
  unfolding ready
  idle = go (eqb (get_or place j 0) 0) refl
    where
      go : (b : Bool) → eqb (get_or place j 0) 0 ≡ b → get_or place j 0 ≡ 0
      go true p = eqb-true (get_or place j 0) 0 p
      go false p = absurd (let z : ◌≡◌ {A = Bool} true false = sym (rw p at free) in let y : ◌≡◌ {A = ℕ} 0 1 = cc in omega arith)

  fed : all_placed n place (S j) ≡ true
  unfolding ready
  fed = rw (eq-eqb (get_or place j 0) 0 idle) at free

  same : get_or (set place j (q + 1)) j 0 ≡ q + 1
  same = get_or-set_same place j (q + 1) 0 (omega (arith, kept.long))

  other : (i : ℕ) → (i ≡ j → ⊥) → get_or (set place j (q + 1)) i 0 ≡ get_or place i 0
  other i apart = get_or-set_other place j i (q + 1) 0 apart

  pub fewer : suc (left (set place j (q + 1)) g) ≡ left place g
  fewer = (left-set place j (q + 1) g (omega (arith, kept.long)) idle (omega arith)).1 inside

  pub room : q < g
  room = omega (arith, fewer, kept.count)

  by-gate : (P : ℕ → Type 0) (i : ℕ) → P j → ((i ≡ j → ⊥) → P i) → P i
  by-gate P i at_j off = go (ℕ_discrete i j)
    where
      go : Dec (i ≡ j) → P i
      go (yes e) = subst P (sym e) at_j
      go (no e) = off e

  pub placed : Kept S n g (q + 1) (set place j (q + 1)) (set order q j)
  placed =
      record {
        long = rw length-set kept.long;
        wide = rw length-set kept.wide;
        low = λ i. by-gate (λ i. get_or (set place j (q + 1)) i 0 ≤ q + 1) i (omega (arith, same)) (λ o. omega (arith, other i o, kept.low i));
        after = λ i m. by-gate (λ i. 0 < get_or (set place j (q + 1)) i 0 → Reads S n i m → (0 < get_or (set place j (q + 1)) m 0) × (get_or (set place j (q + 1)) m 0 < get_or (set place j (q + 1)) i 0)) i
            (λ _ r.
            let was = all_placed-all n place (S j) fed m r in
            let off = other m (λ e. omega (arith, ap (λ (x : ℕ). get_or place x 0) e, idle)) in
            (omega (arith, was, off), omega (arith, kept.low m, off, same)))
            (λ o h r.
            let old = kept.after i m (omega (arith, other i o)) r in
            let off = other m (λ e. omega (arith, ap (λ (x : ℕ). get_or place x 0) e, idle, old.0)) in
            (omega (arith, off, old.0), omega (arith, off, other i o, old.1)));
        back = λ i. by-gate (λ i. 0 < get_or (set place j (q + 1)) i 0 → (i < g) × (get_or (set order q j) (get_or (set place j (q + 1)) i 0 - 1) 0 ≡ i)) i
            (λ _. (inside, rw (same, one) (get_or-set_same order q j 0 (omega (arith, room, kept.wide)))))
            (λ o h.
            let old = kept.back i (omega (arith, other i o)) in
            (old.0, rw (other i o, get_or-set_other order q (get_or place i 0 - 1) j 0 (λ e. omega (arith, other i o, kept.low i))) old.1));
        forth = λ p h. ⊎_elim (newest p) (earlier p) (eq-or-lt_of_le {n = p} {m = q} (omega arith));
        count = omega (arith, fewer, kept.count);
      }
    where
      one : q + 1 - 1 ≡ q
      one = omega arith

      newest : (p : ℕ) → p ≡ q → (get_or (set order q j) p 0 < g) × (get_or (set place j (q + 1)) (get_or (set order q j) p 0) 0 ≡ p + 1)
      newest p e =
          let at-q : get_or (set order q j) q 0 ≡ j = get_or-set_same order q j 0 (omega (arith, room, kept.wide)) in
          rw (e, at-q) (inside, same)

      earlier : (p : ℕ) → p < q → (get_or (set order q j) p 0 < g) × (get_or (set place j (q + 1)) (get_or (set order q j) p 0) 0 ≡ p + 1)
      earlier p h =
          let old = kept.forth p h in
          let as-was : get_or (set order q j) p 0 ≡ get_or order p 0 = get_or-set_other order q p j 0 (λ e. omega arith) in
          rw as-was (old.0, other (get_or order p 0) (λ e. omega (arith, old.1, idle, ap (λ (x : ℕ). get_or place x 0) e)) ∙ old.1)
