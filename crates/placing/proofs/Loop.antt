-- Where no gate is ready, either all are placed or one depends on itself. Assumes nothing.
use Prim.Native.Nat.{ℕ, zero, suc, ◌+◌, ◌-◌, ◌<◌}
use mathlib.Core.Path.{◌≡◌, refl, subst}
use mathlib.Core.Bool.{Bool, true, false}
use mathlib.Core.List.{List, [], ◌∷◌, Memᴰ}
use mathlib.Core.Logic.{⊎_elim}
use native.Mathlib.Nat.{eq-or-lt_of_le, add-zero}
use native.Mathlib.Omega.{arith}
use lib.ListN.{get_or}
use lib.Dec.{eqb, ltb}
use borrow.Author.Tests.{eq-eqb, eqb-true, ltb-false}
use Rattle.placing.specs.Placing.{all_placed, ready, passed, Reads, Depends, direct, further}

-- a member of a set below k that a leads to
pub record Lead (P : ℕ → Bool) (R : ℕ → ℕ → Type 0) (k a : ℕ) : Type 0 where
  pub to : ℕ
  pub below : to < k
  pub member : P to ≡ true
  pub by : R a to

pub record Cycle (R : ℕ → ℕ → Type 0) (k : ℕ) : Type 0 where
  pub at : ℕ
  pub below : at < k
  pub by : R at at

-- where each member of a set below k leads to a member, by a relation that goes on, some member leads to itself
module _ (P : ℕ → Bool) (R : ℕ → ℕ → Type 0) (go_on : (a b c : ℕ) → R a b → R b c → R a c) where
  pub cycle : (k : ℕ) → ((a : ℕ) → a < k → P a ≡ true → Lead P R k a) → (a : ℕ) → a < k → P a ≡ true → Cycle R k
  cycle zero leads a lt m = absurd (omega arith)
  cycle (suc k) leads a lt m = go (P k) refl (cycle k)
    where
      Leads : Type 0
      Leads = (a : ℕ) → a < k → P a ≡ true → Lead P R k a

      wider : Cycle R k → Cycle R (suc k)
      wider c = record { at = c.at; below = omega (arith, c.below); by = c.by }

      -- the last is no member: it plays no part
      narrow : P k ≡ false → (b : ℕ) → b < suc k → P b ≡ true → b < k
      narrow e b h p =
          ⊎_elim (λ (q : b ≡ k). absurd (let z : ◌≡◌ {A = ℕ} 0 1 = cc in omega arith)) (λ (l : b < k). l) (eq-or-lt_of_le {n = b} {m = k} (omega arith))

      skip : P k ≡ false → (a : ℕ) → a < k → P a ≡ true → Lead P R k a
      skip e a h p =
          let l = leads a (omega arith) p in
          record { to = l.to; below = narrow e l.to l.below l.member; member = l.member; by = l.by }

      -- the last leads to b: what leads to the last leads to b
      round : (b : ℕ) → b < k → P b ≡ true → R k b → (a : ℕ) → a < k → P a ≡ true → Lead P R k a
      round b hb pb r a h p =
          let l = leads a (omega arith) p in
          ⊎_elim
          (λ (q : l.to ≡ k). record { to = b; below = hb; member = pb; by = go_on a k b (subst (λ (x : ℕ). R a x) q l.by) r })
          (λ (q : l.to < k). record { to = l.to; below = q; member = l.member; by = l.by })
          (eq-or-lt_of_le {n = l.to} {m = k} (omega (arith, l.below)))

      go : (q : Bool) → P k ≡ q → (((a : ℕ) → a < k → P a ≡ true → Lead P R k a) → (a : ℕ) → a < k → P a ≡ true → Cycle R k) → Cycle R (suc k)
      go false e ih = wider (ih (skip e) a (narrow e a lt m) m)
      go true e ih =
          let l = leads k (omega arith) e in
          ⊎_elim
          (λ (q : l.to ≡ k). record { at = k; below = omega arith; by = subst (λ (x : ℕ). R k x) q l.by })
          (λ (q : l.to < k). wider (ih (round l.to q l.member l.by) l.to q l.member))
          (eq-or-lt_of_le {n = l.to} {m = k} (omega (arith, l.below)))

pub depends-on : (S : ℕ → List ℕ) (n a b c : ℕ) → Depends S n a b → Depends S n b c → Depends S n a c
depends-on S n a b c (direct r) d = further r d
depends-on S n a b c (further r e) d = further r (depends-on S n _ b c e d)

-- a source in a list that is not placed
pub record Waits (n : ℕ) (place ds : List ℕ) : Type 0 where
  pub gate : ℕ
  pub waits : get_or place gate 0 ≡ 0
  pub reads : Memᴰ (n + gate) ds

pub waiting : (n : ℕ) (place ds : List ℕ) → all_placed n place ds ≡ false → Waits n place ds
waiting n place [] e = absurd (let z : ◌≡◌ {A = ℕ} 0 1 = cc in omega arith)
waiting n place (d ∷ ds) e = go (ltb d n) refl (eqb (get_or place (d - n) 0) 0) refl (waiting n place ds)
  where
    later : Waits n place ds → Waits n place (d ∷ ds)
    later w = record { gate = w.gate; waits = w.waits; reads = Memᴰ.tail w.reads }

    go : (q : Bool) → ltb d n ≡ q → (r : Bool) → eqb (get_or place (d - n) 0) 0 ≡ r → (all_placed n place ds ≡ false → Waits n place ds) → Waits n place (d ∷ ds)
    go true p r s ih = later (ih (rw p at e))
    go false p true s ih =
        let back : n + (d - n) ≡ d = omega (arith, ltb-false d n p) in
        record { gate = d - n; waits = eqb-true (get_or place (d - n) 0) 0 s; reads = Memᴰ.head back }
    go false p false s ih = later (ih (rw (p, s) at e))

-- none of the k gates from gate j on is ready
pub none-ready : (S : ℕ → List ℕ) (n : ℕ) (place : List ℕ) (j k : ℕ) → passed S n place j k ≡ k → (i : ℕ) → i < k → ready S n place (j + i) ≡ false
none-ready S n place j zero e i h = absurd (omega arith)
none-ready S n place j (suc k) e i h = go (ready S n place j) refl i h (none-ready S n place (suc j) k)
  where
    shift : (i : ℕ) → suc j + i ≡ j + suc i
    shift i = omega arith

    go : (q : Bool) → ready S n place j ≡ q → (i : ℕ) → i < suc k
        → (passed S n place (suc j) k ≡ k → (i : ℕ) → i < k → ready S n place (suc j + i) ≡ false)
        → ready S n place (j + i) ≡ false
    go true p i h ih = absurd (let z : 0 ≡ suc k = rw p at e in omega arith)
    go false p zero h ih = rw add-zero p
    go false p (suc i) h ih =
        let rest : suc (passed S n place (suc j) k) ≡ suc k = rw p at e in
        rw (← shift i) (ih (omega arith) i (omega arith))

-- where no gate is ready and one is not placed, a gate depends on itself
module _ (S : ℕ → List ℕ) (n g : ℕ) (place : List ℕ)
    (known : (j i : ℕ) → j < g → Reads S n j i → i < g)
    (stuck : (j : ℕ) → j < g → ready S n place j ≡ false) where
  pub loop : (a : ℕ) → a < g → get_or place a 0 ≡ 0 → Cycle (Depends S n) g
  unfolding ready
  loop a h e = cycle (λ j. eqb (get_or place j 0) 0) (Depends S n) (depends-on S n) g leads a h (eq-eqb _ _ e)
    where
      idle : (j : ℕ) → j < g → eqb (get_or place j 0) 0 ≡ true → all_placed n place (S j) ≡ false
      idle j h p = rw p at (stuck j h)

      leads : (j : ℕ) → j < g → eqb (get_or place j 0) 0 ≡ true → Lead (λ j. eqb (get_or place j 0) 0) (Depends S n) g j
      leads j h p =
          let w = waiting n place (S j) (idle j h p) in
          record { to = w.gate; below = known j w.gate h w.reads; member = eq-eqb _ _ w.waits; by = direct w.reads }
