-- The test of dependence says what dependence is. Assumes nothing.
use Prim.Native.Nat.{ℕ, zero, suc, ◌+◌, ◌<◌}
use mathlib.Core.Path.{◌≡◌, refl, sym, ◌∙◌}
use mathlib.Core.Bool.{Bool, true, false, ◌||◌, ◌&&◌, and-eq-true_iff}
use mathlib.Core.List.Memᴰ
use mathlib.Core.List.{List, [], ◌∷◌, Memᴰ}
use mathlib.Core.Logic.{◌⊎◌, inl, inr, ⊎_elim}
use native.Mathlib.Nat.{eq-or-lt_of_le}
use native.Mathlib.Omega.{arith}
use lib.Dec.{eqb}
use borrow.Author.Tests.{eq-eqb, eqb-true}
use Rattle.placing.specs.Placing.{Reads, Depends, direct, further, is_source, via}
use Rattle.placing.proofs.Loop.{depends-on}

pub source_in : (d : ℕ) (xs : List ℕ) → is_source d xs ≡ true → Memᴰ d xs
source_in d [] e = absurd (let z : ◌≡◌ {A = ℕ} 0 1 = cc in omega arith)
source_in d (x ∷ xs) e = go (eqb d x) refl (source_in d xs)
  where
    go : (b : Bool) → eqb d x ≡ b → (is_source d xs ≡ true → Memᴰ d xs) → Memᴰ d (x ∷ xs)
    go true p ih = Memᴰ.head (eqb-true d x p)
    go false p ih = Memᴰ.tail (ih (rw p at e))

pub in_source : (d : ℕ) (xs : List ℕ) → Memᴰ d xs → is_source d xs ≡ true
in_source d [] m = elim m [ ]
in_source d (x ∷ xs) m = go (eqb d x) refl (in_source d xs)
  where
    go : (b : Bool) → eqb d x ≡ b → (Memᴰ d xs → is_source d xs ≡ true) → is_source d (x ∷ xs) ≡ true
    go true p ih = rw p
    go false p ih = rw p (ih (⊎_elim (λ (q : d ≡ x). absurd (let z : ◌≡◌ {A = Bool} true false = sym (eq-eqb d x q) ∙ p in let y : ◌≡◌ {A = ℕ} 0 1 = cc in omega arith)) (λ m. m) (Memᴰ.cases_cons m)))

either : (a b : Bool) → a || b ≡ true → (a ≡ true) ⊎ (b ≡ true)
either true b e = inl refl
either false b e = inr e

left_or : (a b : Bool) → a ≡ true → a || b ≡ true
left_or a b e = rw e

right_or : (a b : Bool) → b ≡ true → a || b ≡ true
right_or true b e = refl
right_or false b e = e

module _ (S : ℕ → List ℕ) (n : ℕ) where
  -- by way of a gate below k
  split : (k j i : ℕ) → via S n (suc k) j i ≡ true → (via S n k j i ≡ true) ⊎ ((via S n k j k ≡ true) × (via S n k k i ≡ true))
  split k j i e =
      ⊎_elim inl (λ (b : via S n k j k && via S n k k i ≡ true). inr ((and-eq-true_iff (via S n k j k) (via S n k k i)).0 b))
      (either (via S n k j i) (via S n k j k && via S n k k i) e)

  more : (k j i : ℕ) → via S n k j i ≡ true → via S n (suc k) j i ≡ true
  more k j i e = left_or (via S n k j i) (via S n k j k && via S n k k i) e

  by_last : (k j i : ℕ) → via S n k j k ≡ true → via S n k k i ≡ true → via S n (suc k) j i ≡ true
  by_last k j i e f = right_or (via S n k j i) (via S n k j k && via S n k k i) ((and-eq-true_iff (via S n k j k) (via S n k k i)).1 (e, f))

  pub via-depends : (k j i : ℕ) → via S n k j i ≡ true → Depends S n j i
  via-depends zero j i e = direct (source_in (n + i) (S j) e)
  via-depends (suc k) j i e =
      ⊎_elim (via-depends k j i)
      (λ (b : (via S n k j k ≡ true) × (via S n k k i ≡ true)). depends-on S n j k i (via-depends k j k b.0) (via-depends k k i b.1))
      (split k j i e)

  reads-via : (k j i : ℕ) → Reads S n j i → via S n k j i ≡ true
  reads-via zero j i r = in_source (n + i) (S j) r
  reads-via (suc k) j i r = more k j i (reads-via k j i r)

  -- ways that meet in a gate below k are one way
  joins : (k a b c : ℕ) → b < k → via S n k a b ≡ true → via S n k b c ≡ true → via S n k a c ≡ true
  joins zero a b c h e f = absurd (omega arith)
  joins (suc k) a b c h e f = ⊎_elim at_last (before (joins k)) (eq-or-lt_of_le {n = b} {m = k} (omega arith))
    where
      to_last : (x : ℕ) → via S n (suc k) x k ≡ true → via S n k x k ≡ true
      to_last x p = ⊎_elim (λ q. q) (λ (q : (via S n k x k ≡ true) × (via S n k k k ≡ true)). q.0) (split k x k p)

      from_last : (x : ℕ) → via S n (suc k) k x ≡ true → via S n k k x ≡ true
      from_last x p = ⊎_elim (λ q. q) (λ (q : (via S n k k k ≡ true) × (via S n k k x ≡ true)). q.1) (split k k x p)

      at_last : b ≡ k → via S n (suc k) a c ≡ true
      at_last q = by_last k a c (to_last a (rw q at e)) (from_last c (rw q at f))

      before : ((a b c : ℕ) → b < k → via S n k a b ≡ true → via S n k b c ≡ true → via S n k a c ≡ true) → b < k → via S n (suc k) a c ≡ true
      before ih low = ⊎_elim near far (split k a b e)
        where
          near : via S n k a b ≡ true → via S n (suc k) a c ≡ true
          near p =
              ⊎_elim (λ q. more k a c (ih a b c low p q))
              (λ (q : (via S n k b k ≡ true) × (via S n k k c ≡ true)). by_last k a c (ih a b k low p q.0) q.1)
              (split k b c f)

          far : (via S n k a k ≡ true) × (via S n k k b ≡ true) → via S n (suc k) a c ≡ true
          far p =
              ⊎_elim (λ q. by_last k a c p.0 (ih k b c low p.1 q))
              (λ (q : (via S n k b k ≡ true) × (via S n k k c ≡ true)). by_last k a c p.0 q.1)
              (split k b c f)

  pub depends-via : (g : ℕ) → ((j i : ℕ) → j < g → Reads S n j i → i < g) → (j i : ℕ) → j < g → Depends S n j i → via S n g j i ≡ true
  depends-via g known j i h (direct r) = reads-via g j i r
  depends-via g known j i h (further {i = m} r d) =
      let low = known j m h r in
      joins g j m i low (reads-via g j m r) (depends-via g known m i low d)
