-- Marks spread from a gate to all that it depends on, but not past gates that are known not to depend on themselves. Assumes nothing.
use Prim.Native.Nat.{ℕ, ◌+◌, ◌-◌, ◌*◌, ◌<◌}
use mathlib.Core.Path.{◌≡◌, refl, ap, sym, subst, ◌∙◌}
use mathlib.Core.Bool.{Bool, true, false, not}
use mathlib.Core.List.{List}
use mathlib.Core.Logic.{◌⊎◌, inl, inr, ⊎_elim, by_cases}
use native.Mathlib.Nat.{eq-or-lt_of_le}
use native.Mathlib.Decide.{dec_lt}
use native.Mathlib.Omega.{arith}
use lib.ListN.{length, get_or, set, length-set}
use lib.Seq.{get_or-set_same}
use lib.Dec.{eqb}
use borrow.Author.Tests.{eqb-true, eqb-false}
use Rattle.placing.specs.Placing.{Reads, Depends, direct, further}
use Rattle.placing.proofs.Loop.{depends-on}
use Rattle.loops.specs.Marks.{unseen, Room, Lies, Marked, Clear, Answers}
use Rattle.loops.proofs.Marks.{none_or_some, unseen-few, higher}

-- a gate that the search begins with or comes to
abbrev pub Way : (ℕ → List ℕ) → ℕ → ℕ → ℕ → Type 0
Way S n gate x = (x ≡ gate) ⊎ Depends S n gate x

pub record Tracing (S : ℕ → List ℕ) (n g gate : ℕ) (clear m pile : List ℕ) (top : ℕ) : Type 0 where
  pub room : Room m pile top
  pub sound : (i : ℕ) → get_or clear i 0 ≡ 0 → 0 < get_or m i 0 → Depends S n gate i
  pub inside : (p : ℕ) → p < top → get_or pile p 0 < g
  pub way : (p : ℕ) → p < top → Way S n gate (get_or pile p 0)
  pub next : (i : ℕ) → (i ≡ gate) ⊎ (0 < get_or m i 0) → get_or clear i 0 ≡ 0 → Lies pile 0 top i ⊎ ((k : ℕ) → Reads S n i k → 0 < get_or m k 0)

pub begin : (S : ℕ → List ℕ) (n g gate : ℕ) (clear pile : List ℕ) → gate < g → length clear ≡ 1024 → length pile ≡ 1025 → Tracing S n g gate clear clear (set pile 0 gate) 1
begin S n g gate clear pile low long deep =
    record {
      room = record { long = long; deep = rw length-set deep; free = omega (arith, unseen-few clear) };
      sound = λ i e h. absurd (omega arith);
      inside = λ p h. rw (lain p h) low;
      way = λ p h. inl (lain p h);
      next = λ i w e. ⊎_elim (λ (q : i ≡ gate). inl (record { at = 0; past = omega arith; below = omega arith; is = lain 0 (omega arith) ∙ sym q }))
          (λ (h : 0 < get_or clear i 0). absurd (omega arith)) w;
    }
  where
    lain : (p : ℕ) → p < 1 → get_or (set pile 0 gate) p 0 ≡ gate
    lain p h = let e : p ≡ 0 = omega arith in rw e (get_or-set_same pile 0 gate 0 (omega arith))

-- what a gate on the way reads
leads : (S : ℕ → List ℕ) (n gate x i : ℕ) → Way S n gate x → Reads S n x i → Depends S n gate i
leads S n gate x i w r = ⊎_elim (λ (e : x ≡ gate). subst (λ (y : ℕ). Depends S n y i) e (direct r)) (λ d. depends-on S n gate x i d (direct r)) w

module _ {S : ℕ → List ℕ} {n g gate : ℕ} {clear m pile : List ℕ} {top : ℕ} (tracing : Tracing S n g gate clear m pile top) (some : 0 < top) where
  pub low : get_or pile (top - 1) 0 < g
  low = tracing.inside (top - 1) (omega arith)

  pub lower : Room m pile (top - 1)
  lower = record { long = tracing.room.long; deep = tracing.room.deep; free = omega (arith, tracing.room.free) }

  module _ (known : (j i : ℕ) → j < g → Reads S n j i → i < g) {m' pile' : List ℕ} {top' : ℕ}
      (k : Marked n (S (get_or pile (top - 1) 0)) m pile (top - 1) m' pile' top') where
    onward : (i : ℕ) → Reads S n (get_or pile (top - 1) 0) i → Depends S n gate i
    onward i r = leads S n gate (get_or pile (top - 1) 0) i (tracing.way (top - 1) (omega arith)) r

    -- an entry of the pile: as it was, or read by the gate just taken
    each : (P : ℕ → Type 0) → ((p : ℕ) → p < top → P (get_or pile p 0)) → ((i : ℕ) → Reads S n (get_or pile (top - 1) 0) i → P i)
        → (p : ℕ) → p < top' → P (get_or pile' p 0)
    each P old new p h =
        by_cases (dec_lt p (top - 1)) (λ (q : p < top - 1). subst P (sym (k.kept p q)) (old p (omega arith)))
        (λ (q : p < top - 1 → ⊥). new (get_or pile' p 0) (k.added p (omega arith) h))

    pub turn : Tracing S n g gate clear m' pile' top'
    turn =
        record {
          room = k.room;
          sound = λ i e h. ⊎_elim (λ (z : get_or m i 0 ≡ 0). onward i (k.only i z h).0) (tracing.sound i e) (none_or_some (get_or m i 0));
          inside = each (λ (x : ℕ). x < g) tracing.inside (λ i r. known (get_or pile (top - 1) 0) i low r);
          way = each (Way S n gate) tracing.way (λ i r. inr (onward i r));
          next = λ i w e. ⊎_elim (λ q. earlier i (tracing.next i (inl q) e))
              (λ h. ⊎_elim (λ (z : get_or m i 0 ≡ 0). inl (higher pile' 0 top' (top - 1) i (omega arith) (k.only i z h).1))
              (λ was. earlier i (tracing.next i (inr was) e)) (none_or_some (get_or m i 0))) w;
        }
      where
        Next : ℕ → Type 0
        Next i = Lies pile' 0 top' i ⊎ ((j : ℕ) → Reads S n i j → 0 < get_or m' j 0)

        lying : (i : ℕ) → Lies pile 0 top i → Next i
        lying i l =
            ⊎_elim (λ (q : l.at ≡ top - 1). inr (λ j r. k.all j (subst (λ (x : ℕ). Reads S n x j) (sym (sym (ap (λ (p : ℕ). get_or pile p 0) q) ∙ l.is)) r)))
            (λ (q : l.at < top - 1). inl (record { at = l.at; past = l.past; below = omega (arith, k.rises); is = k.kept l.at q ∙ l.is }))
            (eq-or-lt_of_le {n = l.at} {m = top - 1} (omega (arith, l.below)))

        earlier : (i : ℕ) → Lies pile 0 top i ⊎ ((j : ℕ) → Reads S n i j → 0 < get_or m j 0) → Next i
        earlier i was = ⊎_elim (lying i) (λ (all : (j : ℕ) → Reads S n i j → 0 < get_or m j 0). inr (λ j r. k.seen j (all j r))) was

    pub less : 2 * unseen m' + top' < 2 * unseen m + top
    less = omega (arith, k.equal, k.rises)

-- the pile is empty: what leads back to the gate is marked
module _ {S : ℕ → List ℕ} {n g gate : ℕ} {clear m pile : List ℕ} {top : ℕ} (tracing : Tracing S n g gate clear m pile top) (over : top ≡ 0)
    (cleared : Clear S n clear) (open-gate : get_or clear gate 0 ≡ 0) where
  free : (x : ℕ) → Way S n gate x → Depends S n x gate → get_or clear x 0 ≡ 0
  free x w d =
      ⊎_elim (λ (e : get_or clear x 0 ≡ 0). e)
      (λ (h : 0 < get_or clear x 0). absurd (cleared x h (⊎_elim (λ (q : x ≡ gate). subst (Depends S n x) (sym q) d) (λ f. depends-on S n x gate x d f) w)))
      (none_or_some (get_or clear x 0))

  sources : (x : ℕ) → (x ≡ gate) ⊎ (0 < get_or m x 0) → get_or clear x 0 ≡ 0 → (k : ℕ) → Reads S n x k → 0 < get_or m k 0
  sources x s e k r =
      ⊎_elim (λ (l : Lies pile 0 top x). absurd (omega (arith, l.below))) (λ (all : (k : ℕ) → Reads S n x k → 0 < get_or m k 0). all k r) (tracing.next x s e)

  back : (x : ℕ) → (x ≡ gate) ⊎ (0 < get_or m x 0) → Way S n gate x → Depends S n x gate → 0 < get_or m gate 0
  back x s w (direct r) = sources x s (free x w (direct r)) gate r
  back x s w (further {i = y} r d) =
      back y (inr (sources x s (free x w (further r d)) y r)) (inr (leads S n gate x y w r)) d

  pub answered : Answers S n gate (not (eqb (get_or m gate 0) 0))
  answered = go (eqb (get_or m gate 0) 0) refl
    where
      go : (b : Bool) → eqb (get_or m gate 0) 0 ≡ b → Answers S n gate (not b)
      go true e =
          record {
            right = λ q. absurd (let z : ◌≡◌ {A = ℕ} 0 1 = cc in omega arith);
            wrong = λ _ d. omega (arith, back gate (inl refl) (inl refl) d, eqb-true (get_or m gate 0) 0 e);
          }
      go false e =
          record {
            right = λ _. ⊎_elim (λ z. absurd (eqb-false (get_or m gate 0) 0 e z)) (tracing.sound gate open-gate) (none_or_some (get_or m gate 0));
            wrong = λ q. absurd (let z : ◌≡◌ {A = ℕ} 0 1 = cc in omega arith);
          }

-- a gate with an entry is known not to depend on itself
pub answered-before : (S : ℕ → List ℕ) (n gate : ℕ) (clear : List ℕ) → Clear S n clear → (get_or clear gate 0 ≡ 0 → ⊥) → Answers S n gate false
answered-before S n gate clear cleared some =
    record {
      right = λ q. absurd (let z : ◌≡◌ {A = ℕ} 0 1 = cc in omega arith);
      wrong = λ _. ⊎_elim (λ z. absurd (some z)) (cleared gate) (none_or_some (get_or clear gate 0));
    }
