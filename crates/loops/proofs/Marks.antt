-- Laws of marks and the pile. Assumes nothing.
use Prim.Native.Nat.{ℕ, zero, suc, ◌+◌, ◌-◌, ◌<◌, ◌≤◌}
use mathlib.Core.Path.{◌≡◌, refl, sym, subst, ◌∙◌}
use mathlib.Core.Bool.{Bool, true, false}
use mathlib.Core.List.Memᴰ
use mathlib.Core.List.{List, [], ◌∷◌, ◌++◌, Memᴰ}
use mathlib.Core.Logic.{◌⊎◌, inl, inr, ⊎_elim, by_cases}
use native.Mathlib.Decide.{ℕ_discrete, dec_lt}
use native.Mathlib.Omega.{arith}
use lib.ListN.{length, get_or, set, length-set}
use lib.Seq.{get_or-set_same, get_or-set_other}
use lib.Dec.{eqb}
use Rattle.placing.specs.Placing.{left}
use Rattle.placing.proofs.Placed.{left-set}
use Rattle.loops.specs.Marks.{unseen, Room, Lies, Marked}

pub by_number : (P : ℕ → Type 0) (j i : ℕ) → P j → ((i ≡ j → ⊥) → P i) → P i
by_number P j i at_j off = go (ℕ_discrete i j)
  where
    go : Dec (i ≡ j) → P i
    go (yes e) = subst P (sym e) at_j
    go (no e) = off e

pub none_or_some : (x : ℕ) → (x ≡ 0) ⊎ (0 < x)
none_or_some zero = inl refl
none_or_some (suc x) = inr (omega arith)

left-short : (m : List ℕ) (k : ℕ) → left m k ≤ k
left-short m zero = omega arith
left-short m (suc k) = go (eqb (get_or m k 0) 0) refl (left-short m k)
  where
    go : (b : Bool) → eqb (get_or m k 0) 0 ≡ b → left m k ≤ k → left m (suc k) ≤ suc k
    go true e h = rw e (omega arith)
    go false e h = rw e (omega arith)

pub unseen-few : (m : List ℕ) → unseen m ≤ 1024
unfolding unseen
unseen-few m = left-short m 1024

unseen-less : (m : List ℕ) (j : ℕ) → length m ≡ 1024 → j < 1024 → get_or m j 0 ≡ 0 → suc (unseen (set m j 1)) ≡ unseen m
unfolding unseen
unseen-less m j long inside e = (left-set m j 1 1024 (rw long inside) e (omega arith)).1 inside

pub higher : (pile : List ℕ) (start top later i : ℕ) → start ≤ later → Lies pile later top i → Lies pile start top i
higher pile start top later i h l = record { at = l.at; past = omega (arith, l.past); below = l.below; is = l.is }

-- every gate among the sources was seen before
pub marked-before : (n : ℕ) (ds m pile : List ℕ) (top : ℕ) → Room m pile top → ((i : ℕ) → Memᴰ (n + i) ds → 0 < get_or m i 0) → Marked n ds m pile top m pile top
marked-before n ds m pile top room before =
    record {
      room = room;
      rises = omega arith;
      equal = refl;
      seen = λ i h. h;
      all = before;
      only = λ i e h. absurd (omega arith);
      kept = λ p h. refl;
      added = λ p a b. absurd (omega arith);
    }

module _ (n source : ℕ) (m pile : List ℕ) (top : ℕ) (room : Room m pile top) where
  pub marked-input : source < n → Marked n (source ∷ []) m pile top m pile top
  marked-input l = marked-before n _ m pile top room (λ i x. absurd (omega (arith, Memᴰ.eq_of_singleton x)))

  module _ (outside : n ≤ source) (inside : source < n + 1024) where
    gate : (i : ℕ) → Memᴰ (n + i) (source ∷ []) → i ≡ source - n
    gate i x = omega (arith, Memᴰ.eq_of_singleton x)

    pub marked-seen : (get_or m (source - n) 0 ≡ 0 → ⊥) → Marked n (source ∷ []) m pile top m pile top
    marked-seen seen =
        marked-before n _ m pile top room
        (λ i x. rw (gate i x) (⊎_elim (λ e. absurd (seen e)) (λ (h : 0 < get_or m (source - n) 0). h) (none_or_some (get_or m (source - n) 0))))

    module _ (fresh : get_or m (source - n) 0 ≡ 0) where
      own : get_or (set m (source - n) 1) (source - n) 0 ≡ 1
      own = get_or-set_same m (source - n) 1 0 (omega (arith, room.long))

      fewer : suc (unseen (set m (source - n) 1)) ≡ unseen m
      fewer = unseen-less m (source - n) room.long (omega arith) fresh

      pub roomy : top < 1025
      roomy = omega (arith, fewer, room.free)

      lain : get_or (set pile top (source - n)) top 0 ≡ source - n
      lain = get_or-set_same pile top (source - n) 0 (omega (arith, roomy, room.deep))

      back : n + (source - n) ≡ source
      back = omega arith

      pub marked-new : Marked n (source ∷ []) m pile top (set m (source - n) 1) (set pile top (source - n)) (top + 1)
      marked-new =
          record {
            room = record { long = rw length-set room.long; deep = rw length-set room.deep; free = omega (arith, fewer, room.free) };
            rises = omega arith;
            equal = omega (arith, fewer);
            seen = λ i. by_number (λ i. 0 < get_or m i 0 → 0 < get_or (set m (source - n) 1) i 0) (source - n) i (λ h. omega (arith, own))
                (λ o h. omega (arith, get_or-set_other m (source - n) i 1 0 o));
            all = λ i x. rw (gate i x, own) (omega arith);
            only = λ i e. by_number (λ i. 0 < get_or (set m (source - n) 1) i 0 → Memᴰ (n + i) (source ∷ []) × Lies (set pile top (source - n)) top (top + 1) i) (source - n) i
                (λ _. (Memᴰ.head back, record { at = top; past = omega arith; below = omega arith; is = lain }))
                (λ o h. absurd (omega (arith, get_or-set_other m (source - n) i 1 0 o)));
            kept = λ p h. get_or-set_other pile top p (source - n) 0 (λ e. omega arith);
            added = λ p a b. let e : p ≡ top = omega arith in rw (e, lain) (Memᴰ.head back);
          }

-- one list of sources after another
pub marked-join : (n : ℕ) (ds es a pa : List ℕ) (ta : ℕ) (b pb : List ℕ) (tb : ℕ) (c pc : List ℕ) (tc : ℕ)
    → Marked n ds a pa ta b pb tb → Marked n es b pb tb c pc tc → Marked n (ds ++ es) a pa ta c pc tc
marked-join n ds es a pa ta b pb tb c pc tc f s =
    record {
      room = s.room;
      rises = omega (arith, f.rises, s.rises);
      equal = omega (arith, f.equal, s.equal);
      seen = λ i h. s.seen i (f.seen i h);
      all = λ i x. ⊎_elim (λ y. s.seen i (f.all i y)) (s.all i) (Memᴰ.append_cases ds x);
      only = λ i e h. ⊎_elim (late i h) (soon i e) (none_or_some (get_or b i 0));
      kept = λ p h. s.kept p (omega (arith, f.rises)) ∙ f.kept p h;
      added = λ p l h. by_cases (dec_lt p tb) (λ (q : p < tb). rw (s.kept p q) (Memᴰ.append_left es (f.added p l q)))
          (λ (q : p < tb → ⊥). Memᴰ.append_right ds (s.added p (omega arith) h));
    }
  where
    late : (i : ℕ) → 0 < get_or c i 0 → get_or b i 0 ≡ 0 → Memᴰ (n + i) (ds ++ es) × Lies pc ta tc i
    late i h e =
        let o = s.only i e h in
        (Memᴰ.append_right ds o.0, higher pc ta tc tb i f.rises o.1)

    soon : (i : ℕ) → get_or a i 0 ≡ 0 → 0 < get_or b i 0 → Memᴰ (n + i) (ds ++ es) × Lies pc ta tc i
    soon i e h =
        let o = f.only i e h in (
          Memᴰ.append_left es o.0,
          record { at = o.1.at; past = o.1.past; below = omega (arith, o.1.below, s.rises); is = s.kept o.1.at o.1.below ∙ o.1.is },
        )
