-- The sources of gates, one gate after another. Assumes nothing.
use Prim.Native.Nat.{ℕ, zero, suc, ◌+◌, ◌-◌, ◌*◌, ◌<◌, ◌≤◌}
use mathlib.Core.Path.{◌≡◌, refl, ap, ap₂, sym, ◌∙◌}
use mathlib.Core.List.{List, ◌∷◌, map}
use mathlib.Core.Logic.{⊎_elim}
use native.Mathlib.Decide.{ℕ_discrete}
use native.Mathlib.Nat.{add-zero, eq-or-lt_of_le}
use native.Mathlib.Numerals.{add-one}
use native.Mathlib.Omega.{arith}
use lib.ListN.{length, get_or, drop, take, set, length-set}
use lib.Seq.{get_or-set_same, get_or-set_other}
use Rattle.refusal.specs.Judgement.{Fine}
use Rattle.refusal.specs.Judgement.{lowest}
use Rattle.refusal.proofs.Laws.{lowest-more}
use Rattle.texts.specs.Words.{Word, word_of, held}
use Rattle.statements.specs.Lines.{bytes_from}
use Rattle.statements.proofs.Lines.{length-bytes}
use Rattle.placing.specs.Placing.{entries, sources_of}
use Rattle.model.specs.Model.{word_in, after, number, sources}
use Rattle.model.specs.Tables.{rest_at, gate_from}
use Rattle.model.proofs.Runs.{same_line, in-line, held-length}
use Rattle.resolve.specs.Names.{unknown_fault}
use Rattle.resolve.specs.Found.{found_at, Found, Sources, Room, Clear}
use Rattle.resolve.proofs.Lookup.{before-number}

take-bytes : (t s : List ℕ) (i k m : ℕ) → k ≤ m → take k (bytes_from t s i m) ≡ bytes_from t s i k
take-bytes t s i zero m h = refl
take-bytes t s i (suc k) zero h = absurd (omega arith)
take-bytes t s i (suc k) (suc m) h = rw (take-bytes t s (suc i) k m (omega arith))

-- the sources of a gate are the words between its first and its last
module _ (t s l : List ℕ) (n h : ℕ) (inside : h < n) where
  abbrev r : ℕ
  r = rest_at l n h

  pub sources-held : sources (gate_from t s l n h) ≡ held t s l (h + 1) (rest_at l n h - 1)
  sources-held =
      ap (λ (m : ℕ). map (word_in (get_or l h 0)) (take m (after (bytes_from t s h (rest_at l n h + 1))))) two
      ∙ ap (map (word_in (get_or l h 0))) (rest-bytes ∙ take-bytes t s (h + 1) (rest_at l n h - 1) (rest_at l n h) (omega arith))
      ∙ in-line t s l (get_or l h 0) (h + 1) (rest_at l n h - 1) (λ j m. rw (← shift j) (same_line t s l n h (rest_at l n h) inside refl (suc j) (omega arith)))
    where
      two : length (bytes_from t s h (rest_at l n h + 1)) - 2 ≡ rest_at l n h - 1
      two = omega (arith, length-bytes t s h (rest_at l n h + 1))

      shift : (j : ℕ) → h + suc j ≡ h + 1 + j
      shift j = omega arith

      rest-bytes : take (rest_at l n h - 1) (after (bytes_from t s h (rest_at l n h + 1))) ≡ take (rest_at l n h - 1) (bytes_from t s (h + 1) (rest_at l n h))
      rest-bytes = rw (add-one (rest_at l n h), add-one h) refl

-- entries that are numbers of words
pub numbered : (ls t nm : List ℕ) (m : ℕ) (s l pins : List ℕ) (a b k : ℕ)
    → ((i : ℕ) → i < k → get_or pins (b + i) 0 ≡ found_at t nm m s (a + i))
    → entries pins b k ≡ map (λ (w : Word). number (held t nm ls 0 m) w.bytes) (held t s l a k)
numbered ls t nm m s l pins a b zero f = refl
numbered ls t nm m s l pins a b (suc k) f =
    let first : get_or pins b 0 ≡ found_at t nm m s a = rw (add-zero, add-zero) at (f 0 (omega arith)) in
    ap₂ ◌∷◌ (first ∙ before-number t nm ls (word_of (drop (get_or s a 0) t)) 0 m)
    (numbered ls t nm m s l pins (suc a) (suc b) k (λ i h. rw (shift b i, shift a i) (f (suc i) (omega arith))))
  where
    shift : (x i : ℕ) → suc x + i ≡ x + suc i
    shift x i = omega arith

same_entries : (old new : List ℕ) (b k : ℕ) → ((i : ℕ) → i < b + k → get_or new i 0 ≡ get_or old i 0) → entries new b k ≡ entries old b k
same_entries old new b zero f = refl
same_entries old new b (suc k) f = ap₂ ◌∷◌ (f b (omega arith)) (same_entries old new (suc b) k (λ i h. f i (omega arith)))

-- what is known before gate j
pub record Resolving (t nm : List ℕ) (m : ℕ) (s l : List ℕ) (n : ℕ) (heads pins counts : List ℕ) (j : ℕ) : Type 0 where
  pub room : Room pins counts
  pub so_far : (ls : List ℕ) → Sources (held t nm ls 0 m) t s l n heads pins counts j
  pub fine : (ls : List ℕ) → lowest (λ (i : ℕ). unknown_fault (held t nm ls 0 m) (sources (gate_from t s l n (get_or heads i 0)))) j ≡ Fine

module _ (t nm : List ℕ) (m : ℕ) (s l : List ℕ) (n : ℕ) (heads : List ℕ) where
  pub begin : (pins counts : List ℕ) → Room pins counts → Clear pins counts → Resolving t nm m s l n heads pins counts 0
  begin pins counts room clear =
      record {
        room = room;
        so_far = λ ls.
            record {
              room = room;
              each = λ j h. absurd (omega arith);
              few = λ j. rw (clear.no_count j) (omega arith);
              past = λ j h. clear.no_count j;
              below = λ b h p i. rw (clear.no_pin i) p;
            };
        fine = λ ls. refl;
      }

  module _ (pins counts : List ℕ) (j : ℕ) (known : Resolving t nm m s l n heads pins counts j) (inside : j < 1024)
      (head_in : get_or heads j 0 < n) (fits : rest_at l n (get_or heads j 0) ≤ 5) where
    pub turn : (pins' counts' : List ℕ)
        → ((ls : List ℕ) → Fine ≡ unknown_fault (held t nm ls 0 m) (sources (gate_from t s l n (get_or heads j 0))))
        → Found t nm m s (get_or heads j 0 + 1) (rest_at l n (get_or heads j 0) - 1) pins pins' (4 * j)
        → counts' ≡ set counts j (rest_at l n (get_or heads j 0) - 1)
        → Resolving t nm m s l n heads pins' counts' (j + 1)
    turn pins' counts' fine found e =
        record {
          room = record { long = found.kept.long ∙ known.room.long; wide = rw (e, length-set) known.room.wide };
          so_far = λ ls.
              record {
                room = record { long = found.kept.long ∙ known.room.long; wide = rw (e, length-set) known.room.wide };
                each = λ i h. ⊎_elim (newest ls i) (older ls i) (eq-or-lt_of_le {n = i} {m = j} (omega arith));
                few = λ i. small ls i (ℕ_discrete i j);
                past = λ i h. other i (λ q. omega arith) ∙ (known.so_far ls).past i (omega arith);
                below = λ b h p. found.below b (rw (← held-length t nm ls 0 m) h) ((known.so_far ls).below b h p);
              };
          fine = λ ls. lowest-more (λ (i : ℕ). unknown_fault (held t nm ls 0 m) (sources (gate_from t s l n (get_or heads i 0)))) j (known.fine ls) (sym (fine ls));
        }
      where
        own : get_or counts' j 0 ≡ rest_at l n (get_or heads j 0) - 1
        own = rw e (get_or-set_same counts j (rest_at l n (get_or heads j 0) - 1) 0 (omega (arith, known.room.wide)))

        other : (i : ℕ) → (i ≡ j → ⊥) → get_or counts' i 0 ≡ get_or counts i 0
        other i q = rw e (get_or-set_other counts j i (rest_at l n (get_or heads j 0) - 1) 0 q)

        small : (ls : List ℕ) (i : ℕ) → Dec (i ≡ j) → get_or counts' i 0 ≤ 4
        small ls i (yes q) = rw (q, own) (omega arith)
        small ls i (no q) = rw (other i q) ((known.so_far ls).few i)

        newest : (ls : List ℕ) (i : ℕ) → i ≡ j
            → sources_of pins' counts' i ≡ map (λ (w : Word). number (held t nm ls 0 m) w.bytes) (sources (gate_from t s l n (get_or heads i 0)))
        newest ls i q =
            rw (q, own, sources-held t s l n (get_or heads j 0) head_in)
            (numbered ls t nm m s l pins' (get_or heads j 0 + 1) (4 * j) (rest_at l n (get_or heads j 0) - 1) found.new_at)

        older : (ls : List ℕ) (i : ℕ) → i < j
            → sources_of pins' counts' i ≡ map (λ (w : Word). number (held t nm ls 0 m) w.bytes) (sources (gate_from t s l n (get_or heads i 0)))
        older ls i q =
            rw (other i (λ p. omega arith))
            (same_entries pins pins' (4 * i) (get_or counts i 0) (λ k h. found.kept.earlier k (omega (arith, (known.so_far ls).few i)))
            ∙ (known.so_far ls).each i q)
