-- Names looked up one after another. Assumes nothing.
use Prim.Native.Nat.{ℕ, zero, suc, ◌+◌, ◌<◌, ◌≤◌}
use mathlib.Core.Path.{◌≡◌, refl, ap, ap₂, sym, ◌∙◌}
use mathlib.Core.Bool.{Bool, true, false}
use mathlib.Core.List.{List}
use mathlib.Core.Logic.{⊎_elim}
use native.Mathlib.Decide.{ℕ_discrete}
use native.Mathlib.Nat.{zero-add, eq-or-lt_of_le}
use native.Mathlib.Omega.{arith}
use lib.ListN.{length, get_or, drop, set, length-set}
use lib.Seq.{get_or-set_same, get_or-set_other}
use lib.Dec.{eqb, ltb}
use borrow.Author.Tests.{eq-eqb, ne_eqb, lt-ltb, le-ltb}
use Rattle.refusal.specs.Judgement.{Fine, refused}
use Rattle.refusal.specs.Judgement.{lowest, refuse_unless}
use Rattle.refusal.proofs.Laws.{lowest-more, lowest-answer}
use Rattle.texts.specs.Words.{Word, word_of, word_at, held}
use Rattle.names.specs.Names.{same, before, name_at}
use Rattle.model.specs.Model.{number, no_word}
use Rattle.model.specs.Counts.{line_at}
use Rattle.model.proofs.Runs.{held-length, held_at}
use Rattle.resolve.specs.Names.{again_at, again_fault, unknown_at, unknown_fault}
use Rattle.resolve.specs.Found.{found_at, Found}
use Rattle.refusal.specs.declared.Cause.TheVariants.{TextModel}

-- the search in a table is the search in the list of its words
pub before-number : (t nm nl w : List ℕ) (i k : ℕ) → before t nm w i k ≡ number (held t nm nl i k) w
before-number t nm nl w i zero = refl
before-number t nm nl w i (suc k) = rw (before-number t nm nl w (suc i) k)

pub before-low : (t nm w : List ℕ) (i k : ℕ) → before t nm w i k ≤ k
before-low t nm w i zero = omega arith
before-low t nm w i (suc k) = go (same (name_at t nm i) w) refl (before-low t nm w (suc i) k)
  where
    go : (b : Bool) → same (name_at t nm i) w ≡ b → before t nm w (suc i) k ≤ k → before t nm w i (suc k) ≤ suc k
    go true e h = rw e (omega arith)
    go false e h = rw e (omega arith)

-- definitions
module _ (t nm nl : List ℕ) (m i : ℕ) (here : i < m) where
  again-here : again_at (held t nm nl 0 m) i ≡ refuse_unless (eqb (found_at t nm m nm i) i) TextModel (get_or nl i 0)
  again-here =
      let entry : get_or (held t nm nl 0 m) i no_word ≡ word_at t nm nl i = held_at t nm nl 0 m i here ∙ ap (word_at t nm nl) (zero-add i) in
      ap₂ (λ (d x : ℕ). refuse_unless (eqb d i) TextModel x)
      (ap (λ (x : Word). number (held t nm nl 0 m) x.bytes) entry ∙ sym (before-number t nm nl (word_of (drop (get_or nm i 0) t)) 0 m))
      (ap (λ (x : Word). x.line) entry)

  pub again-first : found_at t nm m nm i ≡ i → again_at (held t nm nl 0 m) i ≡ Fine
  again-first e = again-here ∙ rw (eq-eqb _ _ e)

  pub again-later : (found_at t nm m nm i ≡ i → ⊥) → again_at (held t nm nl 0 m) i ≡ refused TextModel (get_or nl i 0)
  again-later e = again-here ∙ rw (ne_eqb _ _ e)

-- uses
module _ (t nm nl : List ℕ) (m : ℕ) (s l : List ℕ) (start count i : ℕ) (here : i < count) where
  unknown-here : unknown_at (held t nm nl 0 m) (held t s l start count) i ≡ refuse_unless (ltb (found_at t nm m s (start + i)) m) TextModel (get_or l (start + i) 0)
  unknown-here =
      let entry = held_at t s l start count i here in
      ap (λ (k : ℕ). refuse_unless (ltb (number (held t nm nl 0 m) (get_or (held t s l start count) i no_word).bytes) k) TextModel (line_at (held t s l start count) i)) (held-length t nm nl 0 m)
      ∙ ap₂ (λ (d x : ℕ). refuse_unless (ltb d m) TextModel x)
      (ap (λ (x : Word). number (held t nm nl 0 m) x.bytes) entry ∙ sym (before-number t nm nl (word_of (drop (get_or s (start + i) 0) t)) 0 m))
      (ap (λ (x : Word). x.line) entry)

  pub known : found_at t nm m s (start + i) < m → unknown_at (held t nm nl 0 m) (held t s l start count) i ≡ Fine
  known h = unknown-here ∙ rw (lt-ltb _ _ h)

  pub unknown : m ≤ found_at t nm m s (start + i) → unknown_at (held t nm nl 0 m) (held t s l start count) i ≡ refused TextModel (get_or l (start + i) 0)
  unknown h = unknown-here ∙ rw (le-ltb _ _ h)

-- what is known after i words
pub record Looking (t nm : List ℕ) (m : ℕ) (s l : List ℕ) (start count : ℕ) (old new : List ℕ) (base i : ℕ) : Type 0 where
  pub found : Found t nm m s start i old new base
  pub fine : (ls : List ℕ) → lowest (unknown_at (held t nm ls 0 m) (held t s l start count)) i ≡ Fine

module _ (t nm : List ℕ) (m : ℕ) (s l : List ℕ) (start count : ℕ) (old : List ℕ) (base : ℕ) where
  pub begin : Looking t nm m s l start count old old base 0
  begin =
      record {
        found =
            record {
              kept = record { long = refl; earlier = λ i h. refl };
              new_at = λ i h. absurd (omega arith);
              below = λ b h f. f;
            };
        fine = λ ls. refl;
      }

  module _ (new : List ℕ) (i : ℕ) (look : Looking t nm m s l start count old new base i) (here : i < count) (room : base + count ≤ length old) where
    pub turn : (d : ℕ) → d ≡ found_at t nm m s (start + i) → d < m → Looking t nm m s l start count old (set new (base + i) d) base (i + 1)
    turn d e low =
        record {
          found =
              record {
                kept =
                    record {
                      long = rw length-set look.found.kept.long;
                      earlier = λ k h. get_or-set_other new (base + i) k d 0 (λ q. omega arith) ∙ look.found.kept.earlier k h;
                    };
                new_at = λ k h. ⊎_elim (newest k) (older k) (eq-or-lt_of_le {n = k} {m = i} (omega arith));
                below = λ b h f k. bounded b h f k (ℕ_discrete k (base + i));
              };
          fine = λ ls. lowest-more (unknown_at (held t nm ls 0 m) (held t s l start count)) i (look.fine ls) (known t nm ls m s l start count i here (rw (← e) low));
        }
      where
        own : get_or (set new (base + i) d) (base + i) 0 ≡ d
        own = get_or-set_same new (base + i) d 0 (omega (arith, look.found.kept.long))

        newest : (k : ℕ) → k ≡ i → get_or (set new (base + i) d) (base + k) 0 ≡ found_at t nm m s (start + k)
        newest k q = rw (q, own) e

        older : (k : ℕ) → k < i → get_or (set new (base + i) d) (base + k) 0 ≡ found_at t nm m s (start + k)
        older k q = get_or-set_other new (base + i) (base + k) d 0 (λ p. omega arith) ∙ look.found.new_at k q

        bounded : (b : ℕ) → m ≤ b → ((k : ℕ) → get_or old k 0 < b) → (k : ℕ) → Dec (k ≡ base + i) → get_or (set new (base + i) d) k 0 < b
        bounded b h f k (yes q) = rw (q, own) (omega arith)
        bounded b h f k (no q) = rw (get_or-set_other new (base + i) k d 0 q) (look.found.below b h f k)

    -- an undefined name ends it
    pub stops : (d : ℕ) → d ≡ found_at t nm m s (start + i) → d ≡ m → (ls : List ℕ)
        → refused TextModel (get_or l (start + i) 0) ≡ unknown_fault (held t nm ls 0 m) (held t s l start count)
    unfolding unknown_fault
    stops d e top ls =
        rw (held-length t s l start count)
        (lowest-answer (unknown_at (held t nm ls 0 m) (held t s l start count)) count i TextModel (get_or l (start + i) 0) here (look.fine ls)
        (unknown t nm ls m s l start count i here (omega arith)))

  pub finish : (new : List ℕ) (i : ℕ) → i ≡ count → Looking t nm m s l start count old new base i
      → ((ls : List ℕ) → Fine ≡ unknown_fault (held t nm ls 0 m) (held t s l start count)) × (Found t nm m s start count old new base)
  unfolding unknown_fault
  finish new i e look = (λ ls. rw (held-length t s l start count) (sym (rw e at (look.fine ls))), rw e at look.found)

-- definitions one after another
module _ (t nm nl : List ℕ) (m i : ℕ) where
  pub again-stops : i < m → lowest (again_at (held t nm nl 0 m)) i ≡ Fine → (found_at t nm m nm i ≡ i → ⊥) → refused TextModel (get_or nl i 0) ≡ again_fault (held t nm nl 0 m)
  unfolding again_fault
  again-stops here fine e =
      rw (held-length t nm nl 0 m) (lowest-answer (again_at (held t nm nl 0 m)) m i TextModel (get_or nl i 0) here fine (again-later t nm nl m i here e))

  pub again-ends : i ≡ m → lowest (again_at (held t nm nl 0 m)) i ≡ Fine → Fine ≡ again_fault (held t nm nl 0 m)
  unfolding again_fault
  again-ends e fine = rw (held-length t nm nl 0 m) (sym (rw e at fine))
