-- Laws of words at a place of a text. Assumes nothing.
use Prim.Native.Nat.{ℕ, zero, suc, ◌+◌, ◌*◌, ◌<◌, ◌≤◌}
use mathlib.Core.Path.{◌≡◌, refl, ap, sym}
use mathlib.Core.Bool.{Bool, true, false, cond}
use mathlib.Core.List.{List, [], ◌∷◌, ◌++◌, append-nil}
use borrow.Author.Count.{below_more}
use native.Mathlib.Numerals.{add-one}
use native.Mathlib.Nat.{add-zero, zero-add}
use native.Mathlib.Omega.{arith}
use lib.ListN.{length, get_or, drop, drop_of_length-le, set, length-set}
use lib.Dec.{eqb}
use lib.Seq.{drop-cons, get_or-drop, get_or-set_same, get_or-set_other}
use Rattle.texts.specs.Words.{most_words, after, step, in_word, begins, begun, word_of, words_from}
use Rattle.texts.specs.declared.State.{State}
use Rattle.texts.specs.declared.Place.{Place}
use Rattle.texts.specs.declared.Place.TheVariants.{Gap, Inside, Comment, Joint}
use Rattle.texts.specs.Words.{Tables, Noted, state_after, step_from, line_feeds, held, word_at}

module _ (t : List ℕ) (at : ℕ) (inside : at < length t) where
  -- the text from a byte on: the byte, and the text from the next on
  pub here : drop at t ≡ get_or t at 0 ∷ drop (at + 1) t
  here = rw (add-one, drop-cons t at 0)

  pub next : get_or (drop (at + 1) t) 0 0 ≡ get_or t (at + 1) 0
  next = rw (get_or-drop, add-zero)

  -- the word goes on
  pub word_more : in_word (after (get_or t at 0) (get_or t (at + 1) 0)) ≡ true → word_of (drop at t) ≡ get_or t at 0 ∷ word_of (drop (at + 1) t)
  word_more h = rw (here, next, h)

  -- the word is over
  pub word_over : in_word (after (get_or t at 0) (get_or t (at + 1) 0)) ≡ false → word_of (drop at t) ≡ []
  word_over h = rw (here, next, h)

  -- a byte is read
  pub words_step : (st : State)
      → words_from st (drop at t)
      ≡ begun (begins st.place (step st (get_or t at 0) (get_or t (at + 1) 0)).place) st.line (word_of (drop at t))
      ++ words_from (step st (get_or t at 0) (get_or t (at + 1) 0)) (drop (at + 1) t)
  words_step st = rw (here, next)

module _ (t : List ℕ) (at : ℕ) (past : length t ≤ at) where
  pub word_end : word_of (drop at t) ≡ []
  word_end = rw drop_of_length-le

  pub words-end : (st : State) → words_from st (drop at t) ≡ []
  words-end st = rw drop_of_length-le

-- a step asks of the next byte only what `after` asks of it
pub step-alike : (here line b x y : ℕ) → after b x ≡ after b y → (p : Place) → step_from p here line b x ≡ step_from p here line b y
step-alike here line b x y e Gap = ap (λ (p : Place). cond (eqb b 10) (state_after p (here + 1) (here + 1)) (state_after p here line)) e
step-alike here line b x y e Inside = ap (λ (p : Place). cond (eqb b 10) (state_after p (here + 1) (here + 1)) (state_after p here line)) e
step-alike here line b x y e Comment = refl
step-alike here line b x y e Joint = refl

-- A step keeps the count of LFs, and the line of a byte is never below the first of those joined to it.
module _ (here line b nx : ℕ) (s : List ℕ) where
  pub feeds : (p : Place) → (step_from p here line b nx).here + line_feeds s ≡ here + line_feeds (b ∷ s)
  feeds p = go p (eqb b 10) refl
    where
      go : (p : Place) (q : Bool) → eqb b 10 ≡ q → (step_from p here line b nx).here + line_feeds s ≡ here + line_feeds (b ∷ s)
      go Gap true e = rw e (omega arith)
      go Gap false e = rw e refl
      go Inside true e = rw e (omega arith)
      go Inside false e = rw e refl
      go Comment true e = rw e (omega arith)
      go Comment false e = rw e refl
      go Joint true e = rw e (omega arith)
      go Joint false e = rw e refl

  pub bound : (p : Place) (m : ℕ) → here ≤ m → line ≤ m → ((step_from p here line b nx).here ≤ m + 1) × ((step_from p here line b nx).line ≤ m + 1)
  bound p m u v = go p (eqb b 10) refl
    where
      go : (p : Place) (q : Bool) → eqb b 10 ≡ q → ((step_from p here line b nx).here ≤ m + 1) × ((step_from p here line b nx).line ≤ m + 1)
      go Gap true e = rw e (omega arith)
      go Gap false e = rw e (omega arith)
      go Inside true e = rw e (omega arith)
      go Inside false e = rw e (omega arith)
      go Comment true e = rw e (omega arith)
      go Comment false e = rw e (omega arith)
      go Joint true e = rw e (omega arith)
      go Joint false e = rw e (omega arith)

-- Two words have a byte between them.
pub room : (p q : Place) (at n : ℕ) → 2 * n ≤ at + cond (in_word p) 1 0 → 2 * (n + cond (begins p q) 1 0) ≤ at + 1 + cond (in_word q) 1 0
room Gap Gap at n h = omega arith
room Gap Inside at n h = omega arith
room Gap Comment at n h = omega arith
room Gap Joint at n h = omega arith
room Inside q at n h = omega arith
room Comment q at n h = omega arith
room Joint q at n h = omega arith

-- one word more
pub held_more : (t s l : List ℕ) (i k : ℕ) → held t s l i (suc k) ≡ held t s l i k ++ (word_at t s l (i + k) ∷ [])
held_more t s l i zero = rw add-zero
held_more t s l i (suc k) = rw (held_more t s l (suc i) k, shift)
  where
    shift : suc i + k ≡ i + suc k
    shift = omega arith

-- words go by their own entries
pub held_same : (t s l s' l' : List ℕ) (i n : ℕ)
    → ((k : ℕ) → k < i + n → get_or s' k 0 ≡ get_or s k 0)
    → ((k : ℕ) → k < i + n → get_or l' k 0 ≡ get_or l k 0)
    → held t s' l' i n ≡ held t s l i n
held_same t s l s' l' i zero hs hl = refl
held_same t s l s' l' i (suc n) hs hl =
    rw (held_same t s l s' l' (suc i) n (λ k lt. hs k (omega arith)) (λ k lt. hl k (omega arith)), hs i (omega arith), hl i (omega arith))

module _ (t s l : List ℕ) (tables : Tables s l) (n at line : ℕ) where
  -- no word starts here
  pub noted-none : Noted t s l n false at line s l n
  noted-none = record { words = sym (append-nil (held t s l 0 n)); tables = tables; more = omega arith; inside = λ _ old. old }

  -- a word starts here
  pub noted : n < most_words → Noted t s l n true at line (set s n at) (set l n line) (n + 1)
  noted few =
      let same_s : get_or (set s n at) n 0 ≡ at = get_or-set_same s n at 0 (omega (arith, tables.starts_long)) in
      let same-l : get_or (set l n line) n 0 ≡ line = get_or-set_same l n line 0 (omega (arith, tables.lines_long)) in
      record {
        words =
            rw (
              add-one,
              held_more (t) (set s n at) (set l n line) 0 n,
              zero-add,
              held_same t s l (set s n at) (set l n line) 0 n (λ k lt. get_or-set_other s n k at 0 (λ e. omega arith)) (λ k lt. get_or-set_other l n k line 0 (λ e. omega arith)),
              same_s,
              same-l,
            );
        tables = record { starts_long = rw length-set tables.starts_long; lines_long = rw length-set tables.lines_long };
        more = refl;
        inside = λ here old. below_more _ n (λ k lt. rw (get_or-set_other s n k at 0 (λ e. omega arith)) (old k lt)) (rw same_s here);
      }
