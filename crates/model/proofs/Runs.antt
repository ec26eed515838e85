-- A line's names are a run of words. Assumes nothing.
use Rattle.statements.specs.declared.Keyword.{Keyword}
use Prim.Native.Nat.{ℕ, zero, suc, ◌+◌, ◌-◌, ◌<◌, ◌≤◌}
use mathlib.Core.Path.{◌≡◌, refl, ap, subst, ◌∙◌}
use mathlib.Core.Bool.{Bool, true, false, cond}
use mathlib.Core.List.{List, [], ◌∷◌, ◌++◌, map}
use native.Mathlib.Nat.{add-zero}
use native.Mathlib.Numerals.{add-one}
use native.Mathlib.Omega.{arith}
use lib.ListN.{length, get_or, length-append, get_or-append}
use lib.Seq.{get_or-append-add}
use lib.Dec.{eqb, leb}
use borrow.Author.Tests.{eqb-true, le-leb, lt-leb, leb-true, leb-false}
use Rattle.refusal.specs.Judgement.{Fine, refused}
use Rattle.texts.specs.Words.{Word, held, word_at}
use Rattle.statements.specs.declared.Phase.TheVariants.{Before}
use Rattle.statements.specs.Lines.{line_of, bytes_from, alike}
use Rattle.statements.proofs.Lines.{length-bytes, bytes-at, alike-short}
use Rattle.statements.proofs.Faults.{split}
use Rattle.model.specs.Model.{key_of, after, word_in, names_in, listed, gates_key, no_word, same_key}
use Rattle.model.specs.Counts.{line_at, over_fault}
use Rattle.model.specs.Tables.{key_at, run_start, run_many, rest_at, lines_from}
use Rattle.refusal.specs.declared.Cause.TheVariants.{TextModel}

-- the words alike stand in one line
pub alike_all : (l : List ℕ) (x i k j : ℕ) → j < alike l x i k → get_or l (i + j) 0 ≡ x
alike_all l x i zero j h = absurd (omega arith)
alike_all l x i (suc k) j h = go (eqb (get_or l i 0) x) refl j h (alike_all l x (suc i) k)
  where
    shift : (j : ℕ) → suc i + j ≡ i + suc j
    shift j = omega arith

    go : (b : Bool) → eqb (get_or l i 0) x ≡ b → (j : ℕ) → j < alike l x i (suc k)
        → ((j : ℕ) → j < alike l x (suc i) k → get_or l (suc i + j) 0 ≡ x) → get_or l (i + j) 0 ≡ x
    go true e zero h ih = rw add-zero (eqb-true (get_or l i 0) x e)
    go true e (suc j) h ih =
        let less : suc j < suc (alike l x (suc i) k) = rw e at h in
        rw (← shift j) (ih j (omega arith))
    go false e j h ih = let none : j < 0 = rw e at h in absurd (omega arith)

pub held-length : (t s l : List ℕ) (i k : ℕ) → length (held t s l i k) ≡ k
held-length t s l i zero = refl
held-length t s l i (suc k) = ap suc (held-length t s l (suc i) k)

-- words of one line, by its number
pub in-line : (t s l : List ℕ) (x i k : ℕ) → ((j : ℕ) → j < k → get_or l (i + j) 0 ≡ x) → map (word_in x) (bytes_from t s i k) ≡ held t s l i k
in-line t s l x i zero h = refl
in-line t s l x i (suc k) h =
    let first : get_or l i 0 ≡ x = rw add-zero at (h 0 (omega arith)) in
    let shift : (j : ℕ) → suc i + j ≡ i + suc j = λ j. omega arith in
    rw (in-line t s l x (suc i) k (λ j m. rw (shift j) (h (suc j) (omega arith))), first)

module _ (t s l : List ℕ) (n k r : ℕ) (inside : k < n) (rest : r ≡ rest_at l n k) where
  -- the words of the line at k have its number
  pub same_line : (j : ℕ) → j ≤ r → get_or l (k + j) 0 ≡ get_or l k 0
  same_line zero h = rw add-zero
  same_line (suc j) h =
      let shift : k + 1 + j ≡ k + suc j = omega arith in
      subst (λ (i : ℕ). get_or l i 0 ≡ get_or l k 0) shift (alike_all l (get_or l k 0) (k + 1) (n - (k + 1)) j (rw (← rest) (omega arith)))

  pub shorter : r ≤ n - (k + 1)
  shorter = rw rest (alike-short l (get_or l k 0) (k + 1) (n - (k + 1)))

  -- the line at k, and those after it
  pub parted : lines_from t s l n k ≡ line_of (get_or l k 0) (bytes_from t s k (r + 1)) ∷ lines_from t s l n (k + (r + 1))
  parted = split t s l n 0 Before k r inside rest

  abbrev key : Keyword
  key = key_at t s k

  key-of : key_of (bytes_from t s k (r + 1)) ≡ key
  key-of = rw add-one refl

  -- its names, where it has the keyword wanted, are a run of words
  names-run : (wanted : Keyword) → names_in wanted (line_of (get_or l k 0) (bytes_from t s k (r + 1))) ≡ held t s l (run_start wanted k r) (cond (same_key wanted gates_key) 1 r)
  names-run wanted = go (same_key wanted gates_key) refl
    where
      one : length (bytes_from t s k (r + 1)) - 1 ≡ r
      one = omega (arith, length-bytes t s k (r + 1))

      rest-bytes : after (bytes_from t s k (r + 1)) ≡ bytes_from t s (k + 1) r
      rest-bytes = rw (add-one r, add-one k) refl

      shift : (j : ℕ) → k + suc j ≡ k + 1 + j
      shift j = omega arith

      go : (b : Bool) → same_key wanted gates_key ≡ b → names_in wanted (line_of (get_or l k 0) (bytes_from t s k (r + 1))) ≡ held t s l (run_start wanted k r) (cond (same_key wanted gates_key) 1 r)
      go true e = rw (e, one, bytes-at t s k (r + 1) r (omega arith), same_line r (omega arith))
      go false e = rw (e, rest-bytes) (in-line t s l (get_or l k 0) (k + 1) r (λ j m. rw (← shift j) (same_line (suc j) (omega arith))))

  pub listed-run : (wanted : Keyword)
      → listed wanted (lines_from t s l n k) ≡ held t s l (run_start wanted k r) (run_many key wanted r) ++ listed wanted (lines_from t s l n (k + (r + 1)))
  listed-run wanted = rw (parted, key-of) (go (same_key key wanted) refl)
    where
      rest-listed : List Word
      rest-listed = listed wanted (lines_from t s l n (k + (r + 1)))

      go : (b : Bool) → same_key key wanted ≡ b
          → cond (same_key key wanted) (names_in wanted (line_of (get_or l k 0) (bytes_from t s k (r + 1)))) [] ++ listed wanted (lines_from t s l n (k + (r + 1)))
          ≡ held t s l (run_start wanted k r) (run_many key wanted r) ++ listed wanted (lines_from t s l n (k + (r + 1)))
      go true e = rw (e, names-run wanted)
      go false e = rw e refl

  -- a run has the line's number, and stays inside the n words
  pub run_inside : (wanted : Keyword) → run_start wanted k r + run_many key wanted r ≤ n
  run_inside wanted = go (same_key wanted gates_key) refl (same_key key wanted) refl
    where
      go : (b : Bool) → same_key wanted gates_key ≡ b → (d : Bool) → same_key key wanted ≡ d → run_start wanted k r + run_many key wanted r ≤ n
      go true e true d = rw (e, d) (omega (arith, shorter))
      go false e true d = rw (e, d) (omega (arith, shorter))
      go true e false d = rw (e, d) (omega (arith, shorter))
      go false e false d = rw (e, d) (omega (arith, shorter))

  pub run-line : (wanted : Keyword) (i : ℕ) → i < run_many key wanted r → get_or l (run_start wanted k r + i) 0 ≡ get_or l k 0
  run-line wanted i h = go (same_key wanted gates_key) refl (same_key key wanted) refl
    where
      shift : k + 1 + i ≡ k + suc i
      shift = omega arith

      go : (b : Bool) → same_key wanted gates_key ≡ b → (d : Bool) → same_key key wanted ≡ d → get_or l (run_start wanted k r + i) 0 ≡ get_or l k 0
      go b e false d = let none : i < 0 = rw d at h in absurd (omega arith)
      go true e true d =
          let low : i < 1 = rw (d, e) at h in
          let zero-i : i ≡ 0 = omega arith in
          rw (e, zero-i, add-zero) (same_line r (omega arith))
      go false e true d =
          let low : i < r = rw (d, e) at h in
          rw (e, shift) (same_line (suc i) (omega arith))

pub held_at : (t s l : List ℕ) (i k j : ℕ) → j < k → get_or (held t s l i k) j no_word ≡ word_at t s l (i + j)
held_at t s l i zero j h = absurd (omega arith)
held_at t s l i (suc k) zero h = rw add-zero
held_at t s l i (suc k) (suc j) h = held_at t s l (suc i) k j (omega arith) ∙ rw shift
  where
    shift : suc i + j ≡ i + suc j
    shift = omega arith

-- more names than may be: of a run and what follows it
module _ (t s l : List ℕ) (a m : ℕ) (ws : List Word) (most : ℕ) where
  together : length (held t s l a m ++ ws) ≡ m + length ws
  together = omega (arith, length-append (held t s l a m) ws, held-length t s l a m)

  pub over-here : most < m → over_fault (held t s l a m ++ ws) most ≡ refused TextModel (get_or l (a + most) 0)
  over-here h = rw (lt-leb (length (held t s l a m ++ ws)) most (omega (arith, together))) (ap (refused TextModel) line)
    where
      line : line_at (held t s l a m ++ ws) most ≡ get_or l (a + most) 0
      line =
          ap (λ (x : Word). x.line)
          (get_or-append (held t s l a m) ws no_word most (rw (held-length t s l a m) h) ∙ held_at t s l a m most h)

  pub over-later : m ≤ most → over_fault (held t s l a m ++ ws) most ≡ over_fault ws (most - m)
  over-later h = rw (line, fits)
    where
      sum : m + (most - m) ≡ most
      sum = omega arith

      line : line_at (held t s l a m ++ ws) most ≡ line_at ws (most - m)
      line =
          ap (λ (x : Word). x.line)
          (subst (λ (i : ℕ). get_or (held t s l a m ++ ws) i no_word ≡ get_or ws (most - m) no_word) sum
          (subst (λ (i : ℕ). get_or (held t s l a m ++ ws) (i + (most - m)) no_word ≡ get_or ws (most - m) no_word) (held-length t s l a m)
          (get_or-append-add (held t s l a m) ws (most - m) no_word)))

      fits : leb (length (held t s l a m ++ ws)) most ≡ leb (length ws) (most - m)
      fits = go (leb (length ws) (most - m)) refl
        where
          go : (b : Bool) → leb (length ws) (most - m) ≡ b → leb (length (held t s l a m ++ ws)) most ≡ b
          go true e = le-leb (length (held t s l a m ++ ws)) most (omega (arith, together, leb-true (length ws) (most - m) e))
          go false e = lt-leb (length (held t s l a m ++ ws)) most (omega (arith, together, leb-false (length ws) (most - m) e))

-- a line with too many names, and one that leaves room
module _ (t s l : List ℕ) (n k r : ℕ) (inside : k < n) (rest : r ≡ rest_at l n k) (wanted : Keyword) (m : ℕ) (run : m ≡ run_many (key_at t s k) wanted r) (most : ℕ) where
  pub refuse-here : most < m → over_fault (listed wanted (lines_from t s l n k)) most ≡ refused TextModel (get_or l k 0)
  refuse-here h =
      let low : most < run_many (key_at t s k) wanted r = rw run at h in
      rw (listed-run t s l n k r inside rest wanted)
      (over-here t s l (run_start wanted k r) (run_many (key_at t s k) wanted r) (listed wanted (lines_from t s l n (k + (r + 1)))) most low
      ∙ ap (refused TextModel) (run-line t s l n k r inside rest wanted most low))

  pub refuse-later : m ≤ most → over_fault (listed wanted (lines_from t s l n k)) most ≡ over_fault (listed wanted (lines_from t s l n (k + (r + 1)))) (most - m)
  refuse-later h =
      rw (listed-run t s l n k r inside rest wanted, run)
      (over-later t s l (run_start wanted k r) (run_many (key_at t s k) wanted r) (listed wanted (lines_from t s l n (k + (r + 1)))) most (rw run at h))

pub over_none : (most : ℕ) → over_fault [] most ≡ Fine
over_none most = rw (le-leb 0 most (omega arith))

-- past the last word there is no line
pub lines_end : (t s l : List ℕ) (n k : ℕ) → n ≤ k → lines_from t s l n k ≡ []
lines_end t s l n k past = rw none
  where
    none : n - k ≡ 0
    none = omega arith
