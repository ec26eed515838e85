-- Laws of words in lines. Assumes nothing.
use Prim.Native.Nat.{ℕ, zero, suc, ◌+◌, ◌-◌, ◌<◌, ◌≤◌}
use mathlib.Core.Path.{◌≡◌, refl, ap, sym, ◌∙◌}
use mathlib.Core.Bool.{Bool, true, false}
use mathlib.Core.List.{List, [], ◌∷◌}
use native.Mathlib.Numerals.{add-one}
use native.Mathlib.Nat.{add-zero, sub-zero}
use native.Mathlib.Omega.{arith}
use lib.ListN.{length, get_or, drop}
use lib.Dec.{eqb}
use borrow.Author.Tests.{eq-eqb, ne_eqb, eqb-true, eqb-false}
use Rattle.texts.specs.Words.{word_of, word_at, held}
use Rattle.names.specs.Names.{is_name}
use Rattle.statements.specs.Lines.{Line, line_of, joined, lines_of, bytes_from, alike, Places}
use Rattle.statements.specs.Fit.{all_names}
use Rattle.statements.specs.declared.Part.TheInside.{Inside}
use Rattle.statements.specs.Part.{bytes_in}

-- one less is left
pub one_less : (n i : ℕ) → i < n → n - i ≡ suc (n - (i + 1))
one_less n i h = omega arith

pub length-bytes : (t s : List ℕ) (i k : ℕ) → length (bytes_from t s i k) ≡ k
length-bytes t s i zero = refl
length-bytes t s i (suc k) = ap suc (length-bytes t s (suc i) k)

pub bytes-at : (t s : List ℕ) (i k j : ℕ) → j < k → get_or (bytes_from t s i k) j [] ≡ word_of (drop (get_or s (i + j) 0) t)
bytes-at t s i zero j h = absurd (omega arith)
bytes-at t s i (suc k) zero h = rw add-zero
bytes-at t s i (suc k) (suc j) h = bytes-at t s (suc i) k j (omega arith) ∙ rw shift
  where
    shift : suc i + j ≡ i + suc j
    shift = omega arith

pub length-part : (p : Inside) → length (bytes_in p) ≡ p.many
length-part p = length-bytes p.words.now.text.now p.words.now.starts.now p.from p.many

-- fewer places
pub places-less : {t s : List ℕ} {n m : ℕ} → Places t s n → m ≤ n → Places t s m
places-less p h = record { within = omega (arith, p.within); inside = λ k lt. p.inside k (omega arith) }

-- names among the words of a table
module _ (t s : List ℕ) (start many i : ℕ) where
  pub names_more : i < many → is_name (word_of (drop (get_or s (start + i) 0) t)) ≡ true
      → all_names (bytes_from t s (start + i) (many - i)) ≡ all_names (bytes_from t s (start + (i + 1)) (many - (i + 1)))
  names_more h e = rw (one_less many i h, e, shift)
    where
      shift : suc (start + i) ≡ start + (i + 1)
      shift = omega arith

-- words of one line
module _ (l : List ℕ) (x n i : ℕ) where
  pub alike-more : i < n → get_or l i 0 ≡ x → alike l x i (n - i) ≡ suc (alike l x (i + 1) (n - (i + 1)))
  alike-more h e = rw (one_less n i h, eq-eqb _ _ e, add-one)

  pub alike_end : n ≤ i → alike l x i (n - i) ≡ 0
  alike_end h = rw none
    where
      none : n - i ≡ 0
      none = omega arith

pub alike-short : (l : List ℕ) (x i k : ℕ) → alike l x i k ≤ k
alike-short l x i zero = omega arith
alike-short l x i (suc k) = go (eqb (get_or l i 0) x) refl (alike-short l x (suc i) k)
  where
    go : (q : Bool) → eqb (get_or l i 0) x ≡ q → alike l x (suc i) k ≤ k → alike l x i (suc k) ≤ suc k
    go true e h = rw e (omega arith)
    go false e h = rw e (omega arith)

-- the words from word k on: a line of those alike, and the lines of the rest
pub lines_split : (t s l : List ℕ) (k m : ℕ)
    → lines_of (held t s l k (suc m))
    ≡ line_of (get_or l k 0) (bytes_from t s k (suc (alike l (get_or l k 0) (suc k) m)))
    ∷ lines_of (held t s l (suc k + alike l (get_or l k 0) (suc k) m) (m - alike l (get_or l k 0) (suc k) m))
lines_split t s l k zero = refl
lines_split t s l k (suc m) = go (eqb (get_or l (suc k) 0) (get_or l k 0)) refl (lines_split t s l (suc k) m)
  where
    shift : (r : ℕ) → suc k + suc r ≡ suc (suc k) + r
    shift r = omega arith

    less : (r : ℕ) → suc m - suc r ≡ m - r
    less r = omega arith

    go : (q : Bool)
        → eqb (get_or l (suc k) 0) (get_or l k 0) ≡ q
        → lines_of (held t s l (suc k) (suc m))
        ≡ line_of (get_or l (suc k) 0) (bytes_from t s (suc k) (suc (alike l (get_or l (suc k) 0) (suc (suc k)) m)))
        ∷ lines_of (held t s l (suc (suc k) + alike l (get_or l (suc k) 0) (suc (suc k)) m) (m - alike l (get_or l (suc k) 0) (suc (suc k)) m))
        → lines_of (held t s l k (suc (suc m)))
        ≡ line_of (get_or l k 0) (bytes_from t s k (suc (alike l (get_or l k 0) (suc k) (suc m))))
        ∷ lines_of (held t s l (suc k + alike l (get_or l k 0) (suc k) (suc m)) (suc m - alike l (get_or l k 0) (suc k) (suc m)))
    go true e ih =
        let r = alike l (get_or l k 0) (suc (suc k)) m in
        ap (joined (word_at t s l k)) ih ∙ simp (eqb-true (get_or l (suc k) 0) (get_or l k 0) e, eq-eqb (get_or l k 0) (get_or l k 0) refl, shift r, less r)
    go false e ih =
        let other : eqb (get_or l k 0) (get_or l (suc k) 0) ≡ false = ne_eqb _ _ (λ p. eqb-false (get_or l (suc k) 0) (get_or l k 0) e (sym p)) in
        ap (joined (word_at t s l k)) ih ∙ rw (other, e, add-zero, sub-zero) (ap (λ (ls : List Line). line_of (get_or l k 0) (word_of (drop (get_or s k 0) t) ∷ []) ∷ ls) (sym ih))
