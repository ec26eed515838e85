-- How often a number stands in a list, and at how many entries a test holds. A number stands there where its count is above 0. Assumes nothing.
use Prim.Native.Nat.{ℕ, zero, suc, ◌+◌, ◌*◌, ◌≤◌, ◌<◌}
use mathlib.Core.Bool.{Bool, true, false, cond}
use mathlib.Core.List.{List, [], ◌∷◌, ◌++◌}
use mathlib.Core.Path.{◌≡◌, refl, sym, ap, ap₂, subst, ◌∙◌}
use native.Mathlib.Nat.{zero-add, add-zero}
use native.Mathlib.Numerals.{add-one}
use native.Mathlib.Omega.{arith}
use lib.ListN.{length, get_or, set, take}
use lib.Seq.{take-suc, get_or-set_same, get_or-set_other}
use lib.Dec.{eqb}
use borrow.Author.Tests.{eqb-true, eqb-false, eq-eqb, ne_eqb}
use Rattle.lists.specs.Lists.{count, count_where, Below}
use Rattle.lists.proofs.Every.{below-tail}

-- what one entry adds
abbrev bit : Bool → ℕ
bit b = cond b 1 0

pub count-self : (s : ℕ) (rs : List ℕ) → count s (s ∷ rs) ≡ suc (count s rs)
count-self s rs = omega (arith, ap bit (eq-eqb s s refl))

pub count-other : (s r : ℕ) (rs : List ℕ) → (s ≡ r → ⊥) → count s (r ∷ rs) ≡ count s rs
count-other s r rs h = omega (arith, ap bit (ne_eqb s r h))

pub count-append : (s : ℕ) (xs ys : List ℕ) → count s (xs ++ ys) ≡ count s xs + count s ys
count-append s [] ys = sym (zero-add (count s ys))
count-append s (x ∷ xs) ys = omega (arith, count-append s xs ys)

-- a list has a number at most as often as it is long
pub count-length : (s : ℕ) (rs : List ℕ) → count s rs ≤ length rs
count-length s [] = omega arith
count-length s (r ∷ rs) = omega (arith, count-length s rs, small (eqb s r))
  where
    small : (b : Bool) → bit b ≤ 1
    small true = omega arith
    small false = omega arith

-- what lies at or above a bound does not stand below it
pub count-below : (b s : ℕ) → b ≤ s → (rs : List ℕ) → Below b rs → count s rs ≡ 0
count-below b s l [] h = refl
count-below b s l (r ∷ rs) h =
    let here : r < b = h 0 (omega arith) in
    count-other s r rs (λ q. omega arith) ∙ count-below b s l rs (below-tail b r rs h)

-- a number that stands in a list stands at an index of it, and the other way round
pub count_at : (s : ℕ) (rs : List ℕ) (i : ℕ) → i < length rs → get_or rs i 0 ≡ s → 0 < count s rs
count_at s [] i l e = omega arith
count_at s (r ∷ rs) zero l e = omega (arith, ap bit (eq-eqb s r (sym e)))
count_at s (r ∷ rs) (suc i) l e = omega (arith, count_at s rs i (omega arith) e)

pub count_index : (s : ℕ) (rs : List ℕ) → 0 < count s rs → (i : ℕ) × (i < length rs) × (get_or rs i 0 ≡ s)
count_index s [] h = absurd (omega arith)
count_index s (r ∷ rs) h = go (eqb s r) refl (count_index s rs)
  where
    go : (c : Bool) → eqb s r ≡ c → (0 < count s rs → (i : ℕ) × (i < length rs) × (get_or rs i 0 ≡ s))
        → (i : ℕ) × (i < length (r ∷ rs)) × (get_or (r ∷ rs) i 0 ≡ s)
    go true e ih = (0, omega arith, sym (eqb-true s r e))
    go false e ih =
        let w = ih (omega (arith, ap bit e)) in
        (suc w.0, omega (arith, w.1), w.2)

-- what stands in a list below b is below b
pub below-count : (b s : ℕ) (rs : List ℕ) → Below b rs → 0 < count s rs → s < b
below-count b s rs h c =
    let w = count_index s rs c in
    subst (λ (k : ℕ). k < b) w.2 (h w.0 w.1)

-- a list of counts, entry s for s: one more of r, and a turn of a loop that counts the entries of another list
pub one_more : (xs : List ℕ) (r s : ℕ) → r < length xs → get_or (set xs r (get_or xs r 0 + 1)) s 0 ≡ get_or xs s 0 + cond (eqb s r) 1 0
one_more xs r s l = go (eqb s r) refl
  where
    go : (b : Bool) → eqb s r ≡ b → get_or (set xs r (get_or xs r 0 + 1)) s 0 ≡ get_or xs s 0 + bit b
    go true e = rw (eqb-true s r e) (get_or-set_same xs r (get_or xs r 0 + 1) 0 l)
    go false e = get_or-set_other xs r s (get_or xs r 0 + 1) 0 (eqb-false s r e) ∙ sym (add-zero (get_or xs s 0))

pub count_turn : (old xs rs : List ℕ) (i r : ℕ) → i < length rs → get_or rs i 0 ≡ r → r < length xs
    → ((s : ℕ) → get_or xs s 0 ≡ get_or old s 0 + count s (take i rs))
    → (s : ℕ) → get_or (set xs r (get_or xs r 0 + 1)) s 0 ≡ get_or old s 0 + count s (take (i + 1) rs)
count_turn old xs rs i r l e m h s =
    rw (add-one i, take-suc rs i 0 l, e) (omega (arith, one_more xs r s m, h s, count-append s (take i rs) (r ∷ [])))

-- ---- at how many entries a test holds

pub count-where : (s : ℕ) (rs : List ℕ) → count s rs ≡ count_where (eqb s) rs
count-where s [] = refl
count-where s (r ∷ rs) = ap (λ (k : ℕ). bit (eqb s r) + k) (count-where s rs)

pub where-append : (t : ℕ → Bool) (xs ys : List ℕ) → count_where t (xs ++ ys) ≡ count_where t xs + count_where t ys
where-append t [] ys = sym (zero-add (count_where t ys))
where-append t (x ∷ xs) ys = omega (arith, where-append t xs ys)

-- tests that agree hold equally often
pub where-same : (t u : ℕ → Bool) → ((x : ℕ) → t x ≡ u x) → (xs : List ℕ) → count_where t xs ≡ count_where u xs
where-same t u h [] = refl
where-same t u h (x ∷ xs) = ap₂ (λ (b : Bool) (k : ℕ). bit b + k) (h x) (where-same t u h xs)

pub where-never : (t : ℕ → Bool) → ((x : ℕ) → t x ≡ false) → (xs : List ℕ) → count_where t xs ≡ 0
where-never t h [] = refl
where-never t h (x ∷ xs) = omega (arith, ap bit (h x), where-never t h xs)

-- a test that fails at s, and one that differs from it at most there
pub where-changed : (t u : ℕ → Bool) (s : ℕ) (b : Bool) → t s ≡ false → ((x : ℕ) → u x ≡ cond (eqb s x) b (t x)) → (xs : List ℕ)
    → count_where u xs ≡ count_where t xs + cond b 1 0 * count s xs
where-changed t u s b none h [] = omega arith
where-changed t u s b none h (x ∷ xs) = omega (arith, ap bit (h x), go (eqb s x) refl, where-changed t u s b none h xs)
  where
    go : (c : Bool) → eqb s x ≡ c → bit (cond c b (t x)) ≡ bit (t x) + bit b * bit c
    go true e = omega (arith, ap bit (ap t (sym (eqb-true s x e)) ∙ none))
    go false e = omega arith
