-- The list of shared gates: which sources stand in it, each once, and what one gate more adds; the suppositions by their numbers. Assumes nothing.
use Prim.Native.Nat.{ℕ, zero, suc, ◌+◌, ◌*◌, ◌/◌, ◌%◌, ◌^◌, ◌≤◌, ◌<◌}
use mathlib.Core.Bool.{Bool, true, false, cond}
use mathlib.Core.List.{List, [], ◌∷◌, ◌++◌, append-nil}
use mathlib.Core.Logic.{⊎_elim}
use mathlib.Core.Path.{◌≡◌, refl, sym, ap, ap₂, subst, ◌∙◌}
use native.Mathlib.Nat.{zero-add, add-zero, eq-or-lt_of_le, pow-zero, pow-succ'}
use native.Mathlib.Omega.{arith}
use lib.ListN.{length, get_or}
use lib.Dec.{eqb, leb}
use borrow.Author.Tests.{eqb-true, eq-eqb, ne_eqb, leb-true, le-leb, lt-leb}
use Rattle.lists.specs.Lists.{count, Below, sum_below}
use Rattle.lists.proofs.Every.{below-tail}
use Rattle.lists.proofs.Sums.{sum_same}
use Rattle.rounding.specs.Rounding.{blend}
use Rattle.figure.specs.Figure.{bit_of, is_odd}
use Rattle.netlist.specs.Netlist.{input_values, first_flip, other_flips}
use Rattle.netlist.specs.Exact.{sum_over_flips}
use Rattle.suppose.specs.Suppose.{shared_from, is_supposed, supposed_wrong, shared_steps}

-- which sources are shared
pub record Shared (reads : ℕ → ℕ) (s k t : ℕ) : Type 0 where
  pub from : s ≤ t
  pub to : t < s + k
  pub twice : 2 ≤ reads t

pub shared-is : (reads : ℕ → ℕ) (k s t : ℕ) → is_supposed (shared_from reads s k) t ≡ true → Shared reads s k t
shared-is reads zero s t h = absurd (omega (arith, ap bit_of h))
shared-is reads (suc k) s t h = go (leb 2 (reads s)) refl (shared-is reads k (suc s) t) h
  where
    further : Shared reads (suc s) k t → Shared reads s (suc k) t
    further z = record { from = omega (arith, z.from); to = omega (arith, z.to); twice = z.twice }

    first : (b : Bool) → eqb t s ≡ b → leb 2 (reads s) ≡ true → (is_supposed (shared_from reads (suc s) k) t ≡ true → Shared reads (suc s) k t)
        → cond b true (is_supposed (shared_from reads (suc s) k) t) ≡ true → Shared reads s (suc k) t
    first true e two ih h =
        let q : t ≡ s = eqb-true t s e in
        record { from = omega arith; to = omega arith; twice = subst (λ (z : ℕ). 2 ≤ reads z) (sym q) (leb-true 2 (reads s) two) }
    first false e two ih h = further (ih h)

    go : (c : Bool) → leb 2 (reads s) ≡ c → (is_supposed (shared_from reads (suc s) k) t ≡ true → Shared reads (suc s) k t)
        → is_supposed (cond c (s ∷ shared_from reads (suc s) k) (shared_from reads (suc s) k)) t ≡ true → Shared reads s (suc k) t
    go true e ih h = first (eqb t s) refl e ih h
    go false e ih h = further (ih h)

pub is_shared : (reads : ℕ → ℕ) (k s t : ℕ) → Shared reads s k t → is_supposed (shared_from reads s k) t ≡ true
is_shared reads zero s t z = absurd (omega (arith, z.from, z.to))
is_shared reads (suc k) s t z =
    ⊎_elim here (λ l. later (is_shared reads k (suc s) t (record { from = l; to = omega (arith, z.to); twice = z.twice }))) (eq-or-lt_of_le z.from)
  where
    here : s ≡ t → is_supposed (shared_from reads s (suc k)) t ≡ true
    here q =
        let two : leb 2 (reads s) ≡ true = le-leb 2 (reads s) (subst (λ (x : ℕ). 2 ≤ reads x) (sym q) z.twice) in
        ap (λ (c : Bool). is_supposed (cond c (s ∷ shared_from reads (suc s) k) (shared_from reads (suc s) k)) t) two
        ∙ ap (λ (c : Bool). cond c true (is_supposed (shared_from reads (suc s) k) t)) (eq-eqb t s (sym q))

    later : is_supposed (shared_from reads (suc s) k) t ≡ true → is_supposed (shared_from reads s (suc k)) t ≡ true
    later ih = go (leb 2 (reads s)) ih
      where
        either : (c x : Bool) → x ≡ true → cond c true x ≡ true
        either true x e = refl
        either false x e = e

        go : (c : Bool) → is_supposed (shared_from reads (suc s) k) t ≡ true
            → is_supposed (cond c (s ∷ shared_from reads (suc s) k) (shared_from reads (suc s) k)) t ≡ true
        go true e = either (eqb t s) (is_supposed (shared_from reads (suc s) k) t) e
        go false e = e

-- each stands in the list once
pub shared-once : (reads : ℕ → ℕ) (k s t : ℕ) → count t (shared_from reads s k) ≡ bit_of (is_supposed (shared_from reads s k) t)
shared-once reads zero s t = refl
shared-once reads (suc k) s t = go (leb 2 (reads s)) (shared-once reads k (suc s) t)
  where
    none : t ≡ s → (b : Bool) → is_supposed (shared_from reads (suc s) k) t ≡ b → bit_of b ≡ 0
    none q true e = absurd (omega (arith, (shared-is reads k (suc s) t e).from))
    none q false e = refl

    first : (b : Bool) → eqb t s ≡ b → count t (shared_from reads (suc s) k) ≡ bit_of (is_supposed (shared_from reads (suc s) k) t)
        → bit_of b + count t (shared_from reads (suc s) k) ≡ bit_of (cond b true (is_supposed (shared_from reads (suc s) k) t))
    first true e ih = omega (arith, ih, none (eqb-true t s e) (is_supposed (shared_from reads (suc s) k) t) refl)
    first false e ih = omega (arith, ih)

    go : (c : Bool) → count t (shared_from reads (suc s) k) ≡ bit_of (is_supposed (shared_from reads (suc s) k) t)
        → count t (cond c (s ∷ shared_from reads (suc s) k) (shared_from reads (suc s) k))
        ≡ bit_of (is_supposed (cond c (s ∷ shared_from reads (suc s) k) (shared_from reads (suc s) k)) t)
    go true ih = first (eqb t s) refl ih
    go false ih = ih

pub shared-below : (reads : ℕ → ℕ) (k s : ℕ) → Below (s + k) (shared_from reads s k)
shared-below reads zero s = λ i l. absurd (omega arith)
shared-below reads (suc k) s = go (leb 2 (reads s)) (shared-below reads k (suc s))
  where
    go : (c : Bool) → Below (suc s + k) (shared_from reads (suc s) k) → Below (s + suc k) (cond c (s ∷ shared_from reads (suc s) k) (shared_from reads (suc s) k))
    go false ih = λ i l. omega (arith, ih i l)
    go true ih = longer
      where
        longer : Below (s + suc k) (s ∷ shared_from reads (suc s) k)
        longer zero l = omega arith
        longer (suc i) l = omega (arith, ih i (omega arith))

-- ---- one gate more

pub shared-split : (reads : ℕ → ℕ) (s k m : ℕ) → shared_from reads s (k + m) ≡ shared_from reads s k ++ shared_from reads (s + k) m
shared-split reads s zero m = ap₂ (shared_from reads) (sym (add-zero s)) (zero-add m)
shared-split reads s (suc k) m = ap (shared_from reads s) more ∙ go (leb 2 (reads s)) (shared-split reads (suc s) k m)
  where
    more : suc k + m ≡ suc (k + m)
    more = omega arith

    at : suc s + k ≡ s + suc k
    at = omega arith

    go : (c : Bool) → shared_from reads (suc s) (k + m) ≡ shared_from reads (suc s) k ++ shared_from reads (suc s + k) m
        → cond c (s ∷ shared_from reads (suc s) (k + m)) (shared_from reads (suc s) (k + m))
        ≡ cond c (s ∷ shared_from reads (suc s) k) (shared_from reads (suc s) k) ++ shared_from reads (s + suc k) m
    go true ih = ap (◌∷◌ s) (ih ∙ ap (λ (x : ℕ). shared_from reads (suc s) k ++ shared_from reads x m) at)
    go false ih = ih ∙ ap (λ (x : ℕ). shared_from reads (suc s) k ++ shared_from reads x m) at

-- a gate with fewer than two readers adds nothing, another itself
pub shared_same : (reads : ℕ → ℕ) (s k : ℕ) → reads (s + k) ≤ 1 → shared_from reads s (k + 1) ≡ shared_from reads s k
shared_same reads s k few =
    shared-split reads s k 1
    ∙ ap (λ (c : Bool). shared_from reads s k ++ cond c ((s + k) ∷ []) []) (lt-leb 2 (reads (s + k)) (omega arith))
    ∙ append-nil (shared_from reads s k)

pub shared-more : (reads : ℕ → ℕ) (s k : ℕ) → 2 ≤ reads (s + k) → shared_from reads s (k + 1) ≡ shared_from reads s k ++ ((s + k) ∷ [])
shared-more reads s k two =
    shared-split reads s k 1 ∙ ap (λ (c : Bool). shared_from reads s k ++ cond c ((s + k) ∷ []) []) (le-leb 2 (reads (s + k)) two)

-- ---- a supposed gate by its number

first-at : (bs : List Bool) → first_flip bs ≡ get_or bs 0 false
first-at [] = refl
first-at (b ∷ bs) = refl

other_at : (bs : List Bool) (i : ℕ) → get_or (other_flips bs) i false ≡ get_or bs (suc i) false
other_at [] i = refl
other_at (b ∷ bs) i = refl

pub supposed-at : (xs ys : List ℕ) (p : ℕ) → is_supposed (xs ++ (p ∷ ys)) p ≡ true
supposed-at [] ys p = ap (λ (c : Bool). cond c true (is_supposed ys p)) (eq-eqb p p refl)
supposed-at (x ∷ xs) ys p = go (eqb p x) (supposed-at xs ys p)
  where
    go : (c : Bool) → is_supposed (xs ++ (p ∷ ys)) p ≡ true → cond c true (is_supposed (xs ++ (p ∷ ys)) p) ≡ true
    go true ih = refl
    go false ih = ih

pub wrong-at : (xs ys : List ℕ) (p : ℕ) (bs : List Bool) → Below p xs → supposed_wrong (xs ++ (p ∷ ys)) bs p ≡ get_or bs (length xs) false
wrong-at [] ys p bs below = ap (λ (c : Bool). cond c (first_flip bs) (supposed_wrong ys (other_flips bs) p)) (eq-eqb p p refl) ∙ first-at bs
wrong-at (x ∷ xs) ys p bs below =
    ap (λ (c : Bool). cond c (first_flip bs) (supposed_wrong (xs ++ (p ∷ ys)) (other_flips bs) p)) (ne_eqb p x (λ e. omega (arith, below 0 (omega arith))))
    ∙ wrong-at xs ys p (other_flips bs) (below-tail p x xs below)
    ∙ other_at bs (length xs)

-- the product takes one step more
pub steps-last : (u : ℕ) (f : ℕ → ℕ) (s p : ℕ) (xs : List ℕ) (bs : List Bool)
    → shared_steps u f s (xs ++ (p ∷ [])) bs
    ≡ cond (get_or bs (length xs) false) (blend u 0 (shared_steps u f s xs bs) (f p)) (blend u (shared_steps u f s xs bs) 0 (f p))
steps-last u f s p [] bs = ap (λ (c : Bool). cond c (blend u 0 s (f p)) (blend u s 0 (f p))) (first-at bs)
steps-last u f s p (x ∷ xs) bs =
    let r = cond (first_flip bs) (blend u 0 s (f x)) (blend u s 0 (f x)) in
    steps-last u f r p xs (other_flips bs)
    ∙ ap
    (λ (c : Bool). cond c (blend u 0 (shared_steps u f r xs (other_flips bs)) (f p)) (blend u (shared_steps u f r xs (other_flips bs)) 0 (f p)))
    (other_at bs (length xs))

-- ---- all sets by their numbers: the low bit is the first supposition

pub sum-pairs : (n : ℕ) (F : ℕ → ℕ) → sum_below (2 * n) F ≡ sum_below n (λ m. F (2 * m)) + sum_below n (λ m. F (2 * m + 1))
sum-pairs zero F = refl
sum-pairs (suc n) F =
    let two : 2 * suc n ≡ suc (suc (2 * n)) = omega arith in
    let odd : suc (2 * n) ≡ 2 * n + 1 = omega arith in
    ap (λ (k : ℕ). sum_below k F) two ∙ omega (arith, sum-pairs n F, ap F odd)

pub sets-sum : (k : ℕ) (F : List Bool → ℕ) → sum_over_flips k F ≡ sum_below (2 ^ k) (λ m. F (input_values k m))
sets-sum zero F = sym (zero-add (F [])) ∙ ap (λ (n : ℕ). sum_below n (λ m. F [])) (sym (pow-zero 2))
sets-sum (suc k) F =
    ap₂ ◌+◌ (sets-sum k (λ bs. F (false ∷ bs)) ∙ sum_same _ _ (2 ^ k) (λ m l. even m)) (sets-sum k (λ bs. F (true ∷ bs)) ∙ sum_same _ _ (2 ^ k) (λ m l. odd m))
    ∙ sym (sum-pairs (2 ^ k) (λ m. F (input_values (suc k) m)))
    ∙ ap (λ (n : ℕ). sum_below n (λ m. F (input_values (suc k) m))) (sym (pow-succ' 2 k))
  where
    even : (m : ℕ) → F (false ∷ input_values k m) ≡ F (is_odd (2 * m) ∷ input_values k (2 * m / 2))
    even m =
        let bit : 2 * m % 2 ≡ 0 = omega arith in
        let rest : 2 * m / 2 ≡ m = omega arith in
        sym (ap₂ (λ (x y : ℕ). F (eqb x 1 ∷ input_values k y)) bit rest)

    odd : (m : ℕ) → F (true ∷ input_values k m) ≡ F (is_odd (2 * m + 1) ∷ input_values k ((2 * m + 1) / 2))
    odd m =
        let bit : (2 * m + 1) % 2 ≡ 1 = omega arith in
        let rest : (2 * m + 1) / 2 ≡ m = omega arith in
        sym (ap₂ (λ (x y : ℕ). F (eqb x 1 ∷ input_values k y)) bit rest)
