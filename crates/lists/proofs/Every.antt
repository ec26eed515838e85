-- A test of every number of a range or of every element of a list: what a loop that stops at the first failure knows at each turn,
-- and the test as a fact both ways. Assumes nothing.
use Prim.Native.Nat.{ℕ, zero, suc, ◌+◌, ◌-◌, ◌≤◌, ◌<◌}
use mathlib.Core.Bool.{Bool, true, false, ◌&&◌, and-eq-true_iff}
use mathlib.Core.List.{List, [], ◌∷◌, ◌++◌, map}
use mathlib.Core.Path.{◌≡◌, refl, sym, ap, ap₂, subst, ◌∙◌}
use native.Mathlib.Nat.{add-zero}
use native.Mathlib.Numerals.{add-one}
use native.Mathlib.Omega.{arith}
use lib.Dec.{ltb, eqb}
use lib.ListN.{length, get_or, take, drop}
use lib.Seq.{drop-cons, drop-length}
use borrow.Author.Tests.{ltb-true, lt-ltb, eqb-true, eq-eqb}
use Rattle.lists.specs.Lists.{all_zero, all_below, every_from, Below}

-- a loop up to n, at j: a turn that passes, a turn that fails, the end
module _ (t : ℕ → Bool) (j n : ℕ) where
  first : j < n → every_from t j (n - j) ≡ t j && every_from t (suc j) (n - suc j)
  first h =
      let e : n - j ≡ suc (n - suc j) = omega arith in
      ap (every_from t j) e

  pub passes_on : j < n → t j ≡ true → every_from t j (n - j) ≡ every_from t (j + 1) (n - (j + 1))
  passes_on h e = rw add-one (first h ∙ ap (λ (b : Bool). b && every_from t (suc j) (n - suc j)) e)

  pub fails : j < n → t j ≡ false → every_from t j (n - j) ≡ false
  fails h e = first h ∙ ap (λ (b : Bool). b && every_from t (suc j) (n - suc j)) e

  pub ends : n ≤ j → every_from t j (n - j) ≡ true
  ends h =
      let e : n - j ≡ 0 = omega arith in
      ap (every_from t j) e

-- the test of a whole range against the test at each number
pub every_holds : (t : ℕ → Bool) (j k : ℕ) → every_from t j k ≡ true → (i : ℕ) → i < k → t (j + i) ≡ true
every_holds t j zero e i h = absurd (omega arith)
every_holds t j (suc k) e zero h =
    let s : j + 0 ≡ j = omega arith in
    ap t s ∙ ((and-eq-true_iff (t j) (every_from t (suc j) k)).0 e).0
every_holds t j (suc k) e (suc i) h =
    let s : suc j + i ≡ j + suc i = omega arith in
    ap t (sym s) ∙ every_holds t (suc j) k ((and-eq-true_iff (t j) (every_from t (suc j) k)).0 e).1 i (omega arith)

pub holds-every : (t : ℕ → Bool) (j k : ℕ) → ((i : ℕ) → i < k → t (j + i) ≡ true) → every_from t j k ≡ true
holds-every t j zero f = refl
holds-every t j (suc k) f =
    let s : j ≡ j + 0 = omega arith in
    (and-eq-true_iff (t j) (every_from t (suc j) k)).1 (ap t s ∙ f 0 (omega arith), holds-every t (suc j) k (λ i h. ap t (next i) ∙ f (suc i) (omega arith)))
  where
    next : (i : ℕ) → suc j + i ≡ j + suc i
    next i = omega arith

-- the tests of every entry in this form
pub below-part : (b : ℕ) (ws : List ℕ) (s k : ℕ) → s + k ≤ length ws → all_below b (take k (drop s ws)) ≡ every_from (λ i. ltb (get_or ws i 0) b) s k
below-part b ws s zero h = refl
below-part b ws s (suc k) h =
    rw (drop-cons ws s 0 (omega arith)) (ap (λ (r : Bool). ltb (get_or ws s 0) b && r) (below-part b ws (suc s) k (omega arith)))

pub zero-part : (ws : List ℕ) (s k : ℕ) → s + k ≡ length ws → all_zero (drop s ws) ≡ every_from (λ i. eqb (get_or ws i 0) 0) s k
zero-part ws s zero h =
    let e : s ≡ length ws = omega arith in
    rw (e, drop-length)
zero-part ws s (suc k) h =
    rw (drop-cons ws s 0 (omega arith)) (ap (λ (r : Bool). eqb (get_or ws s 0) 0 && r) (zero-part ws (suc s) k (omega arith)))

-- a test of the first k numbers as a fact at each of them, and back
pub all_hold : (t : ℕ → Bool) (k : ℕ) → every_from t 0 k ≡ true → (i : ℕ) → i < k → t i ≡ true
all_hold t k e i h =
    let z : i ≡ 0 + i = omega arith in
    ap t z ∙ every_holds t 0 k e i h

pub hold-all : (t : ℕ → Bool) (k : ℕ) → ((i : ℕ) → i < k → t i ≡ true) → every_from t 0 k ≡ true
hold-all t k f = holds-every t 0 k (λ i h. ap t (same i) ∙ f i h)
  where
    same : (i : ℕ) → 0 + i ≡ i
    same i = omega arith

pub below-tail : (b x : ℕ) (xs : List ℕ) → Below b (x ∷ xs) → Below b xs
below-tail b x xs h i l = h (suc i) (omega arith)

-- the tests of every entry as facts and back; past the end get_or has 0
pub zero-holds : (xs : List ℕ) → all_zero xs ≡ true → (i : ℕ) → get_or xs i 0 ≡ 0
zero-holds [] e i = refl
zero-holds (x ∷ xs) e zero = eqb-true x 0 ((and-eq-true_iff (eqb x 0) (all_zero xs)).0 e).0
zero-holds (x ∷ xs) e (suc i) = zero-holds xs ((and-eq-true_iff (eqb x 0) (all_zero xs)).0 e).1 i

pub zero-passes : (xs : List ℕ) → ((i : ℕ) → get_or xs i 0 ≡ 0) → all_zero xs ≡ true
zero-passes [] f = refl
zero-passes (x ∷ xs) f = (and-eq-true_iff (eqb x 0) (all_zero xs)).1 (eq-eqb x 0 (f 0), zero-passes xs (λ i. f (suc i)))

pub below_holds : (b : ℕ) (xs : List ℕ) → all_below b xs ≡ true → Below b xs
below_holds b [] e i h = absurd (omega arith)
below_holds b (x ∷ xs) e zero h = ltb-true x b ((and-eq-true_iff (ltb x b) (all_below b xs)).0 e).0
below_holds b (x ∷ xs) e (suc i) h = below_holds b xs ((and-eq-true_iff (ltb x b) (all_below b xs)).0 e).1 i (omega arith)

pub below-passes : (b : ℕ) (xs : List ℕ) → Below b xs → all_below b xs ≡ true
below-passes b [] f = refl
below-passes b (x ∷ xs) f =
    (and-eq-true_iff (ltb x b) (all_below b xs)).1 (lt-ltb x b (f 0 (omega arith)), below-passes b xs (below-tail b x xs f))

-- P holds of each entry with its number, the first being s; z stands past the end
module _ {A : Type 0} (z : A) (P : ℕ → A → Type 0) where
  abbrev pub AllFrom : ℕ → List A → Type 0
  AllFrom s xs = (j : ℕ) → j < length xs → P (s + j) (get_or xs j z)

  pub all_head : (s : ℕ) (x : A) (xs : List A) → AllFrom s (x ∷ xs) → P s x
  all_head s x xs h = subst (λ (t : ℕ). P t x) (add-zero s) (h 0 (omega arith))

  pub all_tail : (s : ℕ) (x : A) (xs : List A) → AllFrom s (x ∷ xs) → AllFrom (suc s) xs
  all_tail s x xs h j l = subst (λ (t : ℕ). P t (get_or xs j z)) (omega arith) (h (suc j) (omega arith))

-- Q holds of every entry, also past the end: one entry more, and the entries of a map
module _ {B : Type 0} (z : B) (Q : B → Type 0) (base : Q z) where
  pub snoc-all : (xs : List B) → ((i : ℕ) → Q (get_or xs i z)) → (y : B) → Q y → (i : ℕ) → Q (get_or (xs ++ (y ∷ [])) i z)
  snoc-all [] h y hy zero = hy
  snoc-all [] h y hy (suc i) = base
  snoc-all (x ∷ xs) h y hy zero = h 0
  snoc-all (x ∷ xs) h y hy (suc i) = snoc-all xs (λ k. h (suc k)) y hy i

  pub map-all : (f : ℕ → B) (ps : List ℕ) → ((i : ℕ) → i < length ps → Q (f (get_or ps i 0))) → (i : ℕ) → Q (get_or (map f ps) i z)
  map-all f [] h i = base
  map-all f (p ∷ ps) h zero = h 0 (omega arith)
  map-all f (p ∷ ps) h (suc i) = map-all f ps (λ k l. h (suc k) (omega arith)) i

-- functions that agree at every entry have the same map
pub map_same : {B : Type 0} (f g : ℕ → B) (ps : List ℕ) → ((i : ℕ) → i < length ps → f (get_or ps i 0) ≡ g (get_or ps i 0)) → map f ps ≡ map g ps
map_same f g [] h = refl
map_same f g (p ∷ ps) h = ap₂ ◌∷◌ (h 0 (omega arith)) (map_same f g ps (λ i l. h (suc i) (omega arith)))
