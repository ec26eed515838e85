-- Parts of lists, entry by entry: read, stored and copied. Assumes nothing.
use Prim.Native.Nat.{ℕ, zero, suc, ◌+◌, ◌≤◌, ◌<◌}
use mathlib.Core.Bool.{Bool, true, false, cond}
use mathlib.Core.List.{List, [], ◌∷◌, ◌++◌}
use mathlib.Core.Logic.{by_cases}
use mathlib.Core.Path.{◌≡◌, refl, sym, ap, ◌∙◌}
use native.Mathlib.Decide.{dec_lt}
use native.Mathlib.Numerals.{add-one}
use native.Mathlib.Omega.{arith}
use lib.Dec.{eqb}
use lib.ListN.{length, get_or, take, drop, set, replicate, length-set, length-append, length-take, length-drop, get_or-append, get_or-eq_default}
use lib.Seq.{get_or-set_same, get_or-set_other, sets-eq, sets, take-suc, length-take-le, get_or_at, get_or-take, get_or-drop}
use borrow.Author.Tests.{eqb-true, eqb-false}

-- an entry of a part in its place
pub part_at : (xs : List ℕ) (from count i : ℕ) → i < count → get_or (take count (drop from xs)) i 0 ≡ get_or xs (from + i) 0
part_at xs from count i l = get_or-take count (drop from xs) i 0 l ∙ get_or-drop from xs i 0

-- a list of four by its entries
pub four-of : (xs : List ℕ) → length xs ≡ 4 → xs ≡ get_or xs 0 0 ∷ get_or xs 1 0 ∷ get_or xs 2 0 ∷ get_or xs 3 0 ∷ []
four-of [] h = absurd (omega arith)
four-of (a ∷ []) h = absurd (omega arith)
four-of (a ∷ b ∷ []) h = absurd (omega arith)
four-of (a ∷ b ∷ c ∷ []) h = absurd (omega arith)
four-of (a ∷ b ∷ c ∷ d ∷ []) h = refl
four-of (a ∷ b ∷ c ∷ d ∷ e ∷ xs) h = absurd (omega arith)

-- four entries one by one are a part
pub four-from : (xs : List ℕ) (from : ℕ) → from + 4 ≤ length xs
    → get_or xs from 0 ∷ get_or xs (from + 1) 0 ∷ get_or xs (from + 2) 0 ∷ get_or xs (from + 3) 0 ∷ [] ≡ take 4 (drop from xs)
four-from xs from h =
    sym
    (four-of (take 4 (drop from xs)) (rw (length-take, length-drop) (omega arith))
    ∙ rw (at 0 from (omega arith) (omega arith), at 1 (from + 1) (omega arith) refl, at 2 (from + 2) (omega arith) refl, at 3 (from + 3) (omega arith) refl))
  where
    at : (i k : ℕ) → i < 4 → from + i ≡ k → get_or (take 4 (drop from xs)) i 0 ≡ get_or xs k 0
    at i k l e = part_at xs from 4 i l ∙ ap (λ (x : ℕ). get_or xs x 0) e

-- one entry more
pub snoc-at : {A : Type 0} (xs : List A) (x z : A) (n : ℕ) → length xs ≡ n → (i : ℕ) → get_or (xs ++ (x ∷ [])) i z ≡ cond (eqb n i) x (get_or xs i z)
snoc-at xs x z n e i = go (eqb n i) refl
  where
    go : (c : Bool) → eqb n i ≡ c → get_or (xs ++ (x ∷ [])) i z ≡ cond c x (get_or xs i z)
    go true q = get_or_at xs x [] z i (e ∙ eqb-true n i q)
    go false q =
        by_cases
        (dec_lt i n)
        (λ l. get_or-append xs (x ∷ []) z i (omega arith))
        (λ past.
        let other = eqb-false n i q in
        let after : length (xs ++ (x ∷ [])) ≤ i = omega (arith, length-append xs (x ∷ [])) in
        get_or-eq_default (xs ++ (x ∷ [])) z after ∙ sym (get_or-eq_default xs z (omega arith)))

-- every entry of zeros, also past their end
pub zeros-at : (n i : ℕ) → ◌≡◌ {A = ℕ} (get_or (replicate n 0) i 0) 0
zeros-at zero i = refl
zeros-at (suc n) zero = refl
zeros-at (suc n) (suc i) = zeros-at n i

-- two runs of stores after each other are one
pub sets-append : (vs us l : List ℕ) (i j : ℕ) → j ≡ i + length vs → sets l i (vs ++ us) ≡ sets (sets l i vs) j us
sets-append [] us l i j e =
    let z : j ≡ i = omega arith in
    rw z
sets-append (a ∷ vs) us l i j e = sets-append vs us (set l i a) (suc i) j (omega arith)

-- what a run of stores leaves as it was, and what it puts in
pub sets-kept : (vs l : List ℕ) (b k : ℕ) → k < b → get_or (sets l b vs) k 0 ≡ get_or l k 0
sets-kept [] l b k h = refl
sets-kept (a ∷ vs) l b k h = sets-kept vs (set l b a) (suc b) k (omega arith) ∙ get_or-set_other l b k a 0 (λ e. omega arith)

pub sets-new : (vs l : List ℕ) (b i : ℕ) → b + length vs ≤ length l → i < length vs → get_or (sets l b vs) (b + i) 0 ≡ get_or vs i 0
sets-new [] l b i h m = absurd (omega arith)
sets-new (a ∷ vs) l b zero h m =
    let same : b + 0 ≡ b = omega arith in
    rw same (sets-kept vs (set l b a) (suc b) b (omega arith) ∙ get_or-set_same l b a 0 (omega arith))
sets-new (a ∷ vs) l b (suc i) h m =
    let next : b + suc i ≡ suc b + i = omega arith in
    rw next (sets-new vs (set l b a) (suc b) i (rw length-set (omega arith)) (omega arith))

-- one store more of a list's front
pub sets-turn : (vs l ws : List ℕ) (b i : ℕ) → i < length vs → ws ≡ sets l b (take i vs)
    → set ws (b + i) (get_or vs i 0) ≡ sets l b (take (i + 1) vs)
sets-turn vs l ws b i h e =
    let s : take (i + 1) vs ≡ take i vs ++ (get_or vs i 0 ∷ []) = rw add-one (take-suc vs i 0 h) in
    let n : b + i ≡ b + length (take i vs) = ap (λ (k : ℕ). b + k) (sym (length-take-le i vs (omega arith))) in
    rw (e, s) (sym (sets-append (take i vs) (get_or vs i 0 ∷ []) l b (b + i) n))

-- a list stored from the front on; and the front of one
pub sets_first : (vs l : List ℕ) (n : ℕ) → length vs ≡ n → n ≤ length l → sets l 0 vs ≡ vs ++ drop n l
sets_first vs l n e h =
    let end : 0 + length vs ≡ n = omega arith in
    sets-eq vs l 0 (omega arith) ∙ ap (λ (i : ℕ). vs ++ drop i l) end
