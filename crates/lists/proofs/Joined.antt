-- Lists of the places 0, 1, .. after each other: how long they are, what stands where, and a loop that stores them. Assumes nothing.
use Prim.Native.Nat.{ℕ, zero, suc, ◌+◌, ◌*◌, ◌<◌}
use mathlib.Core.List.{List, [], ◌∷◌, ◌++◌, append_assoc}
use mathlib.Core.Logic.{⊎_elim}
use mathlib.Core.Path.{◌≡◌, refl, sym, ap, ap₂, ◌∙◌}
use native.Mathlib.Nat.{not-suc-le-zero, eq-or-lt_of_le, mul-zero, mul-suc}
use native.Mathlib.Numerals.{add-one}
use native.Mathlib.Omega.{arith}
use lib.ListN.{length, get_or, drop, length-append, get_or-append}
use lib.Seq.{sets, drop_at, get_or_at}
use Rattle.lists.specs.Lists.{joined}
use Rattle.lists.proofs.Parts.{sets-append}

-- lists of one length: from the start of place j on stands its own, then a rest
module _ (f : ℕ → List ℕ) (s : ℕ) (same : (k : ℕ) → length (f k) ≡ s) where
  pub length-joined : (k : ℕ) → length (joined f k) ≡ s * k
  length-joined zero = sym (mul-zero s)
  length-joined (suc k) =
      length-append (joined f k) (f k) ∙ ap (λ (n : ℕ). n + length (f k)) (length-joined k) ∙ ap (λ (n : ℕ). s * k + n) (same k) ∙ sym (mul-suc s k)

  pub drop-joined : (k j : ℕ) → j < k → (rest : List ℕ) → (tail : List ℕ) × (drop (s * j) (joined f k ++ rest) ≡ f j ++ tail)
  drop-joined zero j l rest = absurd (not-suc-le-zero l)
  drop-joined (suc k) j l rest =
      ⊎_elim
      (λ (q : j ≡ k). (rest, here q))
      (λ (q : j < k). let r = drop-joined k j q (f k ++ rest) in (r.0, rw append_assoc r.1))
      (eq-or-lt_of_le {n = j} {m = k} (omega arith))
    where
      here : j ≡ k → drop (s * j) ((joined f k ++ f k) ++ rest) ≡ f j ++ rest
      here q = rw (q, append_assoc) (drop_at (joined f k) (f k ++ rest) (s * k) (length-joined k))

-- single entries
pub length-listed : (f : ℕ → ℕ) (k : ℕ) → length (joined (λ (i : ℕ). f i ∷ []) k) ≡ k
length-listed f k =
    let e = length-joined (λ (i : ℕ). f i ∷ []) 1 (λ i. refl) k in
    omega arith

pub listed_at : (f : ℕ → ℕ) (k i : ℕ) → i < k → get_or (joined (λ (i : ℕ). f i ∷ []) k) i 0 ≡ f i
listed_at f zero i l = absurd (not-suc-le-zero l)
listed_at f (suc k) i l =
    ⊎_elim
    (λ (q : i ≡ k). rw q (get_or_at (joined (λ (i : ℕ). f i ∷ []) k) (f k) [] 0 k (length-listed f k)))
    (λ (q : i < k). get_or-append (joined (λ (i : ℕ). f i ∷ []) k) (f k ∷ []) 0 i (rw (length-listed f k) q) ∙ listed_at f k i q)
    (eq-or-lt_of_le {n = i} {m = k} (omega arith))

pub joined_same : (f g : ℕ → List ℕ) (k : ℕ) → ((i : ℕ) → i < k → f i ≡ g i) → joined f k ≡ joined g k
joined_same f g zero h = refl
joined_same f g (suc k) h = ap₂ ◌++◌ (joined_same f g k (λ i l. h i (omega arith))) (h k (omega arith))

-- one place more is stored after those before it
pub joined-turn : (f : ℕ → List ℕ) (l ws new : List ℕ) (b k p : ℕ) → p ≡ b + length (joined f k) → ws ≡ sets l b (joined f k) → new ≡ sets ws p (f k)
    → new ≡ sets l b (joined f (k + 1))
joined-turn f l ws new b k p n e h = rw (h, e, add-one k) (sym (sets-append (joined f k) (f k) l b p n))
