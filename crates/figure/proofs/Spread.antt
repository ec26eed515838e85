-- Arrays filled from the front, one turn of a loop after another: the spreading of indices and the start values. Assumes nothing.
use Prim.Native.Nat.{ℕ, suc, ◌+◌, ◌*◌, ◌<◌}
use mathlib.Core.Path.{◌≡◌, refl, sym, ap, ◌∙◌}
use mathlib.Core.List.{List, [], ◌∷◌, ◌++◌, map, append_assoc}
use native.Mathlib.Numerals.{add-one}
use native.Mathlib.Omega.{arith}
use lib.ListN.{length, get_or, take, set, length-set}
use lib.Seq.{take-suc, take-suc-set}
use Rattle.figure.specs.Steps.{spread_step}

spread-append : (right wrong : ℕ) (xs : List ℕ) (x : ℕ)
    → spread_step right wrong (xs ++ (x ∷ [])) ≡ spread_step right wrong xs ++ ((x + right) ∷ (x + wrong) ∷ [])
spread-append right wrong [] x = refl
spread-append right wrong (y ∷ xs) x = ap (λ (l : List ℕ). (y + right) ∷ (y + wrong) ∷ l) (spread-append right wrong xs x)

map-append : (D : ℕ → ℕ) (xs : List ℕ) (x : ℕ) → map D (xs ++ (x ∷ [])) ≡ map D xs ++ (D x ∷ [])
map-append D [] x = refl
map-append D (y ∷ xs) x = ap (λ (l : List ℕ). D y ∷ l) (map-append D xs x)

-- two stores side by side
take-two : (l : List ℕ) (n : ℕ) (a b : ℕ) → n + 1 < length l → take (n + 2) (set (set l n a) (n + 1) b) ≡ take n l ++ (a ∷ b ∷ [])
take-two l n a b h =
    rw (add-two', add-one)
    (take-suc-set (set l n a) (suc n) b (rw length-set (omega arith))
    ∙ ap (λ (x : List ℕ). x ++ (b ∷ [])) (take-suc-set l n a (omega arith))
    ∙ append_assoc (take n l) (a ∷ []) (b ∷ []))
  where
    add-two' : n + 2 ≡ suc (suc n)
    add-two' = omega arith

-- one turn of the spreading
pub spread-turn : (right wrong : ℕ) (xs ys : List ℕ) (i : ℕ) → i < length xs → 2 * i + 1 < length ys
    → take (2 * i) ys ≡ spread_step right wrong (take i xs)
    → take (2 * (i + 1)) (set (set ys (2 * i) (get_or xs i 0 + right)) (2 * i + 1) (get_or xs i 0 + wrong)) ≡ spread_step right wrong (take (i + 1) xs)
spread-turn right wrong xs ys i hx hy e =
    let next : 2 * (i + 1) ≡ 2 * i + 2 = omega arith in
    rw (next, add-one i, take-suc xs i 0)
    (take-two ys (2 * i) _ _ hy
    ∙ ap (λ (l : List ℕ). l ++ ((get_or xs i 0 + right) ∷ (get_or xs i 0 + wrong) ∷ [])) e
    ∙ sym (spread-append right wrong (take i xs) (get_or xs i 0)))

-- one turn of filling in D of each element
pub map-turn : (D : ℕ → ℕ) (xs ys : List ℕ) (i : ℕ) → i < length xs → i < length ys → take i ys ≡ map D (take i xs)
    → take (i + 1) (set ys i (D (get_or xs i 0))) ≡ map D (take (i + 1) xs)
map-turn D xs ys i hx hy e =
    rw (add-one, take-suc xs i 0)
    (take-suc-set ys i _ hy ∙ ap (λ (l : List ℕ). l ++ (D (get_or xs i 0) ∷ [])) e ∙ sym (map-append D (take i xs) (get_or xs i 0)))
