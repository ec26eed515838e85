-- The pins of rules 5 and 6 tested at once, each below a bound of its own: where it is unused, below 1. Assumes nothing.
use Prim.Native.Nat.{ℕ, zero, suc}
use mathlib.Core.Bool.{Bool, true, false, ◌&&◌}
use mathlib.Core.List.{List, [], ◌∷◌}
use mathlib.Core.Path.{◌≡◌, refl, sym, ap, ap₂, ◌∙◌}
use native.Mathlib.Omega.{arith}
use borrow.Author.Tests.{ne_eqb, le-ltb}
use lib.Dec.{ltb, eqb}
use lib.ListN.{length, get_or, drop}
use Rattle.lists.specs.Lists.{all_zero}
use Rattle.area.specs.Rules.{used_below}

pub four-entries : (ps : List ℕ) → length ps ≡ 4 → ps ≡ get_or ps 0 0 ∷ get_or ps 1 0 ∷ get_or ps 2 0 ∷ get_or ps 3 0 ∷ []
four-entries [] e = absurd (omega arith)
four-entries (a ∷ []) e = absurd (omega arith)
four-entries (a ∷ b ∷ []) e = absurd (omega arith)
four-entries (a ∷ b ∷ c ∷ []) e = absurd (omega arith)
four-entries (a ∷ b ∷ c ∷ d ∷ []) e = refl
four-entries (a ∷ b ∷ c ∷ d ∷ x ∷ xs) e = absurd (omega arith)

and-true : (b : Bool) → b && true ≡ b
and-true true = refl
and-true false = refl

and-false : (b : Bool) → b && false ≡ false
and-false true = refl
and-false false = refl

-- zero is below 1
zero-below : (p : ℕ) → eqb p 0 ≡ ltb p 1
zero-below zero = refl
zero-below (suc p) = ne_eqb (suc p) 0 (λ e. omega arith) ∙ sym (le-ltb (suc p) 1 (omega arith))

-- the used pins' tests first: for none, one, two, three and four of them
none-used : (a b c d : Bool) → (a && (b && (c && (d && true)))) && true ≡ a && (b && (c && d))
none-used a b c d = and-true (a && (b && (c && (d && true)))) ∙ ap (λ (e : Bool). a && (b && (c && e))) (and-true d)

one-used : (x b c d : Bool) → (b && (c && (d && true))) && (x && true) ≡ x && (b && (c && d))
one-used true b c d = and-true (b && (c && (d && true))) ∙ ap (λ (e : Bool). b && (c && e)) (and-true d)
one-used false b c d = and-false (b && (c && (d && true)))

two-used : (x y c d : Bool) → (c && (d && true)) && (x && (y && true)) ≡ x && (y && (c && d))
two-used true y c d = one-used y true c d
two-used false y c d = and-false (c && (d && true))

three-used : (x y z d : Bool) → (d && true) && (x && (y && (z && true))) ≡ x && (y && (z && d))
three-used true y z d = two-used y z true d
three-used false y z d = and-false (d && true)

four-used : (x y z w : Bool) → x && (y && (z && (w && true))) ≡ x && (y && (z && w))
four-used x y z w = ap (λ (e : Bool). x && (y && (z && e))) (and-true w)

-- each pin below its bound
abbrev pub four_below : List ℕ → ℕ → ℕ → ℕ → ℕ → Bool
four_below ps a b c d = ltb (get_or ps 0 0) a && (ltb (get_or ps 1 0) b && (ltb (get_or ps 2 0) c && ltb (get_or ps 3 0) d))

-- what rules 5 and 6 ask of so many pins
abbrev pub pins_pass : ℕ → ℕ → List ℕ → Bool
pins_pass limit count ps = all_zero (drop count ps) && used_below limit count ps

module _ (limit : ℕ) (ps : List ℕ) (long : length ps ≡ 4) where
  -- of the four pins, spelled out
  arm : {count : ℕ} (k : ℕ) → count ≡ k
      → pins_pass limit count ps ≡ pins_pass limit k (get_or ps 0 0 ∷ get_or ps 1 0 ∷ get_or ps 2 0 ∷ get_or ps 3 0 ∷ [])
  arm k e = ap₂ (pins_pass limit) e (four-entries ps long)

  zero-at : (i : ℕ) → eqb (get_or ps i 0) 0 ≡ ltb (get_or ps i 0) 1
  zero-at i = zero-below (get_or ps i 0)

  abbrev below : ℕ → Bool
  below i = ltb (get_or ps i 0) limit

  abbrev zeros : ℕ → Bool
  zeros i = eqb (get_or ps i 0) 0

  pub pass-none : {count : ℕ} → count ≡ 0 → pins_pass limit count ps ≡ four_below ps 1 1 1 1
  unfolding used_below
  pass-none e = arm 0 e ∙ none-used (zeros 0) (zeros 1) (zeros 2) (zeros 3) ∙ (λ i. zero-at 0 i && (zero-at 1 i && (zero-at 2 i && zero-at 3 i)))

  pub pass-one : {count : ℕ} → count ≡ 1 → pins_pass limit count ps ≡ four_below ps limit 1 1 1
  unfolding used_below
  pass-one e = arm 1 e ∙ one-used (below 0) (zeros 1) (zeros 2) (zeros 3) ∙ (λ i. below 0 && (zero-at 1 i && (zero-at 2 i && zero-at 3 i)))

  pub pass-two : {count : ℕ} → count ≡ 2 → pins_pass limit count ps ≡ four_below ps limit limit 1 1
  unfolding used_below
  pass-two e = arm 2 e ∙ two-used (below 0) (below 1) (zeros 2) (zeros 3) ∙ (λ i. below 0 && (below 1 && (zero-at 2 i && zero-at 3 i)))

  pub pass-three : {count : ℕ} → count ≡ 3 → pins_pass limit count ps ≡ four_below ps limit limit limit 1
  unfolding used_below
  pass-three e = arm 3 e ∙ three-used (below 0) (below 1) (below 2) (zeros 3) ∙ (λ i. below 0 && (below 1 && (below 2 && zero-at 3 i)))

  pub pass-four : {count : ℕ} → count ≡ 4 → pins_pass limit count ps ≡ four_below ps limit limit limit limit
  unfolding used_below
  pass-four e = arm 4 e ∙ four-used (below 0) (below 1) (below 2) (below 3)

-- the unused pins alone, and the used ones alone: a pin that is not asked about is below a bound of its own
module _ (ps : List ℕ) (long : length ps ≡ 4) where
  abbrev four : List ℕ
  four = get_or ps 0 0 ∷ get_or ps 1 0 ∷ get_or ps 2 0 ∷ get_or ps 3 0 ∷ []

  zero_arm : {count : ℕ} (k : ℕ) → count ≡ k → all_zero (drop count ps) ≡ all_zero (drop k four)
  zero_arm k e = ap₂ (λ (n : ℕ) (xs : List ℕ). all_zero (drop n xs)) e (four-entries ps long)

  zero-pin : (i : ℕ) → eqb (get_or ps i 0) 0 ≡ ltb (get_or ps i 0) 1
  zero-pin i = zero-below (get_or ps i 0)

  pub unused-none : {count : ℕ} → count ≡ 0 → all_zero (drop count ps) ≡ four_below ps 1 1 1 1
  unused-none e =
      zero_arm 0 e
      ∙ four-used (eqb (get_or ps 0 0) 0) (eqb (get_or ps 1 0) 0) (eqb (get_or ps 2 0) 0) (eqb (get_or ps 3 0) 0)
      ∙ (λ i. zero-pin 0 i && (zero-pin 1 i && (zero-pin 2 i && zero-pin 3 i)))

  pub unused-one : {count : ℕ} (a : ℕ) → count ≡ 1 → ltb (get_or ps 0 0) a ≡ true → all_zero (drop count ps) ≡ four_below ps a 1 1 1
  unused-one a e h =
      zero_arm 1 e
      ∙ four-used true (eqb (get_or ps 1 0) 0) (eqb (get_or ps 2 0) 0) (eqb (get_or ps 3 0) 0)
      ∙ (λ i. true && (zero-pin 1 i && (zero-pin 2 i && zero-pin 3 i)))
      ∙ ap (λ (x : Bool). x && (ltb (get_or ps 1 0) 1 && (ltb (get_or ps 2 0) 1 && ltb (get_or ps 3 0) 1))) (sym h)

  pub unused-two : {count : ℕ} (a b : ℕ) → count ≡ 2 → ltb (get_or ps 0 0) a ≡ true → ltb (get_or ps 1 0) b ≡ true
      → all_zero (drop count ps) ≡ four_below ps a b 1 1
  unused-two a b e h k =
      zero_arm 2 e
      ∙ four-used true true (eqb (get_or ps 2 0) 0) (eqb (get_or ps 3 0) 0)
      ∙ (λ i. true && (true && (zero-pin 2 i && zero-pin 3 i)))
      ∙ ap₂ (λ (x y : Bool). x && (y && (ltb (get_or ps 2 0) 1 && ltb (get_or ps 3 0) 1))) (sym h) (sym k)

  pub unused-three : {count : ℕ} (a b c : ℕ) → count ≡ 3 → ltb (get_or ps 0 0) a ≡ true → ltb (get_or ps 1 0) b ≡ true → ltb (get_or ps 2 0) c ≡ true
      → all_zero (drop count ps) ≡ four_below ps a b c 1
  unused-three a b c e h k l =
      zero_arm 3 e
      ∙ four-used true true true (eqb (get_or ps 3 0) 0)
      ∙ zero-pin 3
      ∙ (λ i. sym h i && (sym k i && (sym l i && ltb (get_or ps 3 0) 1)))

  pub unused-four : {count : ℕ} → count ≡ 4 → all_zero (drop count ps) ≡ true
  unused-four e = zero_arm 4 e

  used-arm : (limit : ℕ) {count : ℕ} (k : ℕ) → count ≡ k → used_below limit count ps ≡ used_below limit k four
  used-arm limit k e = ap₂ (used_below limit) e (four-entries ps long)

  pub used-none : (limit : ℕ) {count : ℕ} → count ≡ 0 → used_below limit count ps ≡ true
  unfolding used_below
  used-none limit e = used-arm limit 0 e

  pub used-one : (limit b c d : ℕ) {count : ℕ} → count ≡ 1 → ltb (get_or ps 1 0) b ≡ true → ltb (get_or ps 2 0) c ≡ true → ltb (get_or ps 3 0) d ≡ true
      → used_below limit count ps ≡ four_below ps limit b c d
  unfolding used_below
  used-one limit b c d e h k l = used-arm limit 1 e ∙ (λ i. ltb (get_or ps 0 0) limit && (sym h i && (sym k i && sym l i)))

  pub used-two : (limit c d : ℕ) {count : ℕ} → count ≡ 2 → ltb (get_or ps 2 0) c ≡ true → ltb (get_or ps 3 0) d ≡ true
      → used_below limit count ps ≡ four_below ps limit limit c d
  unfolding used_below
  used-two limit c d e k l = used-arm limit 2 e ∙ (λ i. ltb (get_or ps 0 0) limit && (ltb (get_or ps 1 0) limit && (sym k i && sym l i)))

  pub used-three : (limit d : ℕ) {count : ℕ} → count ≡ 3 → ltb (get_or ps 3 0) d ≡ true → used_below limit count ps ≡ four_below ps limit limit limit d
  unfolding used_below
  used-three limit d e l =
      used-arm limit 3 e ∙ (λ i. ltb (get_or ps 0 0) limit && (ltb (get_or ps 1 0) limit && (ltb (get_or ps 2 0) limit && sym l i)))

  pub used-four : (limit : ℕ) {count : ℕ} → count ≡ 4 → used_below limit count ps ≡ four_below ps limit limit limit limit
  unfolding used_below
  used-four limit e =
      used-arm limit 4 e ∙ four-used (ltb (get_or ps 0 0) limit) (ltb (get_or ps 1 0) limit) (ltb (get_or ps 2 0) limit) (ltb (get_or ps 3 0) limit)

-- a gate's tests, those of its pins together
pub regroup : (a t z b : Bool) (r : Bool) → (a && (t && z)) && (b && r) ≡ a && (t && ((z && b) && r))
regroup true true true b r = refl
regroup true true false b r = refl
regroup true false z b r = refl
regroup false t z b r = refl
