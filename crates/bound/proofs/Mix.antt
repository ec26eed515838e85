-- Sums over independent bits. Source s is right with the share w₀ s and wrong with the share w₁ s, of `mass` together; e says of each source whether
-- it is wrong. Assumes nothing.
use Prim.Native.Nat.{ℕ, zero, suc, ◌+◌, ◌*◌, ◌^◌, ◌≤◌, ◌<◌}
use mathlib.Core.Bool.{Bool, true, false, cond}
use mathlib.Core.Path.{◌≡◌, refl, sym, ap, ap₂, subst, fun_ext, ◌∙◌}
use mathlib.Core.Logic.{⊎_elim}
use native.Mathlib.Nat.{pow-zero, pow-succ', one-mul, mul-le-mul_left, eq-or-lt_of_le, le_of_suc-le-suc, not-suc-le-zero}
use native.Mathlib.Omega.{arith}
use lib.Dec.{eqb}
use borrow.Author.Tests.{eqb-true, eq-eqb, ne_eqb}

-- e with the bit of s put to b
abbrev pub upd : (ℕ → Bool) → ℕ → Bool → ℕ → Bool
upd e s b t = cond (eqb t s) b (e t)

pub upd_same : (e : ℕ → Bool) (s : ℕ) (b : Bool) → upd e s b s ≡ b
upd_same e s b = ap (λ (c : Bool). cond c b (e s)) (eq-eqb s s refl)

pub upd_other : (e : ℕ → Bool) (s t : ℕ) (b : Bool) → (t ≡ s → ⊥) → upd e s b t ≡ e t
upd_other e s t b h = ap (λ (c : Bool). cond c b (e t)) (ne_eqb t s h)

pub upd-upd : (e : ℕ → Bool) (s : ℕ) (a b : Bool) → upd (upd e s a) s b ≡ upd e s b
upd-upd e s a b = fun_ext (λ t. go t (eqb t s))
  where
    go : (t : ℕ) (c : Bool) → cond c b (cond c a (e t)) ≡ cond c b (e t)
    go t true = refl
    go t false = refl

pub upd-comm : (e : ℕ → Bool) (s t : ℕ) (a b : Bool) → (s ≡ t → ⊥) → upd (upd e s a) t b ≡ upd (upd e t b) s a
upd-comm e s t a b h = fun_ext (λ r. go r (eqb r t) (eqb r s) refl refl)
  where
    go : (r : ℕ) (c c' : Bool) → eqb r t ≡ c → eqb r s ≡ c' → cond c b (cond c' a (e r)) ≡ cond c' a (cond c b (e r))
    go r true true p q = absurd (h (sym (eqb-true r s q) ∙ eqb-true r t p))
    go r true false p q = refl
    go r false true p q = refl
    go r false false p q = refl

last_sum : (a b m : ℕ) → a + b ≡ m → (x y : ℕ) → m * (a * x + b * y) ≡ a * (a * x + b * x) + b * (a * y + b * y)
last_sum a b m e x y = omega (arith, ap (λ (z : ℕ). z * (a * x + b * y)) e)

module _ (w₀ w₁ : ℕ → ℕ) where
  -- the sum of F over the bits of sources below s, each with its shares
  abbrev pub mix : ℕ → ((ℕ → Bool) → ℕ) → ℕ
  mix zero F = F (λ t. false)
  mix (suc s) F = w₀ s * mix s (λ e. F (upd e s false)) + w₁ s * mix s (λ e. F (upd e s true))

  pub mix-same : (s : ℕ) (F H : (ℕ → Bool) → ℕ) → ((e : ℕ → Bool) → F e ≡ H e) → mix s F ≡ mix s H
  mix-same s F H h = ap (mix s) (fun_ext h)

  pub mix-linear : (s a b : ℕ) (F H : (ℕ → Bool) → ℕ) → mix s (λ e. a * F e + b * H e) ≡ a * mix s F + b * mix s H
  mix-linear zero a b F H = refl
  mix-linear (suc s) a b F H =
      let f = mix-linear s a b (λ e. F (upd e s false)) (λ e. H (upd e s false)) in
      let t = mix-linear s a b (λ e. F (upd e s true)) (λ e. H (upd e s true)) in
      omega (arith, ap (λ (z : ℕ). w₀ s * z) f, ap (λ (z : ℕ). w₁ s * z) t)

  pub mix-add : (s : ℕ) (F H : (ℕ → Bool) → ℕ) → mix s (λ e. F e + H e) ≡ mix s F + mix s H
  mix-add s F H = mix-same s _ _ (λ e. omega arith) ∙ mix-linear s 1 1 F H ∙ omega arith

  module _ (mass : ℕ) (sums : (s : ℕ) → w₀ s + w₁ s ≡ mass) where
    pub mix-const : (s c : ℕ) → mix s (λ e. c) ≡ mass ^ s * c
    mix-const zero c = sym (ap (λ (z : ℕ). z * c) (pow-zero mass) ∙ one-mul c)
    mix-const (suc s) c =
        let h = mix-const s c in
        omega (arith, ap (λ (z : ℕ). z * mix s (λ e. c)) (sums s), ap (λ (z : ℕ). mass * z) h, ap (λ (z : ℕ). z * c) (pow-succ' mass s))

    pub mix-at-most : (s m : ℕ) (F : (ℕ → Bool) → ℕ) → ((e : ℕ → Bool) → F e ≤ m) → mix s F ≤ mass ^ s * m
    mix-at-most zero m F h = omega (arith, ap (λ (z : ℕ). z * m) (pow-zero mass), h (λ t. false))
    mix-at-most (suc s) m F h =
        let f = mul-le-mul_left (w₀ s) (mix-at-most s m (λ e. F (upd e s false)) (λ e. h (upd e s false))) in
        let t = mul-le-mul_left (w₁ s) (mix-at-most s m (λ e. F (upd e s true)) (λ e. h (upd e s true))) in
        omega (arith, ap (λ (z : ℕ). z * (mass ^ s * m)) (sums s), ap (λ (z : ℕ). z * m) (pow-succ' mass s))

    -- conditioning on the bit of one source p
    abbrev pub Given : ℕ → ℕ → ((ℕ → Bool) → ℕ) → Type 0
    Given s p F = mass * mix s F ≡ w₀ p * mix s (λ e. F (upd e p false)) + w₁ p * mix s (λ e. F (upd e p true))

    given-last : (s : ℕ) (F : (ℕ → Bool) → ℕ) → Given (suc s) s F
    given-last s F =
        let same : (a b : Bool) → mix s (λ e. F (upd (upd e s a) s b)) ≡ mix s (λ e. F (upd e s b)) = λ a b. mix-same s _ _ (λ e. ap F (upd-upd e s a b)) in
        rw (same false false, same true false, same false true, same true true)
        (last_sum (w₀ s) (w₁ s) mass (sums s) (mix s (λ e. F (upd e s false))) (mix s (λ e. F (upd e s true))))

    given-earlier : (s p : ℕ) → p < s → ((F : (ℕ → Bool) → ℕ) → Given s p F) → (F : (ℕ → Bool) → ℕ) → Given (suc s) p F
    given-earlier s p l ih F =
        let swap : (a b : Bool) → mix s (λ e. F (upd (upd e p a) s b)) ≡ mix s (λ e. F (upd (upd e s b) p a))
        = λ a b. mix-same s _ _ (λ e. ap F (upd-comm e p s a b (λ q. omega arith))) in
        let f : mass * mix s (λ e. F (upd e s false)) ≡ w₀ p * mix s (λ e. F (upd (upd e s false) p false)) + w₁ p * mix s (λ e. F (upd (upd e s false) p true))
        = rw (swap false false, swap true false) at (ih (λ e. F (upd e s false))) in
        let t : mass * mix s (λ e. F (upd e s true)) ≡ w₀ p * mix s (λ e. F (upd (upd e s true) p false)) + w₁ p * mix s (λ e. F (upd (upd e s true) p true))
        = rw (swap false true, swap true true) at (ih (λ e. F (upd e s true))) in
        omega (arith, ap (λ (z : ℕ). w₀ s * z) f, ap (λ (z : ℕ). w₁ s * z) t)

    pub mix-given : (s p : ℕ) → p < s → (F : (ℕ → Bool) → ℕ) → Given s p F
    mix-given zero p h F = absurd (not-suc-le-zero h)
    mix-given (suc s) p h F =
        ⊎_elim
        (λ q. subst (λ (t : ℕ). Given (suc s) t F) (sym q) (given-last s F))
        (λ l. given-earlier s p l (mix-given s p l) F)
        (eq-or-lt_of_le (le_of_suc-le-suc h))

    -- sources that are never wrong
    pub mix-sure : (s : ℕ) → ((t : ℕ) → t < s → w₁ t ≡ 0) → (F : (ℕ → Bool) → ℕ) → mix s F ≡ mass ^ s * F (λ t. false)
    mix-sure zero sure F = sym (ap (λ (z : ℕ). z * F (λ t. false)) (pow-zero mass) ∙ one-mul (F (λ t. false)))
    mix-sure (suc s) sure F =
        let none : w₁ s ≡ 0 = sure s (omega arith) in
        let right : mix s (λ e. F (upd e s false)) ≡ mass ^ s * F (λ t. false)
        = mix-sure s (λ t l. sure t (omega arith)) (λ e. F (upd e s false)) ∙ ap (λ (e : ℕ → Bool). mass ^ s * F e) (fun_ext (λ t. both (eqb t s))) in
        let full : w₀ s ≡ mass = omega (arith, sums s) in
        ap₂ (λ (a b : ℕ). a * mix s (λ e. F (upd e s false)) + b * mix s (λ e. F (upd e s true))) full none
        ∙ ap (λ (z : ℕ). mass * z + 0 * mix s (λ e. F (upd e s true))) right
        ∙ omega (arith, ap (λ (z : ℕ). z * F (λ t. false)) (pow-succ' mass s))
      where
        both : (c : Bool) → cond c false false ≡ false
        both true = refl
        both false = refl
