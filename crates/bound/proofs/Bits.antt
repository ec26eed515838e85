-- The fold law: a factor that reads some independent bits comes out of a sum over bits as its fold, where what is left reads none of them.
-- It serves gates and outputs alike. Assumes nothing.
use Prim.Native.Nat.{ℕ, ◌+◌, ◌*◌, ◌^◌, ◌≤◌, ◌<◌}
use mathlib.Core.Bool.{Bool, true, false}
use mathlib.Core.List.{List, [], ◌∷◌, ◌++◌, map}
use mathlib.Core.Path.{◌≡◌, refl, sym, ap, ap₂, fun_ext, ◌∙◌}
use mathlib.Core.Logic.{◌⊎◌, inl, inr, ⊎_elim}
use native.Mathlib.Nat.{pow-zero, pow-succ', one-mul, eq-zero-or-pos}
use native.Mathlib.Omega.{arith}
use lib.ListN.{length, get_or}
use Rattle.lists.specs.Lists.{count, Below}
use Rattle.lists.proofs.Counts.{count-self, count-append, count_at}
use Rattle.lists.proofs.Every.{below-tail, map_same}
use Rattle.bound.proofs.Mix.{upd, upd_same, upd_other, mix, mix-same, mix-linear, mix-given}

-- F depends on no other bits than those of the sources in rs
abbrev pub ReadsOnly : List ℕ → ((ℕ → Bool) → ℕ) → Type 0
ReadsOnly rs F = (e e' : ℕ → Bool) → ((t : ℕ) → 0 < count t rs → e t ≡ e' t) → F e ≡ F e'

-- a source that does not stand in rs may change
unread-at : (rs : List ℕ) (p : ℕ) → count p rs ≡ 0 → (e : ℕ → Bool) (b : Bool) (t : ℕ) → 0 < count t rs → upd e p b t ≡ e t
unread-at rs p none e b t h = upd_other e p t b (λ q. omega (arith, ap (λ (k : ℕ). count k rs) q))

pub unread : (rs : List ℕ) (F : (ℕ → Bool) → ℕ) → ReadsOnly rs F → (p : ℕ) → count p rs ≡ 0 → (e : ℕ → Bool) (b : Bool) → F (upd e p b) ≡ F e
unread rs F only p none e b = only (upd e p b) e (unread-at rs p none e b)

-- errors that agree on the sources in ps
pub map-agree : (e e' : ℕ → Bool) (ps : List ℕ) → ((t : ℕ) → 0 < count t ps → e t ≡ e' t) → map e ps ≡ map e' ps
map-agree e e' ps h = map_same e e' ps (λ i l. h (get_or ps i 0) (count_at (get_or ps i 0) ps i l refl))

-- no source that may be wrong, with share w₁, stands twice in rs
abbrev pub Once : (ℕ → ℕ) → List ℕ → Type 0
Once w₁ rs = (p : ℕ) → 0 < w₁ p → count p rs ≤ 1

module _ (w₀ w₁ : ℕ → ℕ) where
  -- the fold of a function of the pins' errors over the pins' bits, pin 0 first
  abbrev pub fold_bits : List ℕ → (List Bool → ℕ) → ℕ
  fold_bits [] T = T []
  fold_bits (p ∷ ps) T = fold_bits ps (λ bs. w₀ p * T (false ∷ bs) + w₁ p * T (true ∷ bs))

  pub bits-linear : (ps : List ℕ) (a b : ℕ) (X Y : List Bool → ℕ) → fold_bits ps (λ bs. a * X bs + b * Y bs) ≡ a * fold_bits ps X + b * fold_bits ps Y
  bits-linear [] a b X Y = refl
  bits-linear (p ∷ ps) a b X Y =
      ap (fold_bits ps) (fun_ext (λ bs. omega arith))
      ∙ bits-linear ps a b (λ bs. w₀ p * X (false ∷ bs) + w₁ p * X (true ∷ bs)) (λ bs. w₀ p * Y (false ∷ bs) + w₁ p * Y (true ∷ bs))

  pub bits-add : (ps : List ℕ) (X Y : List Bool → ℕ) → fold_bits ps (λ bs. X bs + Y bs) ≡ fold_bits ps X + fold_bits ps Y
  bits-add ps X Y = ap (fold_bits ps) (fun_ext (λ bs. omega arith)) ∙ bits-linear ps 1 1 X Y ∙ omega arith

  module _ (mass : ℕ) (sums : (s : ℕ) → w₀ s + w₁ s ≡ mass) where
    pub bits-const : (ps : List ℕ) (c : ℕ) → fold_bits ps (λ bs. c) ≡ mass ^ length ps * c
    bits-const [] c = sym (ap (λ (z : ℕ). z * c) (pow-zero mass) ∙ one-mul c)
    bits-const (p ∷ ps) c =
        ap (λ (k : ℕ). fold_bits ps (λ bs. k)) (omega (arith, ap (λ (z : ℕ). z * c) (sums p)))
        ∙ bits-const ps (mass * c)
        ∙ omega (arith, ap (λ (z : ℕ). z * c) (pow-succ' mass (length ps)))

    -- a sum by the value of one bit, where that bit is never wrong or nothing else reads it
    given-bit : (s p : ℕ) → p < s → (F : Bool → (ℕ → Bool) → ℕ)
        → (w₁ p ≡ 0) ⊎ ((b c : Bool) (e : ℕ → Bool) → F b (upd e p c) ≡ F b e)
        → mass * mix w₀ w₁ s (λ e. F (e p) e) ≡ w₀ p * mix w₀ w₁ s (F false) + w₁ p * mix w₀ w₁ s (F true)
    given-bit s p l F way = whole ∙ ⊎_elim never free way
      where
        given : (b : Bool) → mix w₀ w₁ s (λ e. F (upd e p b p) (upd e p b)) ≡ mix w₀ w₁ s (λ e. F b (upd e p b))
        given b = mix-same w₀ w₁ s _ _ (λ e. ap (λ (c : Bool). F c (upd e p b)) (upd_same e p b))

        whole : mass * mix w₀ w₁ s (λ e. F (e p) e) ≡ w₀ p * mix w₀ w₁ s (λ e. F false (upd e p false)) + w₁ p * mix w₀ w₁ s (λ e. F true (upd e p true))
        whole =
            mix-given w₀ w₁ mass sums s p l (λ e. F (e p) e)
            ∙ ap₂ (λ (x y : ℕ). w₀ p * x + w₁ p * y) (given false) (given true)

        free : ((b c : Bool) (e : ℕ → Bool) → F b (upd e p c) ≡ F b e)
            → w₀ p * mix w₀ w₁ s (λ e. F false (upd e p false)) + w₁ p * mix w₀ w₁ s (λ e. F true (upd e p true))
            ≡ w₀ p * mix w₀ w₁ s (F false) + w₁ p * mix w₀ w₁ s (F true)
        free h =
            ap₂
            (λ (x y : ℕ). w₀ p * x + w₁ p * y)
            (mix-same w₀ w₁ s _ _ (h false false))
            (mix-same w₀ w₁ s _ _ (h true true))

        never : w₁ p ≡ 0
            → w₀ p * mix w₀ w₁ s (λ e. F false (upd e p false)) + w₁ p * mix w₀ w₁ s (λ e. F true (upd e p true))
            ≡ w₀ p * mix w₀ w₁ s (F false) + w₁ p * mix w₀ w₁ s (F true)
        never z =
            let k = mix-given w₀ w₁ mass sums s p l (F false) in
            omega (
              arith,
              ap (λ (x : ℕ). x * mix w₀ w₁ s (λ e. F true (upd e p true))) z,
              ap (λ (x : ℕ). x * mix w₀ w₁ s (F true)) z,
              ap (λ (x : ℕ). x * mix w₀ w₁ s (λ e. F false (upd e p true))) z,
              ap (λ (x : ℕ). x * mix w₀ w₁ s (F false)) z,
              ap (λ (x : ℕ). x * mix w₀ w₁ s (F false)) (sums p),
            )

    pub fold_law : (s : ℕ) (rs : List ℕ) (Φ : (ℕ → Bool) → ℕ) → ReadsOnly rs Φ
        → (ps : List ℕ) → Below s ps → Once w₁ (ps ++ rs) → (T : List Bool → ℕ)
        → mass ^ length ps * mix w₀ w₁ s (λ e. T (map e ps) * Φ e) ≡ fold_bits ps T * mix w₀ w₁ s Φ
    fold_law s rs Φ only [] below once T =
        ap₂ ◌*◌ (pow-zero mass) (mix-same w₀ w₁ s _ _ (λ e. omega arith) ∙ mix-linear w₀ w₁ s (T []) 0 Φ Φ) ∙ omega arith
    fold_law s rs Φ only (p ∷ ps) below once T =
        let M : ((ℕ → Bool) → ℕ) → ℕ = mix w₀ w₁ s in
        let T' : List Bool → ℕ = λ bs. w₀ p * T (false ∷ bs) + w₁ p * T (true ∷ bs) in
        let F : Bool → (ℕ → Bool) → ℕ = λ b e. T (b ∷ map e ps) * Φ e in
        let tail : Once w₁ (ps ++ rs) = λ r h. omega (arith, once r h) in
        let step : mass * M (λ e. F (e p) e) ≡ w₀ p * M (F false) + w₁ p * M (F true) = given-bit s p (below 0 (omega arith)) F (alone p ps once) in
        let join : w₀ p * M (F false) + w₁ p * M (F true) ≡ M (λ e. T' (map e ps) * Φ e)
        = sym (mix-linear w₀ w₁ s (w₀ p) (w₁ p) (F false) (F true)) ∙ mix-same w₀ w₁ s _ _ (λ e. omega arith) in
        let ih = fold_law s rs Φ only ps (below-tail s p ps below) tail T' in
        omega (
          arith,
          ap (λ (z : ℕ). z * M (λ e. F (e p) e)) (pow-succ' mass (length ps)),
          ap (λ (z : ℕ). mass ^ length ps * z) (step ∙ join),
        )
      where
        alone : (p : ℕ) (ps : List ℕ) → Once w₁ (p ∷ ps ++ rs)
            → (w₁ p ≡ 0) ⊎ ((b c : Bool) (e : ℕ → Bool) → T (b ∷ map (upd e p c) ps) * Φ (upd e p c) ≡ T (b ∷ map e ps) * Φ e)
        alone p ps once = ⊎_elim inl (λ w. inr (free (once p w))) (eq-zero-or-pos (w₁ p))
          where
            free : count p (p ∷ ps ++ rs) ≤ 1 → (b c : Bool) (e : ℕ → Bool) → T (b ∷ map (upd e p c) ps) * Φ (upd e p c) ≡ T (b ∷ map e ps) * Φ e
            free h b c e =
                let k : count p ps + count p rs ≡ 0 = omega (arith, count-self p (ps ++ rs), count-append p ps rs) in
                ap₂
                (λ (bs : List Bool) (x : ℕ). T (b ∷ bs) * x)
                (map-agree (upd e p c) e ps (unread-at ps p (omega arith) e c))
                (unread rs Φ only p (omega arith) e c)
