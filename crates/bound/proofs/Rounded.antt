-- What rounding costs one gate, and the outputs: half units for each pin that may fail, one for the flip's conversion and one for the gate step.
-- Only the laws of rounding are used. Assumes nothing.
use Prim.Native.Nat.{ℕ, suc, ◌+◌, ◌-◌, ◌*◌, ◌^◌, ◌≤◌, ◌<◌}
use mathlib.Core.Bool.{Bool, true, false}
use mathlib.Core.List.{List, [], ◌∷◌, map}
use mathlib.Core.Path.{◌≡◌, refl, sym, ap, ap₂, ◌∙◌}
use native.Mathlib.Nat.{pow-zero, pow-succ', mul_comm, mul_left_comm, mul-zero, zero-add, add-zero, sub-zero, sub-add_cancel}
use native.Mathlib.Omega.{arith}
use lib.ListN.{length}
use Rattle.rounding.specs.Rounding.{blend, to_units, Near}
use Rattle.rounding.proofs.Laws.{near, blend-none, blend-whole}
use Rattle.figure.specs.Figure.{bit_of}
use Rattle.figure.proofs.Fold.{fold_over}
use Rattle.bound.proofs.Near.{near-at, near-trans, near_add, near-scale, replace}
use Rattle.bound.specs.Sharp.{how_many}
use Rattle.bound.proofs.Bits.{fold_bits, bits-linear}

pub blend-near : (u r w f : ℕ) → 0 < u → Near u (2 * (blend u r w f * u)) (2 * (r * (u - f) + w * f))
unfolding blend
blend-near u r w f pos = near (r * (u - f) + w * f) u pos

pub units-near : (u d c : ℕ) → 0 < d → Near d (2 * (to_units u d c * d)) (2 * (c * u))
unfolding to_units
units-near u d c pos = near (c * u) d pos

-- a pin's step: values r, w that are k half units from their exact ones, at the scale x, give one that is k + 1 half units away
mean-near : (u d k x r w a b m f g : ℕ) → g + f ≡ u → Near u (2 * (m * u)) (2 * (r * g + w * f))
    → Near (k * x) (2 * (r * x)) (2 * (u * a)) → Near (k * x) (2 * (w * x)) (2 * (u * b))
    → Near ((k + 1) * (u * d * x)) (2 * (m * (u * d * x))) (2 * (u * (d * g * a + d * f * b)))
mean-near u d k x r w a b m f g sum step nr nw =
    let one = near-scale (d * x) step in
    let two = near_add (near-scale (g * d) nr) (near-scale (f * d) nw) in
    let middle : d * x * (2 * (r * g + w * f)) ≡ g * d * (2 * (r * x)) + f * d * (2 * (w * x)) = omega arith in
    let total : d * x * u + (g * d * (k * x) + f * d * (k * x)) ≡ (k + 1) * (u * d * x) = omega (arith, ap (λ (z : ℕ). z * (d * (k * x))) sum) in
    let last : g * d * (2 * (u * a)) + f * d * (2 * (u * b)) ≡ 2 * (u * (d * g * a + d * f * b)) = omega arith in
    near-at total (omega arith) last (near-trans (near-at refl refl middle one) two)

-- the shares of a source's bit, right and wrong, of u * d together: f s is its failure
abbrev pub right-share : ℕ → ℕ → (ℕ → ℕ) → ℕ → ℕ
right-share u d f s = d * (u - f s)

abbrev pub wrong-share : ℕ → ℕ → (ℕ → ℕ) → ℕ → ℕ
wrong-share u d f s = d * f s

pub shares_sum : (u d : ℕ) (f : ℕ → ℕ) → ((s : ℕ) → f s ≤ u) → (s : ℕ) → right-share u d f s + wrong-share u d f s ≡ u * d
shares_sum u d f f-most s = omega (arith, ap (λ (z : ℕ). d * z) (sub-add_cancel (f-most s)))

module _ (u d : ℕ) (posu : 0 < u) (f : ℕ → ℕ) (f-most : (s : ℕ) → f s ≤ u)
    (may_fail : ℕ → Bool) (never : (s : ℕ) → may_fail s ≡ false → f s ≡ 0) where
  pin-near : (p k x : ℕ) (W X : List Bool → ℕ) → ((bs : List Bool) → Near (k * x) (2 * (W bs * x)) (2 * (u * X bs)))
      → (c : Bool) → may_fail p ≡ c → (bs : List Bool)
      → Near
      ((k + bit_of c) * (u * d * x))
      (2 * (blend u (W (false ∷ bs)) (W (true ∷ bs)) (f p) * (u * d * x)))
      (2 * (u * (right-share u d f p * X (false ∷ bs) + wrong-share u d f p * X (true ∷ bs))))
  pin-near p k x W X h true e bs =
      mean-near
      u
      d
      k
      x
      (W (false ∷ bs))
      (W (true ∷ bs))
      (X (false ∷ bs))
      (X (true ∷ bs))
      (blend u (W (false ∷ bs)) (W (true ∷ bs)) (f p))
      (f p)
      (u - f p)
      (sub-add_cancel (f-most p))
      (blend-near u (W (false ∷ bs)) (W (true ∷ bs)) (f p) posu)
      (h (false ∷ bs))
      (h (true ∷ bs))
  pin-near p k x W X h false e bs =
      let zero-f : f p ≡ 0 = never p e in
      let r = W (false ∷ bs) in
      let a = X (false ∷ bs) in
      let b = X (true ∷ bs) in
      let kept : r ≡ blend u r (W (true ∷ bs)) (f p) = sym (ap (blend u r (W (true ∷ bs))) zero-f ∙ blend-none u r (W (true ∷ bs)) posu) in
      let all_right : d * u ≡ right-share u d f p = sym (ap (λ (z : ℕ). d * (u - z)) zero-f ∙ ap (λ (z : ℕ). d * z) (sub-zero u)) in
      let none-wrong : 0 ≡ wrong-share u d f p = sym (ap (λ (z : ℕ). d * z) zero-f ∙ mul-zero d) in
      let value : u * d * (2 * (r * x)) ≡ 2 * (blend u r (W (true ∷ bs)) (f p) * (u * d * x))
      = omega arith ∙ ap (λ (z : ℕ). 2 * (z * (u * d * x))) kept in
      let exact : u * d * (2 * (u * a)) ≡ 2 * (u * (right-share u d f p * a + wrong-share u d f p * b))
      = omega arith ∙ ap₂ (λ (y z : ℕ). 2 * (u * (y * a + z * b))) all_right none-wrong in
      near-at (omega arith) value exact (near-scale (u * d) (h (false ∷ bs)))

  -- the fold in whole units against the fold of shares
  pub fold-near : (ps : List ℕ) (k x : ℕ) (W X : List Bool → ℕ) → ((bs : List Bool) → Near (k * x) (2 * (W bs * x)) (2 * (u * X bs)))
      → Near
      ((k + how_many may_fail ps) * ((u * d) ^ length ps * x))
      (2 * (fold_over u (map f ps) W * ((u * d) ^ length ps * x)))
      (2 * (u * fold_bits (right-share u d f) (wrong-share u d f) ps X))
  fold-near [] k x W X h =
      let scale : x ≡ (u * d) ^ 0 * x = omega (arith, ap (λ (z : ℕ). z * x) (pow-zero (u * d))) in
      near-at (ap₂ ◌*◌ (sym (add-zero k)) scale) (ap (λ (z : ℕ). 2 * (W [] * z)) scale) refl (h [])
  fold-near (p ∷ ps) k x W X h =
      let scale : (u * d) ^ length ps * (u * d * x) ≡ (u * d) ^ suc (length ps) * x = omega (arith, ap (λ (z : ℕ). z * x) (pow-succ' (u * d) (length ps))) in
      let W' : List Bool → ℕ = λ bs. blend u (W (false ∷ bs)) (W (true ∷ bs)) (f p) in
      let ih =
      fold-near
      ps
      (k + bit_of (may_fail p))
      (u * d * x)
      W'
      (λ bs. right-share u d f p * X (false ∷ bs) + wrong-share u d f p * X (true ∷ bs))
      (pin-near p k x W X h (may_fail p) refl) in
      near-at (ap₂ ◌*◌ (omega arith) scale) (ap (λ (z : ℕ). 2 * (fold_over u (map f ps) W' * z)) scale) refl ih

  -- from whole numbers of u the first pin that may fail is folded exactly, so it costs nothing
  pub whole-near : (ps : List ℕ) (W X : List Bool → ℕ) → ((bs : List Bool) → W bs ≡ u * X bs)
      → Near
      ((how_many may_fail ps - 1) * (u * d) ^ length ps)
      (2 * (fold_over u (map f ps) W * (u * d) ^ length ps))
      (2 * (u * fold_bits (right-share u d f) (wrong-share u d f) ps X))
  whole-near [] W X e = omega (arith, pow-zero (u * d), ap (λ (z : ℕ). W [] * z) (pow-zero (u * d)), e [])
  whole-near (p ∷ ps) W X e = go (may_fail p) refl (whole-near ps)
    where
      x : ℕ
      x = (u * d) ^ length ps

      scale : (u * d) ^ suc (length ps) ≡ u * d * x
      scale = pow-succ' (u * d) (length ps)

      W' : List Bool → ℕ
      W' bs = blend u (W (false ∷ bs)) (W (true ∷ bs)) (f p)

      X' : List Bool → ℕ
      X' bs = right-share u d f p * X (false ∷ bs) + wrong-share u d f p * X (true ∷ bs)

      first : (bs : List Bool) → W' bs ≡ X (false ∷ bs) * (u - f p) + X (true ∷ bs) * f p
      first bs =
          ap₂ (λ (r w : ℕ). blend u r w (f p)) (e (false ∷ bs) ∙ mul_comm u (X (false ∷ bs))) (e (true ∷ bs) ∙ mul_comm u (X (true ∷ bs)))
          ∙ blend-whole u (X (false ∷ bs)) (X (true ∷ bs)) (f p) posu

      go : (c : Bool) → may_fail p ≡ c
          → ((F Y : List Bool → ℕ)
          → ((bs : List Bool) → F bs ≡ u * Y bs)
          → Near
          ((how_many may_fail ps - 1) * x)
          (2 * (fold_over u (map f ps) F * x))
          (2 * (u * fold_bits (right-share u d f) (wrong-share u d f) ps Y)))
          → Near
          ((bit_of c + how_many may_fail ps - 1) * (u * d) ^ suc (length ps))
          (2 * (fold_over u (map f ps) W' * (u * d) ^ suc (length ps)))
          (2 * (u * fold_bits (right-share u d f) (wrong-share u d f) ps X'))
      go true c later =
          near-at
          (ap₂ ◌*◌ (omega arith) (omega (arith, scale)))
          (ap (λ (z : ℕ). 2 * (fold_over u (map f ps) W' * z)) (omega (arith, scale)))
          refl
          (fold-near ps 0 (u * d) W' X' (λ bs. omega (arith, ap (λ (z : ℕ). z * (u * d)) (first bs))))
      go false c later =
          let none : f p ≡ 0 = never p c in
          let kept : (bs : List Bool) → W' bs ≡ u * X (false ∷ bs)
          = λ bs. ap (blend u (W (false ∷ bs)) (W (true ∷ bs))) none ∙ blend-none u (W (false ∷ bs)) (W (true ∷ bs)) posu ∙ e (false ∷ bs) in
          let right : right-share u d f p ≡ u * d = ap (λ (z : ℕ). d * (u - z)) none ∙ ap (λ (z : ℕ). d * z) (sub-zero u) ∙ mul_comm d u in
          let wrong : wrong-share u d f p ≡ 0 = ap (λ (z : ℕ). d * z) none ∙ mul-zero d in
          let a = fold_bits (right-share u d f) (wrong-share u d f) ps (λ bs. X (false ∷ bs)) in
          let b = fold_bits (right-share u d f) (wrong-share u d f) ps (λ bs. X (true ∷ bs)) in
          let parts : fold_bits (right-share u d f) (wrong-share u d f) ps X' ≡ u * d * a
          = bits-linear (right-share u d f) (wrong-share u d f) ps (right-share u d f p) (wrong-share u d f p) (λ bs. X (false ∷ bs)) (λ bs. X (true ∷ bs))
          ∙ ap₂ (λ (y z : ℕ). y * a + z * b) right wrong
          ∙ omega arith in
          near-at
          (mul_left_comm (u * d) (how_many may_fail ps - 1) x
          ∙ ap₂ (λ (k z : ℕ). (k - 1) * z) (sym (zero-add (how_many may_fail ps))) (sym scale))
          (omega (arith, ap (λ (z : ℕ). fold_over u (map f ps) W' * z) scale))
          (omega (arith, ap (λ (z : ℕ). u * z) parts))
          (near-scale (u * d) (later W' (λ bs. X (false ∷ bs)) kept))

-- a gate: m of its pins' fold, p of its flip, F its figure; the primed ones are what is left of u, u, d and x
pub gate-mean : (u d x k m m' p p' c c' M M' F : ℕ) → m + m' ≡ u → p + p' ≡ u → c + c' ≡ d → M + M' ≡ x
    → Near u (2 * (F * u)) (2 * (m * p' + m' * p)) → Near d (2 * (p * d)) (2 * (c * u)) → Near (k * x) (2 * (m * x)) (2 * (u * M))
    → Near ((2 + k) * (x * (u * d))) (2 * (u * (x * (d * F)))) (2 * (u * (u * c' * M + u * c * M')))
gate-mean u d x k m m' p p' c c' M M' F em ep ec eM step flip fold =
    let one = near-scale (x * d) step in
    let flips : 2 * (p' * d) + 2 * (p * d) ≡ 2 * (c' * u) + 2 * (c * u) = omega (arith, ap (λ (z : ℕ). z * d) ep, ap (λ (z : ℕ). z * u) ec) in
    let two = near-scale x (replace (2 * (p' * d)) (2 * (p * d)) (2 * (c' * u)) (2 * (c * u)) d m m' u flips flip (omega arith) (omega arith)) in
    let folds : 2 * (m' * x) + 2 * (m * x) ≡ 2 * (u * M') + 2 * (u * M) = omega (arith, ap (λ (z : ℕ). z * x) em, ap (λ (z : ℕ). u * z) eM) in
    let low : c * u ≤ d * u = omega (arith, ap (λ (z : ℕ). z * u) ec) in
    let high : c' * u ≤ d * u = omega (arith, ap (λ (z : ℕ). z * u) ec) in
    let three = replace (2 * (m' * x)) (2 * (m * x)) (2 * (u * M')) (2 * (u * M)) (k * x) (c * u) (c' * u) (d * u) folds fold low high in
    let first : x * d * (2 * (m * p' + m' * p)) ≡ x * (2 * (p' * d) * m + 2 * (p * d) * m') = omega arith in
    let second : x * (2 * (c' * u) * m + 2 * (c * u) * m') ≡ 2 * (m' * x) * (c * u) + 2 * (m * x) * (c' * u) = omega arith in
    let start : x * d * (2 * (F * u)) ≡ 2 * (u * (x * (d * F))) = omega arith in
    let end : 2 * (u * M') * (c * u) + 2 * (u * M) * (c' * u) ≡ 2 * (u * (u * c' * M + u * c * M')) = omega arith in
    let total : x * d * u + (x * (d * u) + k * x * (d * u)) ≡ (2 + k) * (x * (u * d)) = omega arith in
    near-at total start end (near-trans (near-at refl refl first one) (near-trans (near-at refl refl second two) three))
