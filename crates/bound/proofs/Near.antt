-- Arithmetic of `Near`, and the step behind every replacement: two means of the same values, whose shares in them are near, are near. Assumes nothing.
use Prim.Native.Nat.{ℕ, ◌+◌, ◌-◌, ◌*◌, ◌≤◌, ◌<◌}
use mathlib.Core.Path.{◌≡◌, sym, ap, subst₂}
use mathlib.Core.Logic.{by_cases}
use native.Mathlib.Nat.{mul-le-mul, mul-le-mul_left, le_of_mul-le-mul_left}
use native.Mathlib.Decide.{dec_le}
use native.Mathlib.Omega.{arith}
use Rattle.rounding.specs.Rounding.{Near}

pub near-sym : {e a b : ℕ} → Near e a b → Near e b a
near-sym n = record { up = n.down; down = n.up }

pub near-trans : {e e' a b c : ℕ} → Near e a b → Near e' b c → Near (e + e') a c
near-trans m n = omega arith

pub near_add : {e e' a a' b b' : ℕ} → Near e a b → Near e' a' b' → Near (e + e') (a + a') (b + b')
near_add m n = omega arith

pub near-scale : (k : ℕ) {e a b : ℕ} → Near e a b → Near (k * e) (k * a) (k * b)
near-scale k n =
    record { up = omega (arith, mul-le-mul_left k n.up); down = omega (arith, mul-le-mul_left k n.down) }

pub near-cancel : (k e a b : ℕ) → 0 < k → Near (k * e) (k * a) (k * b) → Near e a b
near-cancel k e a b pos n =
    let up : k * a ≤ k * (b + e) = omega (arith, n) in
    let down : k * b ≤ k * (a + e) = omega (arith, n) in
    record { up = le_of_mul-le-mul_left up pos; down = le_of_mul-le-mul_left down pos }

pub near-at : {e e' a a' b b' : ℕ} → e ≡ e' → a ≡ a' → b ≡ b' → Near e a b → Near e' a' b'
near-at p q r n = omega arith

pub near-weaken : {e e' a b : ℕ} → e ≤ e' → Near e a b → Near e' a b
near-weaken l n = omega arith

-- the share t moves from one value to the other
moved : (y₀ x₁ t e a b m : ℕ) → t ≤ e → a ≤ m → b ≤ m → Near (e * m) ((y₀ + t) * a + x₁ * b) (y₀ * a + (x₁ + t) * b)
moved y₀ x₁ t e a b m h ha hb = omega (arith, mul-le-mul h ha, mul-le-mul h hb)

-- shares x₀, x₁ and y₀, y₁ with the same sum, and values a, b of at most m
raised : (x₀ x₁ y₀ y₁ e a b m : ℕ) → x₀ + x₁ ≡ y₀ + y₁ → Near e x₁ y₁ → a ≤ m → b ≤ m → x₁ ≤ y₁
    → Near (e * m) (x₀ * a + x₁ * b) (y₀ * a + y₁ * b)
raised x₀ x₁ y₀ y₁ e a b m sums n ha hb h =
    let y : x₁ + (y₁ - x₁) ≡ y₁ = omega arith in
    let x : y₀ + (y₁ - x₁) ≡ x₀ = omega arith in
    subst₂ (λ (p q : ℕ). Near (e * m) (p * a + x₁ * b) (y₀ * a + q * b)) x y (moved y₀ x₁ (y₁ - x₁) e a b m (omega arith) ha hb)

pub replace : (x₀ x₁ y₀ y₁ e a b m : ℕ) → x₀ + x₁ ≡ y₀ + y₁ → Near e x₁ y₁ → a ≤ m → b ≤ m
    → Near (e * m) (x₀ * a + x₁ * b) (y₀ * a + y₁ * b)
replace x₀ x₁ y₀ y₁ e a b m sums n ha hb =
    by_cases
    (dec_le x₁ y₁)
    (raised x₀ x₁ y₀ y₁ e a b m sums n ha hb)
    (λ h. near-sym (raised y₀ y₁ x₀ x₁ e a b m (sym sums) (near-sym n) ha hb (omega arith)))

-- the same with denominators: `full` is the share of both values together, p a common factor, u the units in one, charge in half units
pub replace-mean : (u charge p full m w₀ w₁ φ₀ φ₁ a b old new : ℕ) → 0 < p → w₀ + w₁ ≡ full → φ₀ + φ₁ ≡ p * full
    → Near (charge * (p * full)) (2 * (u * (p * w₁))) (2 * (u * φ₁)) → a ≤ m → b ≤ m
    → p * old ≡ φ₀ * a + φ₁ * b → new ≡ w₀ * a + w₁ * b
    → Near (charge * (full * m)) (2 * (u * new)) (2 * (u * old))
replace-mean u charge p full m w₀ w₁ φ₀ φ₁ a b old new pos ws φs n ha hb o h =
    let same : 2 * (u * (p * w₀)) + 2 * (u * (p * w₁)) ≡ 2 * (u * φ₀) + 2 * (u * φ₁)
    = omega (arith, ap (λ (z : ℕ). u * (p * z)) ws, ap (λ (z : ℕ). u * z) φs) in
    let moves = replace (2 * (u * (p * w₀))) (2 * (u * (p * w₁))) (2 * (u * φ₀)) (2 * (u * φ₁)) (charge * (p * full)) a b m same n ha hb in
    let e : charge * (p * full) * m ≡ p * (charge * (full * m)) = omega arith in
    let x : 2 * (u * (p * w₀)) * a + 2 * (u * (p * w₁)) * b ≡ p * (2 * (u * new)) = omega (arith, ap (λ (z : ℕ). u * (p * z)) h) in
    let y : 2 * (u * φ₀) * a + 2 * (u * φ₁) * b ≡ p * (2 * (u * old)) = omega (arith, ap (λ (z : ℕ). u * z) o) in
    near-cancel p (charge * (full * m)) (2 * (u * new)) (2 * (u * old)) pos (near-at e x y moves)
