-- Two figures that are further apart than their errors together leave no doubt about what they stand for. Assumes nothing.
use Prim.Native.Nat.{ℕ, ◌+◌, ◌*◌, ◌<◌}
use mathlib.Core.Logic.{by_cases}
use native.Mathlib.Nat.{mul-le-mul_right, mul-le-mul_left, mul-pos}
use native.Mathlib.Decide.{dec_lt}
use native.Mathlib.Omega.{arith}
use Rattle.rounding.specs.Rounding.{Near}

-- a unit is 1 / u; the figure a is within s half units of x / p, and b within t half units of y / q
pub separate : (u a b s t p q x y : ℕ) → 0 < p → 0 < q → 2 * b + (s + t) < 2 * a
    → Near (s * p) (2 * (a * p)) (2 * (u * x)) → Near (t * q) (2 * (b * q)) (2 * (u * y))
    → y * p < x * q
separate u a b s t p q x y some-p some-q apart first second =
    let whole : 0 < p * q = mul-pos some-p some-q in
    let more = mul-le-mul_right {m = 2 * b + (s + t) + 1} {n = 2 * a} (p * q) (omega arith) in
    let up = mul-le-mul_right {m = 2 * (a * p)} {n = 2 * (u * x) + s * p} q first.up in
    let down = mul-le-mul_right {m = 2 * (u * y)} {n = 2 * (b * q) + t * q} p second.down in
    by_cases (dec_lt (y * p) (x * q)) (λ yes. yes)
    (λ no.
    let back = mul-le-mul_left {m = x * q} {n = y * p} u (omega arith) in
    absurd (omega (arith, whole, more, up, down, back)))
