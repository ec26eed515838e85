-- What is shown holds, and no less would. Assumes nothing.
use Prim.Native.Nat.{ℕ, suc, ◌+◌, ◌-◌, ◌*◌, ◌/◌, ◌≤◌, ◌<◌}
use mathlib.Core.Logic.{by_cases}
use mathlib.Core.Path.{◌≡◌, ap}
use native.Mathlib.Nat.{mul-le-mul_left, mul-le-mul_right, le_of_mul-le-mul_right, div-add-mod', mod-lt}
use native.Mathlib.Decide.{dec_le}
use native.Mathlib.Omega.{arith}
use Rattle.decimals.specs.Decimals.{shown_parts, gap, round_up, shown_error}
use Rattle.decimals.specs.Statements.{ShownHolds, ShownLeast}

-- rounded up it is enough
up-enough : (n d : ℕ) → 0 < d → n ≤ round_up n d * d
unfolding round_up
up-enough n d some =
    let whole = div-add-mod' (n + (d - 1)) d in
    let rest = mod-lt (n + (d - 1)) some in
    omega (arith, whole, rest)

-- and it is the least that is
up_least : (n d e : ℕ) → 0 < d → n ≤ e * d → round_up n d ≤ e
unfolding round_up
up_least n d e some enough =
    let k = (n + (d - 1)) / d in
    let whole = div-add-mod' (n + (d - 1)) d in
    by_cases (dec_le k e) (λ yes. yes)
    (λ no.
    let more = mul-le-mul_right {m = suc e} {n = k} d (omega arith) in
    absurd (omega (arith, whole, more)))

pub shown-holds : ShownHolds
unfolding shown_error
shown-holds u p units halves a b some near =
    let s = shown_parts u p units in
    let e = shown_error u p units halves in
    let g = gap (2 * (s * u)) (2 * (units * p)) in
    let wide : g + halves * p ≤ e * (2 * u) = up-enough (g + halves * p) (2 * u) (omega arith) in
    let wide-b = mul-le-mul_left {m = g + halves * p} {n = e * (2 * u)} b wide in
    let shown-up : 2 * (s * u) ≤ 2 * (units * p) + g = omega arith in
    let shown-down : 2 * (units * p) ≤ 2 * (s * u) + g = omega arith in
    let up-b = mul-le-mul_left {m = 2 * (s * u)} {n = 2 * (units * p) + g} b shown-up in
    let down-b = mul-le-mul_left {m = 2 * (units * p)} {n = 2 * (s * u) + g} b shown-down in
    let up-p = mul-le-mul_left {m = 2 * (units * b)} {n = 2 * (u * a) + halves * b} p near.up in
    let down-p = mul-le-mul_left {m = 2 * (u * a)} {n = 2 * (units * b) + halves * b} p near.down in
    record {
      up = le_of_mul-le-mul_right {m = s * b} {n = p * a + e * b} {k = 2 * u} (omega (arith, wide-b, up-b, up-p)) (omega arith);
      down = le_of_mul-le-mul_right {m = p * a} {n = s * b + e * b} {k = 2 * u} (omega (arith, wide-b, down-b, down-p)) (omega arith);
    }

-- the furthest value on the other side of the figure takes all of it
pub shown-least : ShownLeast
unfolding shown_error
shown-least u p units halves e some few enough =
    let s = shown_parts u p units in
    let d = 2 * u in
    up_least (gap (2 * (s * u)) (2 * (units * p)) + halves * p) d e (omega arith)
    (by_cases (dec_le (2 * (units * p)) (2 * (s * u)))
    (λ above.
    let far = 2 * units - halves in
    let is : far + halves ≡ 2 * units = omega arith in
    let is-d = ap (λ (z : ℕ). d * z) is in
    let is-p = ap (λ (z : ℕ). p * z) is in
    let held = enough far d (omega arith) (record { up = omega (arith, is-d); down = omega (arith, is-d) }) in
    omega (arith, held.up, is-p))
    (λ below.
    let far = 2 * units + halves in
    let held = enough far d (omega arith) (record { up = omega arith; down = omega arith }) in
    omega (arith, held.down)))
