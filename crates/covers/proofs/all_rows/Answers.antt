-- `covers::all_rows` meets its contract, width by width. Assumes nothing.
use Prim.Native.Nat.{ℕ, zero, suc, ◌+◌, ◌-◌, ◌*◌, ◌%◌, ◌^◌, ◌<◌, ◌≤◌}
use mathlib.Core.Path.{◌≡◌, refl}
use native.Mathlib.Omega.{arith}
use Rattle.covers.proofs.all_rows.Goals as goal

each : (P : ℕ → Type 0) → P 0 → P 1 → P 2 → P 3 → P 4 → (w : ℕ) → w ≤ 4 → P w
each P a b c d e zero h = a
each P a b c d e (suc zero) h = b
each P a b c d e (suc (suc zero)) h = c
each P a b c d e (suc (suc (suc zero))) h = d
each P a b c d e (suc (suc (suc (suc zero)))) h = e
each P a b c d e (suc (suc (suc (suc (suc w))))) h = absurd (omega arith)

-- one moved up by w places, in 64 bits
abbrev up : ℕ → ℕ
up w = 1 * 2 ^ w % 18_446_744_073_709_551_616

pub overflow_shl-result-2 : goal.overflow_shl-result-2
overflow_shl-result-2 c =
    each (λ (w : ℕ). up w < 64) (omega arith) (omega arith) (omega arith) (omega arith) (omega arith) c.args.width c.requires

pub overflow_sub-result : goal.overflow_sub-result
overflow_sub-result c =
    each (λ (w : ℕ). 1 ≤ up (up w)) (omega arith) (omega arith) (omega arith) (omega arith) (omega arith) c.args.width c.requires

pub returns : goal.returns
returns c = each (λ (w : ℕ). up (up w) - 1 + 1 ≡ 2 ^ 2 ^ w) refl refl refl refl refl c.args.width c.requires
