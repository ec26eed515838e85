-- What holds of each of four pins. Assumes nothing.
use Prim.Native.Nat.{ℕ, zero, suc, ◌<◌}
use mathlib.Core.List.{[], ◌∷◌}
use native.Mathlib.Omega.{arith}
use lib.ListN.{get_or}

pub four_fit : {p q r s : ℕ} → p < 65_536 → q < 65_536 → r < 65_536 → s < 65_536 → (i : ℕ) → get_or (p ∷ q ∷ r ∷ s ∷ []) i 0 < 65_536
four_fit a b c d zero = a
four_fit a b c d (suc zero) = b
four_fit a b c d (suc (suc zero)) = c
four_fit a b c d (suc (suc (suc zero))) = d
four_fit a b c d (suc (suc (suc (suc i)))) = omega arith
