-- Sources that may fail: failures that are 0 at the n inputs and past the k gates after them. Assumes nothing.
use Prim.Native.Nat.{ℕ, ◌+◌, ◌*◌, ◌≤◌, ◌<◌}
use mathlib.Core.Bool.{false}
use mathlib.Core.List.{List}
use mathlib.Core.Path.{◌≡◌, ap, ◌∙◌}
use mathlib.Core.Logic.{by_cases}
use native.Mathlib.Nat.{mul-zero}
use native.Mathlib.Decide.{dec_le}
use native.Mathlib.Omega.{arith}
use lib.ListN.{get_or}
use lib.Dec.{leb}
use borrow.Author.Tests.{leb-false}
use Rattle.lists.specs.Lists.{count}
use Rattle.bound.proofs.Bits.{Once}
use Rattle.bound.proofs.Rounded.{wrong-share}

module _ (u d : ℕ) (fs : List ℕ) (n k : ℕ) (input : (i : ℕ) → i < n → get_or fs i 0 ≡ 0) (outside : (i : ℕ) → n + k ≤ i → get_or fs i 0 ≡ 0) where
  -- an input does not fail, and has no share of being wrong
  pub never : (s : ℕ) → leb n s ≡ false → get_or fs s 0 ≡ 0
  never s e = input s (leb-false n s e)

  pub sure : (t : ℕ) → t < n → wrong-share u d (λ s. get_or fs s 0) t ≡ 0
  sure t l = ap (λ (z : ℕ). d * z) (input t l) ∙ mul-zero d

  -- where no gate is read twice, no source that may be wrong is
  pub once : (rs : List ℕ) → ((t : ℕ) → n ≤ t → t < n + k → count t rs ≤ 1) → Once (wrong-share u d (λ s. get_or fs s 0)) rs
  once rs single p h =
      by_cases
      (dec_le n p)
      (λ l.
      by_cases
      (dec_le (n + k) p)
      (λ past. absurd (omega (arith, ap (λ (z : ℕ). d * z) (outside p past))))
      (λ inside. single p l (omega arith)))
      (λ l. absurd (omega (arith, ap (λ (z : ℕ). d * z) (input p (omega arith)))))
