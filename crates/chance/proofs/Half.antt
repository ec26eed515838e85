-- A chance held to 0.5, by any fraction that it equals. Assumes nothing.
use Prim.Native.Nat.{ℕ, ◌*◌, ◌<◌}
use mathlib.Core.Path.{◌≡◌, sym, ap, ◌∙◌}
use native.Mathlib.Nat.{mul_assoc}
use borrow.Author.Tests.{leb-true, le-leb}
use lib.Dec.{leb}
use Rattle.chance.specs.Number.{chance_scale, at_most_half}
use Rattle.chance.proofs.Range.{same_test, at_most_one}
use Rattle.chance.proofs.Exact.{scale-pos}

-- w of 2^-1074 is n / d: the one is at most 0.5 exactly where the other is
module _ (n d w : ℕ) (positive : 0 < d) (exact : n * chance_scale ≡ w * d) where
  doubled : 2 * n * chance_scale ≡ 2 * w * d
  doubled = mul_assoc 2 n chance_scale ∙ ap (λ (z : ℕ). 2 * z) exact ∙ sym (mul_assoc 2 w d)

  pub half-of-fraction : at_most_half w ≡ leb (2 * n) d
  unfolding at_most_half
  half-of-fraction =
      same_test (leb (2 * w) chance_scale) (leb (2 * n) d)
      (λ t. le-leb (2 * n) d (at_most_one (2 * w) chance_scale (2 * n) d scale-pos (sym doubled) (leb-true (2 * w) chance_scale t)))
      (λ t. le-leb (2 * w) chance_scale (at_most_one (2 * n) d (2 * w) chance_scale positive doubled (leb-true (2 * n) d t)))
