-- `flips::units_kind` meets its contract. Assumes nothing.
use Prim.Native.Nat.{ℕ, zero, suc}
use mathlib.Core.Path.{◌≡◌, refl, sym, ap}
use Rattle.flips.specs.Written.{units_kind}
use Rattle.flips.proofs.units_kind.Goals as goal

some : (u : ℕ) → (u ≡ 0 → ⊥) → 1 ≡ units_kind u
unfolding units_kind
some zero h = absurd (h refl)
some (suc u) h = refl

pub returns-then-units-eq0 : goal.returns-then-units-eq0
unfolding units_kind
returns-then-units-eq0 c = ap units_kind (sym c.if-units-eq0.true)

pub returns : goal.returns
returns c = some c.args.units c.if-units-eq0.false
