-- `errors::charged` meets its contract: a gate without readers is not live. Assumes nothing.
use Prim.Native.Nat.{ℕ, zero, suc, ◌≤◌, ◌<◌}
use mathlib.Core.Bool.{true, false}
use mathlib.Core.Path.{◌≡◌, refl}
use native.Mathlib.Omega.{arith}
use Rattle.netlist.specs.Live.{is_live}
use Rattle.errors.proofs.charged.Goals as goal

dead : (r : ℕ) → r < 1 → is_live r ≡ false
dead zero l = refl
dead (suc r) l = absurd (omega arith)

alive : (r : ℕ) → 1 ≤ r → is_live r ≡ true
alive zero l = absurd (omega arith)
alive (suc r) l = refl

pub returns-then-readers-lt1 : goal.returns-then-readers-lt1
returns-then-readers-lt1 c = record { value = rw (dead c.args.readers c.if-readers-lt1.true) refl; upper_bound = omega arith }

pub gate_kind-requires : goal.gate_kind-requires
gate_kind-requires c =
    (c.requires.trailer_right.0, omega (arith, c.requires.net_sound.1, c.requires.trailer_right.1))

pub gate_halves-requires : goal.gate_halves-requires
gate_halves-requires c = c.requires.net_sound

pub returns : goal.returns
returns c = record {
  value = rw (alive c.args.readers (omega (arith, c.if-readers-lt1.false)), ← c.gate_kind.ensures)
      c.gate_halves.ensures.value;
  upper_bound = c.gate_halves.ensures.upper_bound;
}
