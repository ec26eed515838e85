-- `rules::table_fits` meets its contract: 2^2^count is the arm's constant. Assumes nothing.
use Prim.Native.Nat.{ℕ, ◌^◌}
use mathlib.Core.Path.{◌≡◌, sym, ap}
use native.Mathlib.Omega.{arith}
use lib.Dec.{ltb}
use Rattle.rules.proofs.table_fits.Goals as goal

arm : (table : ℕ) {count k : ℕ} → count ≡ k → ltb table (2 ^ 2 ^ k) ≡ ltb table (2 ^ 2 ^ count)
arm table e = ap (λ (n : ℕ). ltb table (2 ^ 2 ^ n)) (sym e)

pub returns-in-0 : goal.returns-in-0
returns-in-0 c = arm c.args.table c.in-0.is

pub returns-in-1 : goal.returns-in-1
returns-in-1 c = arm c.args.table c.in-1.is

pub returns-in-2 : goal.returns-in-2
returns-in-2 c = arm c.args.table c.in-2.is

pub returns-in-3 : goal.returns-in-3
returns-in-3 c = arm c.args.table c.in-3.is

pub returns-in_default : goal.returns-in_default
returns-in_default c =
    let four : c.args.count ≡ 4 = omega arith in
    arm c.args.table four
