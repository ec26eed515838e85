-- `figure::start_values` meets its contract: after i turns the first i values are filled in. Assumes nothing.
use Prim.Native.Nat.{ℕ, ◌/◌, ◌%◌, ◌^◌}
use mathlib.Core.Bool.{Bool}
use mathlib.Core.Path.{◌≡◌, sym, subst}
use mathlib.Core.List.{map}
use native.Mathlib.Omega.{arith}
use lib.Dec.{eqb}
use lib.ListN.{take, length-set}
use Rattle.rounding.specs.Rounding.{units_in_one}
use Rattle.figure.specs.Steps.{differs, NoneOrAll}
use Rattle.figure.proofs.Spread.{map-turn}
use Rattle.figure.proofs.Under.{in-part, choices}
use Rattle.figure.proofs.start_values.Goals as goal

pub difference-requires : goal.difference-requires
difference-requires c = c.requires.by_index c.loop-i.i (omega arith)

pub loop-i-preserved : goal.loop-i-preserved
loop-i-preserved c =
    let l = c.loop-i in
    let a = c.args in (
      simp length-set l.invariant.0,
      rw c.difference.ensures (map-turn (differs units_in_one a.table a.right) a.indices l.values l.i (omega arith) (omega arith) l.invariant.1),
    )

pub returns : goal.returns
returns c =
    let a = c.args in
    let values = c.loop-i.values in
    let test : ℕ → Bool = λ x. eqb (a.table / 2 ^ x % 2) a.right in
    let end : c.loop-i.i ≡ a.used = omega arith in
    let done : take a.used values ≡ map (differs units_in_one a.table a.right) (take a.used a.indices) = rw end at c.loop-i.invariant.1 in record { result_value = done; by_index_2 = λ i l. subst (NoneOrAll units_in_one) (sym (in-part values _ a.used done i l)) (choices units_in_one test (take a.used a.indices) i) }
