-- `average::all_zero` meets its contract. Assumes nothing.
use Rattle.std.proofs.Common.{rules, ◌≡◌, ◌↔◌, Bool, true, false, List, ℕ, IsTrue, EachIndex, arith, refl, sym, get_or, length}
use Rattle.std.proofs.Math.ListN.{get_or-eq_default}
use mathlib.Core.Logic.{by_cases}
use native.Mathlib.Decide.{dec_lt}
use Rattle.lists.specs.Lists.{all_zero}
use Rattle.lists.proofs.Every.{zero-passes, zero-holds}
use Rattle.average.proofs.all_zero.Goals as goal

zero-is : (b : Bool) (xs : List ℕ) → (IsTrue b ↔ EachIndex xs (λ k. get_or xs k 0 ≡ 0)) → b ≡ all_zero xs
zero-is true xs e =
    sym (zero-passes xs (λ i. by_cases (dec_lt i (length xs)) (λ inside. e.0 (search rules) i inside) (λ past. get_or-eq_default xs 0 (omega arith))))
zero-is false xs e = none (all_zero xs) refl
  where
    none : (v : Bool) → all_zero xs ≡ v → false ≡ v
    none true z = e.1 (λ k inside. zero-holds xs z k)
    none false z = refl

pub returns : goal.returns
returns c = zero-is c.all.result c.args.weights.now (search rules)
