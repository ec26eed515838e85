-- `rules::all_below` meets its contract: each word of the part is tested. Assumes nothing.
use Rattle.std.proofs.Common.{rules, ◌≡◌, ◌<◌, ◌-◌, ◌↔◌, Bool, true, false, List, ℕ, IsTrue, EachIndex, refl, sym, get_or, take, drop}
use Rattle.lists.specs.Lists.{all_below}
use Rattle.lists.proofs.Every.{below-passes, below_holds}
use Rattle.rules.proofs.all_below.Goals as goal

below-is : (b : Bool) (limit : ℕ) (xs : List ℕ) → (IsTrue b ↔ EachIndex xs (λ k. get_or xs k 0 < limit)) → b ≡ all_below limit xs
below-is true limit xs e = sym (below-passes limit xs (e.0 (search rules)))
below-is false limit xs e = none (all_below limit xs) refl
  where
    none : (v : Bool) → all_below limit xs ≡ v → false ≡ v
    none true z = e.1 (below_holds limit xs z)
    none false z = refl

pub returns : goal.returns
returns c = below-is c.all.result c.args.limit (take (c.args.to - c.args.from) (drop c.args.from c.args.words.now)) (search rules)
