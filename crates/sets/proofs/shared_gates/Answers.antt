-- `sets::shared_gates` meets its contract: those among the gates looked at are counted. Assumes nothing.
use Rattle.std.proofs.Common.{rules, ◌≡◌, Bool, true, false, cond, List, ◌∷◌, ℕ, zero, suc, ◌+◌, ◌-◌, ◌≤◌, length, get_or, take, drop, refl, ap, sym, ◌∙◌, arith, drop-cons}
use Rattle.std.specs.List.{count_by, filter}
use Rattle.std.proofs.lemmas.List.Sums.{length-filter}
use Rattle.std.proofs.Math.Dec.{ltb, leb}
use Rattle.suppose.specs.Suppose.{shared_from}
use Rattle.sets.proofs.shared_gates.Goals as goal

counted : (xs : List ℕ) (s k : ℕ) → s + k ≤ length xs → length (filter (ltb 1) (take k (drop s xs))) ≡ length (shared_from (λ t. get_or xs t 0) s k)
counted xs s zero few = refl
counted xs s (suc k) few = rw (drop-cons xs s 0 (omega arith)) (go (leb 2 (get_or xs s 0)) (counted xs (suc s) k (omega arith)))
  where
    go : (b : Bool) → length (filter (ltb 1) (take k (drop (suc s) xs))) ≡ length (shared_from (λ t. get_or xs t 0) (suc s) k)
        → length (cond b (get_or xs s 0 ∷ filter (ltb 1) (take k (drop (suc s) xs))) (filter (ltb 1) (take k (drop (suc s) xs))))
        ≡ length (cond b (s ∷ shared_from (λ t. get_or xs t 0) (suc s) k) (shared_from (λ t. get_or xs t 0) (suc s) k))
    go true e = ap suc e
    go false e = e

pub returns : goal.returns
returns c =
    let a = c.args in
    let same : a.inputs + a.gates - a.inputs ≡ a.gates = omega arith in
    let number : c.count.result ≡ count_by (ltb 1) (take (a.inputs + a.gates - a.inputs) (drop a.inputs a.readers.now)) = search rules in
    rw same at number
    ∙ sym (length-filter (ltb 1) (take a.gates (drop a.inputs a.readers.now)))
    ∙ counted a.readers.now a.inputs a.gates (omega arith)
