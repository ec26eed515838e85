-- `bench::judge_named` meets its contract. Assumes nothing.
use Prim.Native.Nat.{◌≤◌, ◌<◌}
use mathlib.Core.Path.{sym}
use native.Mathlib.Omega.{arith}
use Rattle.calls.proofs.Judgements.{fine-named, named_past}
use Rattle.bench.proofs.judge_named.Goals as goal

pub returns-then-index-count : goal.returns-then-index-count
returns-then-index-count c =
    let a = c.args in
    let l : a.number < a.count = omega (arith, c.index.ensures) in
    sym (fine-named a.number a.count l)

pub returns-else-index-count : goal.returns-else-index-count
returns-else-index-count c =
    let a = c.args in
    let l : a.count ≤ a.number = omega (arith, c.index.ensures) in
    sym (named_past a.number a.count l)
