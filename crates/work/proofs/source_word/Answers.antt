-- `work::source_word` meets its contract. Assumes nothing.
use Prim.Native.Nat.{◌≤◌, ◌<◌}
use mathlib.Core.Path.{refl, ◌∙◌}
use native.Mathlib.Omega.{arith}
use borrow.Author.Tests.{lt-ltb, le-ltb}
use Rattle.area.specs.Layout.{inputs}
use Rattle.work.proofs.source_word.Goals as goal

pub returns-then-source-n : goal.returns-then-source-n
returns-then-source-n c =
    let below : c.args.source < inputs c.args.area.now = omega (arith, c.if-source-n.true, c.inputs-n.ensures) in
    simp (lt-ltb _ _ below)

pub returns-else-source-n : goal.returns-else-source-n
returns-else-source-n c =
    let e = c.inputs-n.ensures in
    let above : inputs c.args.area.now ≤ c.args.source = omega (arith, c.if-source-n.false, e) in
    c.figure.ensures ∙ rw (le-ltb _ _ above, e) refl
