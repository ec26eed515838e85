-- `names::may_be` meets its contract. Assumes nothing.
use Prim.Native.Nat.{◌-◌}
use mathlib.Core.Path.{sym, ◌∙◌}
use native.Mathlib.Omega.{arith}
use lib.ListN.{drop, length-drop}
use borrow.Author.Tests.{not-false}
use Rattle.names.proofs.Names.{differs_at, goes_on, text-short}
use Rattle.names.proofs.may_be.Goals as goal

pub returns-then-text-start : goal.returns-then-text-start
returns-then-text-start c e =
    let a = c.args in
    text-short (drop a.start a.text.now) a.w.now (rw length-drop c.if-text-start.true)

pub returns-then-text-start-2 : goal.returns-then-text-start-2
returns-then-text-start-2 c e =
    let a = c.args in
    let l = c.loop-i in
    differs_at a.text.now a.w.now a.start (l.i - 1) (omega arith) c.if-text-start-2.true

pub returns-else-end-text : goal.returns-else-end-text
returns-else-end-text c e =
    goes_on c.args.text.now c.args.w.now c.args.start (omega (arith, c.requires, c.if-text-start.false, c.if-end-text.false)) (sym c.name_byte.ensures ∙ not-false _ e)
