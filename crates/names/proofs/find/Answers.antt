-- `names::find` meets its contract. Assumes nothing.
use mathlib.Core.Path.{sym, ◌∙◌}
use native.Mathlib.Omega.{arith}
use Rattle.names.proofs.Names.{find-later}
use borrow.Author.Rules.{rules}
use Rattle.names.proofs.find.Goals as goal

pub loop-k-preserved : goal.loop-k-preserved
loop-k-preserved c =
    let l = c.loop-k in
    let a = c.args in
    let later = find-later a.names.now.text.now a.names.now.starts.now a.w.now a.names.now.count l.k (search rules) (sym c.is_at.ensures ∙ c.if-is_at.false) in
    omega arith
