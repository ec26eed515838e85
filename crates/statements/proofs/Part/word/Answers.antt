-- `statements::Part::word` meets its contract. Assumes nothing.
use Prim.Native.Nat.{◌+◌}
use mathlib.Core.Path.{sym, ◌∙◌, ap}
use lib.ListN.{get_or}
use mathlib.Core.List.{[]}
use native.Mathlib.Omega.{arith}
use Rattle.statements.proofs.Lines.{length-part, bytes-at}
use Rattle.statements.proofs.Part.word.Goals as goal

pub overflow_add-self-inside : goal.overflow_add-self-inside
overflow_add-self-inside c =
    let here = rw (sym c.self.view_is) at c.requires in
    omega (arith, here, length-part c.self.inside, c.self.invariant.1)

pub word-requires : goal.word-requires
word-requires c =
    let p = c.self.inside in
    let here = rw (sym c.self.view_is) at c.requires in
    let far = length-part p in
    (omega (arith, here, far, c.self.invariant.0.within), c.self.invariant.0.inside (p.from + c.args.i) (omega (arith, here, far)))

pub returns : goal.returns
returns c =
    let p = c.self.inside in
    let here = rw (sym c.self.view_is) at c.requires in
    c.word.ensures ∙ sym (bytes-at p.words.now.text.now p.words.now.starts.now p.from p.many c.args.i (omega (arith, here, length-part p))) ∙ ap (λ ws. get_or ws c.args.i []) c.self.view_is
