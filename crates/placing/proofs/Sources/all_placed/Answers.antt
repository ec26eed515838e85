-- `placing::Sources::all_placed` meets its contract. Assumes nothing.
use Prim.Native.Nat.{◌+◌}
use mathlib.Core.Path.{sym, ◌∙◌}
use Rattle.placing.proofs.Search.{placed-more, placed-stop}
use Rattle.placing.proofs.Sources.all_placed.Goals as goal

pub returns-then-not-placed_source : goal.returns-then-not-placed_source
returns-then-not-placed_source c =
    let l = c.loop-i in
    let a = c.args in
    sym (sym l.invariant ∙ placed-stop a.self.inputs a.place.now a.self.pins.now (a.from + a.many) l.i c.loop-i-test.true (cc))

pub loop-i-preserved : goal.loop-i-preserved
loop-i-preserved c =
    let l = c.loop-i in
    let a = c.args in
    sym (placed-more a.self.inputs a.place.now a.self.pins.now (a.from + a.many) l.i c.loop-i-test.true (cc)) ∙ l.invariant
