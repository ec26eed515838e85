-- `placing::Sources::next` meets its contract. Assumes nothing.
use mathlib.Core.Path.{sym, ◌∙◌}
use native.Mathlib.Omega.{arith}
use Rattle.placing.specs.Placing.{sources_of}
use Rattle.placing.proofs.Search.{next-later}
use Rattle.placing.proofs.Sources.next.Goals as goal

pub loop-gate-preserved : goal.loop-gate-preserved
loop-gate-preserved c =
    let l = c.loop-gate in
    let s = c.args.self in
    let later = next-later (sources_of s.pins.now s.counts.now) s.inputs c.args.place.now c.args.gates l.gate c.loop-gate-test.true (sym c.ready.ensures ∙ c.if-ready.false) in
    omega arith
