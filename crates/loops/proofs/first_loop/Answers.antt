-- `loops::first_loop` meets its contract. Assumes nothing.
use Prim.Native.Nat.{ℕ, ◌+◌}
use mathlib.Core.Path.{sym, ◌∙◌}
use native.Mathlib.Omega.{arith}
use lib.ListN.{get_or, length-set}
use Rattle.placing.specs.Placing.{sources_of}
use Rattle.loops.proofs.First.{answered, search-stops, search-on, search-ends, cleared}
use Rattle.loops.proofs.first_loop.Goals as goal

pub returns-then-on_itself : goal.returns-then-on_itself
returns-then-on_itself c =
    let l = c.loop-j in
    let inside = c.loop-j-test.true in
    let asked = c.on_itself in
    search-stops (sources_of c.args.sources.pins.now c.args.sources.counts.now) c.args.sources.inputs c.args.gates c.requires.by_index (λ (i : ℕ). get_or c.args.numbers.now (c.args.sources.inputs + i) 0) l.j c.line.result inside l.invariant.0
    (sym (answered (sources_of c.args.sources.pins.now c.args.sources.counts.now) c.args.sources.inputs c.args.gates c.requires.by_index l.j asked.result inside asked.ensures) ∙ c.if-on_itself.true) c.line.ensures

pub loop-j-preserved : goal.loop-j-preserved
loop-j-preserved c =
    let l = c.loop-j in
    let inside = c.loop-j-test.true in
    let asked = c.on_itself in (
      search-on (sources_of c.args.sources.pins.now c.args.sources.counts.now) c.args.sources.inputs c.args.gates c.requires.by_index (λ (i : ℕ). get_or c.args.numbers.now (c.args.sources.inputs + i) 0) l.j l.invariant.0
          (sym (answered (sources_of c.args.sources.pins.now c.args.sources.counts.now) c.args.sources.inputs c.args.gates c.requires.by_index l.j asked.result inside asked.ensures) ∙ c.if-on_itself.false),
      rw length-set l.invariant.1,
      cleared (sources_of c.args.sources.pins.now c.args.sources.counts.now) c.args.sources.inputs c.args.gates c.requires.by_index l.clear l.j asked.result l.invariant.2 asked.ensures c.if-on_itself.false,
    )

pub returns : goal.returns
returns c =
    let l = c.loop-j in
    search-ends (sources_of c.args.sources.pins.now c.args.sources.counts.now) c.args.sources.inputs c.args.gates c.requires.by_index (λ (i : ℕ). get_or c.args.numbers.now (c.args.sources.inputs + i) 0) l.j (omega arith) l.invariant.0
