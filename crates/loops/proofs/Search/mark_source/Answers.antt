-- `loops::Search::mark_source` meets its contract. Assumes nothing.
use Rattle.loops.proofs.Marks.{marked-new, roomy}
use Rattle.loops.proofs.Search.mark_source.Goals as goal

pub bounds-self-self : goal.bounds-self-self
bounds-self-self c =
    let s = c.args.self.now in
    roomy c.args.inputs c.args.source s.marks.now s.pile.now s.top c.requires.0 c.if-source-inputs.false c.requires.2 c.if-self-gate-eq0.true

pub returns-then-self-gate-eq0 : goal.returns-then-self-gate-eq0
returns-then-self-gate-eq0 c =
    let s = c.args.self.now in
    marked-new c.args.inputs c.args.source s.marks.now s.pile.now s.top c.requires.0 c.if-source-inputs.false c.requires.2 c.if-self-gate-eq0.true
