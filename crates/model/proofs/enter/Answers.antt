-- `model::enter` meets its contract. Assumes nothing.
use Rattle.model.proofs.Collecting.{entered, entered-none}
use Rattle.model.proofs.enter.Goals as goal

pub returns-then-many-eq0 : goal.returns-then-many-eq0
returns-then-many-eq0 c =
    let a = c.args in
    let w = a.words.now in
    entered-none w.text.now w.starts.now w.lines.now a.names.now a.numbers.now a.start a.many a.count c.if-many-eq0.true

pub returns : goal.returns
returns c =
    let a = c.args in
    let w = a.words.now in
    let r = c.requires in
    rw (c.copy.ensures, c.copy-2.ensures)
    (entered w.text.now w.starts.now w.lines.now a.names.now a.numbers.now a.start a.many a.count r.many_in_bounds.0 r.many_in_bounds.1 r.many_in_bounds_2.0 r.many_in_bounds_2.1 r.inside)
