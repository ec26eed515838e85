-- `texts::note` meets its contract. Assumes nothing.
use Rattle.texts.proofs.Words.{noted}
use Rattle.texts.proofs.note.Goals as goal

pub returns-then-begun : goal.returns-then-begun
returns-then-begun c = λ text.
    let a = c.args in
    rw c.if-begun.true (noted text a.starts.now a.lines.now c.requires.tables.0 a.n a.at a.line (c.requires.n_lt_most_words c.if-begun.true))
