-- `texts::read_words` meets its contract. Assumes nothing.
use mathlib.Core.Path.{◌∙◌}
use borrow.Author.Rules.{rules}
use Rattle.texts.proofs.Words.{step-alike}
use Rattle.texts.proofs.Reading.{turn}
use Rattle.texts.proofs.read_words.Goals as goal

pub loop-at-preserved : goal.loop-at-preserved
loop-at-preserved c =
    let l = c.loop-at in
    let t = c.args.text.now in
    turn t _ _ _ _ l.st l.at l.n c.note-n.result l.invariant (search rules) c.step-next.result
    (c.step-next.ensures ∙ step-alike l.st.here l.st.line _ _ _ c.ahead.ensures l.st.place)
    (rw c.begins.ensures at (c.note-n.ensures t))
