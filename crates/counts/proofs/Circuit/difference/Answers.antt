-- `counts::difference` meets its contract: no pin changes, or the answers are compared. Assumes nothing.
use mathlib.Core.Path.{ap, ◌∙◌}
use Rattle.signals.specs.Signals.{lane}
use Rattle.counts.proofs.Changes.{unchanged-answer, changed-difference}
use Rattle.counts.proofs.Circuit.difference.Goals as goal

pub returns-then-by-eq0 : goal.returns-then-by-eq0
returns-then-by-eq0 c l less =
    let at-pin-words = c.pin_words-by in
    let a = c.args in
    unchanged-answer a.self.now.area.now a.self.now.words.now a.changed.now at-pin-words.result c.requires.0.net a.gate c.requires.1
    at-pin-words.ensures c.if-by-eq0.true l

pub returns : goal.returns
returns c l less =
    let at-pin-words = c.pin_words-by in
    let at-pin-words2 = c.pin_words-pins in
    let at-gate-answer = c.gate_answer in
    let a = c.args in
    changed-difference a.self.now.area.now a.self.now.words.now a.changed.now at-pin-words.result c.requires.0.net a.gate c.requires.1 at-pin-words.ensures
    at-pin-words2.result at-gate-answer.result c.gate_word.result l at-pin-words2.ensures (at-gate-answer.ensures l less)
    (ap (lane l) c.gate_word.ensures ∙ c.requires.0.worked a.gate c.requires.1 l less)
