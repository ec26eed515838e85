-- `comparison::judge` meets its contract: the first test that holds decides. Assumes nothing.
use mathlib.Core.Path.{sym, ◌∙◌}
use Rattle.comparison.proofs.Deciding.{first-higher, second-higher, none-higher}
use Rattle.comparison.proofs.judge.Goals as goal

pub is_beyond-requires : goal.is_beyond-requires
is_beyond-requires c = c.requires

pub returns-then-is_beyond : goal.returns-then-is_beyond
returns-then-is_beyond c =
    let a = c.args in
    sym (first-higher a.slack a.first a.second (sym c.is_beyond.ensures ∙ c.if-is_beyond.true))

pub is_beyond-requires-2 : goal.is_beyond-requires-2
is_beyond-requires-2 c = c.requires

pub returns-then-is_beyond-2 : goal.returns-then-is_beyond-2
returns-then-is_beyond-2 c =
    let a = c.args in
    sym (second-higher a.slack a.first a.second (sym c.is_beyond.ensures ∙ c.if-is_beyond.false)
    (sym c.is_beyond-2.ensures ∙ c.if-is_beyond-2.true))

pub returns : goal.returns
returns c =
    let a = c.args in
    sym (none-higher a.slack a.first a.second (sym c.is_beyond.ensures ∙ c.if-is_beyond.false)
    (sym c.is_beyond-2.ensures ∙ c.if-is_beyond-2.false))
