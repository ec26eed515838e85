-- `blif::judge_some` meets its contract. Assumes nothing.
use mathlib.Core.Path.{ap, sym, ◌∙◌}
use Rattle.refusal.specs.Judgement.{refused}
use Rattle.model.specs.Tables.{lines_from}
use Rattle.blif.proofs.Counting.{last_line-number, no_output}
use Rattle.blif.proofs.judge_some.Goals as goal
use Rattle.refusal.specs.declared.Cause.TheVariants.{TextModel}

pub returns-in-Ok : goal.returns-in-Ok
returns-in-Ok c =
    let a = c.args in
    ap (refused TextModel) (c.line.ensures ∙ sym (last_line-number a.words.now.text.now a.words.now.starts.now a.words.now.lines.now a.words.now.count c.requires.1))
    ∙ sym (no_output (lines_from a.words.now.text.now a.words.now.starts.now a.words.now.lines.now a.words.now.count 0) (sym c.judge_count.ensures ∙ c.in-Ok.is))
