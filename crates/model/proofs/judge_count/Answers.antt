-- `model::judge_count` meets its contract: what is left of the lines decides. Assumes nothing.
use Rattle.statements.specs.declared.Keyword.{Keyword}
use mathlib.Core.Path.{◌≡◌, ap, sym, ◌∙◌}
use native.Mathlib.Omega.{arith}
use Rattle.refusal.specs.Judgement.{refused}
use Rattle.statements.proofs.Walking.{stepped}
use Rattle.model.specs.Tables.{run_many, key_in}
use Rattle.model.proofs.Runs.{refuse-here, refuse-later}
use Rattle.model.proofs.judge_count.Goals as goal
use Rattle.refusal.specs.declared.Cause.TheVariants.{TextModel}

pub returns-then-many-left : goal.returns-then-many-left
returns-then-many-left c =
    let l = c.loop-line in
    let a = c.args in
    let w = a.words.now in
    let s = stepped l.invariant.2 c.in-Some.ensures.steps in
    let before = rw (sym s.here) at l.invariant.4 in
    let many : c.run_many-many.result ≡ run_many (key_in w c.in-Some.line.first) a.wanted c.in-Some.line.rest =
    c.run_many-many.ensures ∙ ap (λ (x : Keyword). run_many x a.wanted c.in-Some.line.rest) c.key_at.ensures in
    ap (refused TextModel) c.line.ensures
    ∙ sym (refuse-here w.text.now w.starts.now w.lines.now w.count _ _ s.inside s.words a.wanted c.run_many-many.result many l.left c.if-many-left.true)
    ∙ before

pub loop-line-preserved : goal.loop-line-preserved
loop-line-preserved c =
    let l = c.loop-line in
    let a = c.args in
    let w = a.words.now in
    let s = stepped l.invariant.2 c.in-Some.ensures.steps in
    let before = rw (sym s.here) at l.invariant.4 in
    let many : c.run_many-many.result ≡ run_many (key_in w c.in-Some.line.first) a.wanted c.in-Some.line.rest =
    c.run_many-many.ensures ∙ ap (λ (x : Keyword). run_many x a.wanted c.in-Some.line.rest) c.key_at.ensures in (
      rw (s.goes_on.count, s.goes_on.numbers) c.requires.0.1,
      tt,
      s.goes_on,
      omega arith,
      rw s.next (sym (refuse-later w.text.now w.starts.now w.lines.now w.count _ _ s.inside s.words a.wanted c.run_many-many.result many l.left c.if-many-left.false) ∙ before),
    )
