-- `statements::fault` meets its contract: what is left of the lines decides. Assumes nothing.
use mathlib.Core.Path.{ap, sym, ◌∙◌}
use Rattle.refusal.specs.Judgement.{refused}
use Rattle.refusal.specs.declared.Cause.TheVariants.{TextLine}
use Rattle.statements.proofs.Walking.{stepped}
use Rattle.statements.proofs.Faults.{fault-here, fault-later}
use Rattle.statements.proofs.fault.Goals as goal

pub returns-in_default : goal.returns-in_default
returns-in_default c =
    let l = c.loop-line in
    let w = c.args.words.now in
    let s = stepped l.invariant.2 c.in-Some.ensures.steps in
    let before = rw (sym s.here) at l.invariant.3 in
    ap (refused TextLine) c.line.ensures
    ∙ sym (fault-here w.text.now w.starts.now w.lines.now w.count c.args.last l.phase _ _ s.inside s.words _ c.word.ensures (sym c.in_default.is ∙ c.fit.ensures))
    ∙ before

pub loop-line-preserved : goal.loop-line-preserved
loop-line-preserved c =
    let l = c.loop-line in
    let w = c.args.words.now in
    let s = stepped l.invariant.2 c.in-Some.ensures.steps in
    let before = rw (sym s.here) at l.invariant.3 in (
      rw (s.goes_on.count, s.goes_on.numbers) c.requires.1,
      tt,
      s.goes_on,
      rw s.next (sym (fault-later w.text.now w.starts.now w.lines.now w.count c.args.last l.phase _ _ s.inside s.words _ c.word.ensures c.in-Some-fit.next (sym c.in-Some-fit.is ∙ c.fit.ensures)) ∙ before),
    )
