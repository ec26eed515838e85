-- `resolve::judge_again` meets its contract. Assumes nothing.
use Prim.Native.Nat.{ℕ}
use mathlib.Core.List.{List}
use mathlib.Core.Path.{ap, sym, ◌∙◌}
use Rattle.names.specs.Names.{before}
use native.Mathlib.Omega.{arith}
use Rattle.refusal.specs.Judgement.{refused}
use Rattle.refusal.proofs.Laws.{lowest-more}
use Rattle.texts.specs.Words.{held}
use Rattle.resolve.specs.Names.{again_at}
use Rattle.resolve.proofs.Lookup.{again-first, again-stops, again-ends}
use Rattle.resolve.proofs.judge_again.Goals as goal
use Rattle.refusal.specs.declared.Cause.TheVariants.{TextModel}

pub returns-then-find-i : goal.returns-then-find-i
returns-then-find-i c =
    let l = c.loop-i in
    let a = c.args in
    let w = a.names.now in
    let found = c.find.ensures ∙ ap (λ (x : List ℕ). before w.text.now w.starts.now x 0 w.count) c.word.ensures in
    ap (refused TextModel) c.line.ensures
    ∙ again-stops a.names.now.text.now a.names.now.starts.now a.names.now.lines.now a.names.now.count l.i c.loop-i-test.true l.invariant (λ e. c.if-find-i.true (found ∙ e))

pub loop-i-preserved : goal.loop-i-preserved
loop-i-preserved c =
    let l = c.loop-i in
    let a = c.args in
    let w = a.names.now in
    let found = c.find.ensures ∙ ap (λ (x : List ℕ). before w.text.now w.starts.now x 0 w.count) c.word.ensures in
    lowest-more (again_at (held a.names.now.text.now a.names.now.starts.now a.names.now.lines.now 0 a.names.now.count)) l.i l.invariant
    (again-first a.names.now.text.now a.names.now.starts.now a.names.now.lines.now a.names.now.count l.i c.loop-i-test.true (sym found ∙ c.if-find-i.false))

pub returns : goal.returns
returns c =
    let l = c.loop-i in
    let a = c.args in
    again-ends a.names.now.text.now a.names.now.starts.now a.names.now.lines.now a.names.now.count l.i (omega arith) l.invariant
