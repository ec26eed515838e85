-- `refusal::judge_each` meets its contract: none of the words passed is too large. Assumes nothing.
use mathlib.Core.Path.{ap}
use Rattle.std.proofs.Common.{arith, length, get_or}
use borrow.Author.Tests.{lt-leb}
use Rattle.refusal.specs.Judgement.{refuse_unless, word_judgement}
use Rattle.refusal.proofs.Laws.{lowest-answer}
use Rattle.refusal.proofs.judge_each.Goals as goal

pub returns-then-word-most : goal.returns-then-word-most
returns-then-word-most c =
    let l = c.loop-i in
    let a = c.args in
    lowest-answer (word_judgement a.words.now a.most a.cause) (length a.words.now) l.i a.cause l.i (omega arith) l.invariant
    (ap (λ b. refuse_unless b a.cause l.i) (lt-leb (get_or a.words.now l.i 0) a.most (omega (arith, c.if-word-most.true))))
