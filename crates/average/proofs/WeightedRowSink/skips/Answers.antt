-- `average::Weighted` skips the patterns past the last, and those without a weight. Assumes nothing.
use Rattle.std.proofs.Common.{◌∙◌, sym, arith}
use Rattle.average.proofs.WeightedSum.{past-adds, block-empty}
use Rattle.average.proofs.WeightedRowSink.skips.Goals as goal

pub returns-then-last-start-clause-done : goal.returns-then-last-start-clause-done
returns-then-last-start-clause-done c =
    let a = c.args in
    λ _. (c.requires.1.0, omega (arith, c.requires.1.1, past-adds a.area.now a.self.now.weights.now a.start a.many c.if-last-start.true))

pub returns-else-last-start-clause-done : goal.returns-else-last-start-clause-done
returns-else-last-start-clause-done c =
    let a = c.args in
    let inside = c.if-last-start.false in
    λ zero. (
      c.requires.1.0,
      omega (
        arith,
        c.requires.1.1,
        block-empty a.area.now a.self.now.weights.now a.start c.min.result a.many (omega (arith, c.min.ensures)) (λ less. omega (arith, c.min.ensures))
            (sym c.all_zero.ensures ∙ zero),
      ),
    )
