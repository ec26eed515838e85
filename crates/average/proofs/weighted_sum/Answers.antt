-- `average::weighted_sum` meets its contract: past the last pattern the sum stays. Assumes nothing.
use Rattle.std.proofs.Common.{List, ℕ, ◌∙◌, ap, refl, arith}
use Rattle.average.specs.WeightedSum.{weighted_to}
use Rattle.average.specs.Walked.{walked_to}
use Rattle.average.proofs.WeightedSum.{weighted-past}
use Rattle.average.proofs.weighted_sum.Goals as goal

pub walk_patterns-requires : goal.walk_patterns-requires
unfolding weighted_to
walk_patterns-requires c = (c.requires.workable, (c.requires.weights_fit, refl))

pub returns : goal.returns
returns c =
    let a = c.args in
    let sum = c.walk_patterns.ensures.0.1 ∙ ap (λ (ws : List ℕ). weighted_to a.area.now ws (walked_to a.area.now)) c.walk_patterns.ensures.1 in
    sum ∙ weighted-past a.area.now a.weights.now (walked_to a.area.now) (omega (arith, c.requires.weights_fit.one_each))
