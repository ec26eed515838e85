-- `comparison::compare_modules` meets its contract. Assumes nothing.
use mathlib.Core.Path.{ap₂}
use native.Mathlib.Omega.{arith}
use Rattle.comparison.specs.declared.Verdict.{Verdict}
use Rattle.comparison.specs.Standing.{Patterns}
use Rattle.comparison.specs.Standing.{done}
use Rattle.comparison.proofs.compare_modules.Goals as goal

pub judge-verdict-requires : goal.judge-verdict-requires
judge-verdict-requires c = omega arith

pub compare_patterns-patterns-requires : goal.compare_patterns-patterns-requires
compare_patterns-patterns-requires c = record { inputs_le_most_inputs = c.requires.inputs_le_most_inputs; most_patterns_in_bounds = c.requires.most_patterns_in_bounds }

pub returns : goal.returns
returns c =
    let a = c.args in
    ap₂ (λ (v : Verdict) (p : Patterns). done v a.first a.second p) c.judge-verdict.ensures c.compare_patterns-patterns.ensures
