-- `comparison::compare_patterns` meets its contract: unlike inputs, or every pattern counted. Assumes nothing.
use Prim.Native.Nat.{ℕ, ◌^◌}
use mathlib.Core.Path.{refl, ap, ◌∙◌}
use native.Mathlib.Omega.{arith}
use lib.ListN.{get_or}
use borrow.Author.Tests.{eq-eqb, ne_eqb}
use Rattle.std.specs.Prelude.{Some}
use Rattle.comparison.specs.Standing.{counts_by, pattern_verdict, patterns_between}
use Rattle.comparison.proofs.compare_patterns.Goals as goal

pub returns-then-first-second : goal.returns-then-first-second
unfolding patterns_between
returns-then-first-second c =
    rw (ne_eqb c.args.first.inputs c.args.second.inputs
    c.if-first-second.true) refl

pub pattern_count-count-requires : goal.pattern_count-count-requires
pattern_count-count-requires c = omega (arith, c.index.ensures, c.requires.inputs_le_most_inputs)

pub count_patterns-requires : goal.count_patterns-requires
count_patterns-requires c =
    let few = c.pattern_count-count.ensures.2 in (
      omega (arith, few, c.requires.most_patterns_in_bounds.0),
      omega (arith, few, c.requires.most_patterns_in_bounds.1),
      few,
      omega arith,
    )

pub returns : goal.returns
unfolding patterns_between
returns c =
    let a = c.args in
    let many = c.pattern_count-count.ensures.0 ∙ ap (λ (n : ℕ). 2 ^ n) c.index.ensures in
    let f = pattern_verdict a.first (λ q. get_or a.first_figures.now q 0) a.second (λ q. get_or a.second_figures.now q 0) in
    rw (eq-eqb a.first.inputs a.second.inputs c.if-first-second.false)
    (ap Some (c.count_patterns.ensures ∙ ap (counts_by f) many))
