-- `comparison::opened_module` meets its contract: what the area holds is what opening leaves. Assumes nothing.
use Prim.Native.Nat.{ℕ, ◌^◌, ◌<◌}
use mathlib.Core.List.{List, []}
use mathlib.Core.Path.{◌≡◌, sym, ap, subst, ◌∙◌}
use native.Mathlib.Omega.{arith}
use lib.ListN.{get_or}
use Rattle.bound.specs.Sharp.{error_halves}
use Rattle.area.specs.Layout.{inputs, gates, outputs}
use Rattle.area.specs.Rules.{Workable}
use Rattle.area.specs.Net.{net_of}
use Rattle.image.specs.Image.{image_inputs, image_gates, image_outputs}
use Rattle.image.specs.Loading.{image_kinds}
use Rattle.calls.specs.Calls.{reliability_for, average_of}
use Rattle.average.proofs.WeightedSum.{reliability_fits}
use Rattle.comparison.specs.Images.{ones, equal_average, module_of}
use Rattle.comparison.proofs.Deciding.{mean-average, module-is}
use Rattle.comparison.proofs.Opened.{opened-inputs, opened-gates, opened-outputs, opened-workable, opened-trailer, opened-halves}
use Rattle.comparison.proofs.opened_module.Goals.{Start}
use Rattle.comparison.proofs.opened_module.Goals as goal

-- the area, and what it holds of the image
module _ (s : Start) where
  abbrev ws : List ℕ
  ws = s.args.area.now

  abbrev bs : List ℕ
  bs = s.args.image.now

  workable : Workable ws
  workable = subst Workable (sym s.requires.area_value.0) (opened-workable bs s.requires.area_value.1)

  same_inputs : inputs ws ≡ image_inputs bs
  same_inputs = ap inputs s.requires.area_value.0 ∙ opened-inputs bs

  same_gates : gates ws ≡ image_gates bs
  same_gates = ap gates s.requires.area_value.0 ∙ opened-gates bs

  same_outputs : outputs ws ≡ image_outputs bs
  same_outputs = ap outputs s.requires.area_value.0 ∙ opened-outputs bs

  same-average : average_of ws (ones bs) ≡ equal_average bs
  unfolding equal_average
  same-average = ap (λ (vs : List ℕ). average_of vs (ones bs)) s.requires.area_value.0

  same-error : error_halves (net_of ws (image_kinds bs) []) ≡ (module_of bs).error
  same-error = ap (λ (vs : List ℕ). error_halves (net_of vs (image_kinds bs) [])) s.requires.area_value.0 ∙ opened-halves bs s.requires.area_value.1

pub each_reliability-requires : goal.each_reliability-requires
each_reliability-requires c = (workable (goal.at.each_reliability-requires c).Start, c.requires.most_patterns_in_bounds)

pub inputs-inputs-requires : goal.inputs-inputs-requires
inputs-inputs-requires c = omega (arith, (workable (goal.at.inputs-inputs-requires c).Start).net.long)

pub pattern_count-requires : goal.pattern_count-requires
pattern_count-requires c =
    omega (arith, c.inputs-inputs.ensures, (workable (goal.at.pattern_count-requires c).Start).net.inputs_fit)

pub equal_mean-average-requires : goal.equal_mean-average-requires
equal_mean-average-requires c =
    let start = (goal.at.equal_mean-average-requires c).Start in
    let many : c.pattern_count.result ≡ 2 ^ inputs (ws start) = c.pattern_count.ensures.0 ∙ ap (λ (n : ℕ). 2 ^ n) c.inputs-inputs.ensures in record {
      count_nonzero = (
        c.pattern_count.ensures.1,
        omega
            (arith, c.pattern_count.ensures.2, c.each_reliability.auto.figures, c.requires.most_patterns_in_bounds),
        c.pattern_count.ensures.2,
      );
      by_index = λ q less.
          let inside : q < 2 ^ inputs (ws start) = omega (arith, many) in
          omega (arith, c.each_reliability.ensures q inside, reliability_fits (ws start) q (workable start) inside);
    }

pub error_halves-error-requires : goal.error_halves-error-requires
error_halves-error-requires c =
    let start = (goal.at.error_halves-error-requires c).Start in (
      (workable start).net,
      opened-trailer (bs start)
          c.requires.area_value.1,
      same_gates start,
    )

pub overflow_cast-result : goal.overflow_cast-result
overflow_cast-result c =
    omega (
      arith,
      c.inputs-inputs.ensures,
      (workable (goal.at.overflow_cast-result c).Start).net.inputs_fit,
    )

pub gates-requires : goal.gates-requires
gates-requires c =
    omega (arith, (workable (goal.at.gates-requires c).Start).net.long)

pub overflow_cast-result-2 : goal.overflow_cast-result-2
overflow_cast-result-2 c =
    omega (
      arith,
      c.gates.ensures,
      (workable (goal.at.overflow_cast-result-2 c).Start).net.gates_fit,
    )

pub outputs-requires : goal.outputs-requires
outputs-requires c =
    omega (arith, (workable (goal.at.outputs-requires c).Start).net.long)

pub overflow_cast-result-3 : goal.overflow_cast-result-3
overflow_cast-result-3 c =
    omega (
      arith,
      c.outputs.ensures,
      (workable (goal.at.overflow_cast-result-3 c).Start).net.outputs_fit,
    )

pub shape_of-figures : goal.shape_of-figures
shape_of-figures c = c.each_reliability.auto.figures

pub returns : goal.returns
returns c =
    let start = (goal.at.returns c).Start in
    let n = same_inputs start in
    let many : c.pattern_count.result ≡ 2 ^ image_inputs (bs start) =
    c.pattern_count.ensures.0
    ∙ ap (λ (n : ℕ). 2 ^ n) (c.inputs-inputs.ensures ∙ n) in
    let each : (q : ℕ) → q < 2 ^ image_inputs (bs start)
    → get_or c.each_reliability.new.figures q 0 ≡ reliability_for (ws start) q
    = λ q less. c.each_reliability.ensures q
    (subst (λ (k : ℕ). q < 2 ^ k) (sym n) less) in
    let mean = c.equal_mean-average.ensures
    ∙ mean-average (ws start) c.each_reliability.new.figures
    (image_inputs (bs start)) _ n many each ∙ same-average start in record {
      value = module-is _ (module_of (bs start)) (
        c.inputs-inputs.ensures ∙ n,
        c.gates.ensures ∙ same_gates start,
        c.outputs.ensures ∙ same_outputs start,
        c.requires.area_value.2,
        mean,
        c.error_halves-error.ensures.value ∙ same-error start,
      );
      by_index = λ q less. each q less ∙ ap (λ (vs : List ℕ). reliability_for vs q) c.requires.area_value.0;
    }
