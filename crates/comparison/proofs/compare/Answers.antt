-- `comparison::compare` meets its contract: both images are judged, the first one first. Assumes nothing.
use Prim.Native.Nat.{ℕ}
use mathlib.Core.List.{List}
use mathlib.Core.Path.{◌≡◌, sym, ap, ap₂, ◌∙◌}
use native.Mathlib.Omega.{arith}
use lib.ListN.{get_or, length-replicate}
use Rattle.refusal.specs.Judgement.{Fine}
use Rattle.area.specs.Layout.{most_patterns}
use Rattle.calls.specs.Judgements.{image_judgement}
use Rattle.comparison.specs.declared.Module.{Module}
use Rattle.comparison.specs.Standing.{answered}
use Rattle.comparison.specs.Images.{figures_of, module_of}
use Rattle.comparison.proofs.Deciding.{answered-same}
use Rattle.comparison.proofs.Opened.{module-told, module-read, few_inputs}
use Rattle.comparison.proofs.compare.Goals.{In_ok-one, In_ok-other}
use Rattle.comparison.proofs.compare.Goals as goal

-- the first image, and the second after it
first : (c : In_ok-one) → (image_judgement c.args.first.now ≡ Fine) × (c.in_ok-one.one ≡ module_of c.args.first.now)
first c =
    let bs = c.args.first.now in
    (module-told (image_judgement bs) (module_of bs)).0 _
    (sym c.read_module.ensures.value ∙ module-read _ c.read_module.result _ (sym c.named.ensures ∙ c.in_ok-one.was))

second : (c : In_ok-other) → (image_judgement c.args.second.now ≡ Fine) × (c.in_ok-other.other ≡ module_of c.args.second.now)
second c =
    let cs = c.args.second.now in
    (module-told (image_judgement cs) (module_of cs)).0 _
    (sym c.read_module-2.ensures.value ∙ module-read _ c.read_module-2.result _ (sym c.named-2.ensures ∙ c.in_ok-other.was))

pub compare_modules-requires : goal.compare_modules-requires
compare_modules-requires c =
    let one = first (goal.at.compare_modules-requires c).In_ok-one in
    let long = length-replicate {A = ℕ} most_patterns 0 in
    record {
      inputs_le_most_inputs = omega (arith, few_inputs c.args.first.now one.0, ap (λ (m : Module). m.inputs) one.1);
      most_patterns_in_bounds = (
        omega (arith, long, c.read_module.auto.figures),
        omega (arith, long, c.read_module-2.auto.figures),
      );
    }

pub returns : goal.returns
returns c =
    let bs = c.args.first.now in
    let cs = c.args.second.now in
    let one = first (goal.at.returns c).In_ok-one in
    let other = second (goal.at.returns c).In_ok-other in
    let r : ℕ → ℕ = λ q. get_or c.read_module.new.figures q 0 in
    let s : ℕ → ℕ = λ q. get_or c.read_module-2.new.figures q 0 in
    rw (one.0, other.0)
    (c.compare_modules.ensures
    ∙ ap₂ (λ (m k : Module). answered m r k s) one.1 other.1
    ∙ answered-same (module_of bs) (module_of cs) r s (figures_of bs) (figures_of cs)
    (c.read_module.ensures.q_after one.0)
    (c.read_module-2.ensures.q_after other.0))
