-- `image::Records::load_outputs` meets its contract. Assumes nothing.
use Prim.Native.Nat.{◌+◌}
use native.Mathlib.Omega.{arith}
use Rattle.area.specs.Layout.{outputs_index}
use Rattle.image.proofs.Passed.{starts, goes_on, stops-on, ends}
use Rattle.image.proofs.Middle.{output-place}
use Rattle.image.proofs.Records.load_outputs.Goals as goal

pub loop-k-init : goal.loop-k-init
loop-k-init c = starts _ _ _ _

pub loop-k-preserved : goal.loop-k-preserved
loop-k-preserved c =
    let l = c.loop-k in
    let a = c.args in
    let step = c.load_output in
    let place = output-place a.self.now.bytes.now a.self.now.gates l.k in
    goes_on l.invariant (outputs_index a.self.now.gates + l.k) step.result _ place (step.ensures.value, step.ensures.words_after) c.in_ok-load_output.was

pub returns-in_err-load_output : goal.returns-in_err-load_output
returns-in_err-load_output c =
    let step = c.load_output in
    let all = stops-on c.loop-k.invariant c.args.self.now.outputs step.result _ _ _ (omega arith) step.ensures.value c.in_err-load_output.was c.from_residual.ensures.1 in
    record { value = all.0; words_after = all.1 }

pub returns : goal.returns
returns c = let all = ends c.loop-k.invariant c.args.self.now.outputs (omega arith) in record { value = all.0; words_after = all.1 }
