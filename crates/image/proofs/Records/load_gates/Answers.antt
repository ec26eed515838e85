-- `image::Records::load_gates` meets its contract. Assumes nothing.
use native.Mathlib.Omega.{arith}
use Rattle.area.specs.Layout.{gate_index}
use Rattle.image.proofs.Passed.{starts, goes_on, stops-on, ends}
use Rattle.image.proofs.Middle.{gate-place}
use Rattle.image.proofs.Records.load_gates.Goals as goal

pub loop-j-init : goal.loop-j-init
loop-j-init c = starts _ _ _ _

pub loop-j-preserved : goal.loop-j-preserved
loop-j-preserved c =
    let l = c.loop-j in
    let step = c.load_gate in
    goes_on l.invariant (gate_index l.j) step.result _ (gate-place c.args.self.now.bytes.now l.j) (step.ensures.value, step.ensures.words_after) c.in_ok-load_gate.was

pub returns-in_err-load_gate : goal.returns-in_err-load_gate
returns-in_err-load_gate c =
    let step = c.load_gate in
    let all = stops-on c.loop-j.invariant c.args.self.now.gates step.result _ _ _ (omega arith) step.ensures.value c.in_err-load_gate.was c.from_residual.ensures.1 in
    record { value = all.0; words_after = all.1 }

pub returns : goal.returns
returns c = let all = ends c.loop-j.invariant c.args.self.now.gates (omega arith) in record { value = all.0; words_after = all.1 }
