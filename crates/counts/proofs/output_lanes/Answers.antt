-- `counts::output_lanes` meets its contract: output by output. Assumes nothing.
use Prim.Native.Nat.{ℕ, ◌<◌}
use mathlib.Core.Path.{ap, ◌∙◌}
use native.Mathlib.Omega.{arith}
use lib.ListN.{get_or}
use Rattle.area.specs.Layout as layout
use Rattle.area.proofs.Words.{output-source, few-sources}
use Rattle.signals.proofs.Lanes.{lane-zero}
use Rattle.counts.proofs.Outputs.{output-inside, all-outputs, some_more}
use Rattle.counts.proofs.output_lanes.Goals as goal

pub outputs-k-end-requires : goal.outputs-k-end-requires
outputs-k-end-requires c = omega (arith, c.requires.long)

pub loop-k-init : goal.loop-k-init
loop-k-init c = λ l less. lane-zero l

pub output-requires : goal.output-requires
output-requires c =
    let l = c.loop-k in
    let inside : l.k < layout.outputs c.args.area.now = omega (arith, c.outputs-k-end.ensures) in record { area_bound = (c.requires.gates_fit, omega (arith, c.requires.outputs_fit)); k_in_bounds = output-inside c.args.area.now c.requires l.k inside }

pub word_of-lanes-requires : goal.word_of-lanes-requires
word_of-lanes-requires c =
    let at-outputs = c.outputs-k-end in
    let l = c.loop-k in
    let inside : l.k < layout.outputs c.args.area.now = omega (arith, at-outputs.ensures) in
    omega (arith, c.output.ensures, output-source c.args.area.now c.requires l.k inside, few-sources c.args.area.now c.requires)

pub loop-k-preserved : goal.loop-k-preserved
loop-k-preserved c =
    let at-outputs = c.outputs-k-end in
    let l = c.loop-k in
    let a = c.args in
    let inside : l.k < layout.outputs a.area.now = omega (arith, at-outputs.ensures) in
    some_more a.area.now c.requires a.changed.now l.k l.lanes c.word_of-lanes.result inside
    (c.word_of-lanes.ensures ∙ ap (λ (o : ℕ). get_or a.changed.now o 0) c.output.ensures)
    l.invariant

pub returns : goal.returns
returns c =
    let l = c.loop-k in
    let a = c.args in
    rw (all-outputs a.area.now c.requires l.k (omega (arith, c.outputs-k-end.ensures))) at l.invariant
