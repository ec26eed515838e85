-- `written::write_outputs` meets its contract: after k turns the first k words are stored. Assumes nothing.
use Prim.Native.Nat.{◌+◌, ◌*◌}
use mathlib.Core.Path.{◌≡◌, refl, ap, ◌∙◌}
use native.Mathlib.Omega.{arith}
use lib.ListN.{length}
use lib.Seq.{length-sets}
use Rattle.lists.specs.Lists.{joined}
use Rattle.lists.proofs.Joined.{length-joined, joined-turn}
use Rattle.area.specs.Layout.{gates}
use Rattle.area.proofs.Words.{output-source}
use Rattle.image.specs.Image.{record_bytes, output_bytes, middle_bytes}
use Rattle.written.proofs.write_outputs.Invariants.{word}
use Rattle.written.proofs.write_outputs.Goals as goal

pub gates-base-requires : goal.gates-base-requires
gates-base-requires c = omega (arith, c.requires.0.net.long)

pub overflow_mul-base : goal.overflow_mul-base
overflow_mul-base c = omega (arith, c.gates-base.ensures, c.requires.0.net.gates_fit)

pub outputs-outputs-requires : goal.outputs-outputs-requires
outputs-outputs-requires c = omega (arith, c.requires.0.net.long)

pub loop-k-init : goal.loop-k-init
loop-k-init c = (refl, refl)

pub output-requires : goal.output-requires
output-requires c =
    let net = c.requires.0.net in
    let below = c.loop-k-test.true in
    let many = c.outputs-outputs.ensures in record { area_bound = (net.gates_fit, omega (arith, below, many, net.outputs_fit)); k_in_bounds = omega (arith, below, many, net.long) }

pub overflow_mul-k : goal.overflow_mul-k
overflow_mul-k c =
    omega (
      arith,
      c.loop-k-test.true,
      c.outputs-outputs.ensures,
      c.requires.0.net.outputs_fit,
    )

pub overflow_add-base : goal.overflow_add-base
overflow_add-base c =
    let net = c.requires.0.net in
    omega (arith, c.loop-k-test.true, c.outputs-outputs.ensures, c.gates-base.ensures, net.outputs_fit, net.gates_fit)

pub write_output-requires : goal.write_output-requires
write_output-requires c =
    let net = c.requires.0.net in
    let below = c.loop-k-test.true in
    let many = c.outputs-outputs.ensures in
    let low = output-source c.args.area.now net c.loop-k.k (omega (arith, below, many)) in (
      omega (arith, below, many, c.gates-base.ensures, c.loop-k.invariant.0, c.requires.1),
      omega (arith, c.index-source.ensures, c.output.ensures, low, net.inputs_fit, net.gates_fit),
    )

pub loop-k-preserved : goal.loop-k-preserved
loop-k-preserved c =
    let l = c.loop-k in
    let a = c.args in
    let ws = a.area.now in
    let many = c.gates-base.ensures in
    let source = c.index-source.ensures ∙ c.output.ensures in
    let new = joined-turn (word ws) a.image.now l.image _ (record_bytes * gates ws) l.k (middle_bytes (gates ws) l.k)
    (omega (arith, length-joined (word ws) output_bytes (λ i. refl) l.k)) l.invariant.1 (rw (source, many) at c.write_output.ensures) in
    let kept = ap length new ∙ length-sets a.image.now (record_bytes * gates ws) (joined (word ws) (l.k + 1)) in
    (kept, new)

pub returns : goal.returns
returns c =
    let l = c.loop-k in
    let end = c.outputs-outputs.ensures in
    let all : l.k ≡ c.outputs-outputs.result = omega arith in
    rw (all ∙ end) at l.invariant.1
