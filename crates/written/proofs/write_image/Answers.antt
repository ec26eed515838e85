-- `written::write_image` meets its contract. Assumes nothing.
use Prim.Native.Nat.{◌*◌}
use mathlib.Core.Path.{ap, ◌∙◌}
use native.Mathlib.Omega.{arith}
use lib.ListN.{length}
use lib.Seq.{length-sets}
use Rattle.lists.proofs.Parts.{sets_first}
use Rattle.image.specs.Image.{record_bytes}
use Rattle.records.specs.Bytes.{gates_bytes, outputs_bytes}
use Rattle.records.proofs.Length.{image-bytes}
use Rattle.records.proofs.Whole.{whole}
use Rattle.written.specs.Image.{area_contents, area_image, area_image_length}
use Rattle.written.proofs.write_image.Goals as goal

pub write_gates-requires : goal.write_gates-requires
write_gates-requires c = let p = c.requires in (p.0, omega (arith, p.1))

pub write_outputs-requires : goal.write_outputs-requires
write_outputs-requires c =
    let records = gates_bytes (area_contents c.args.area.now) in
    let kept = ap length c.write_gates.ensures ∙ length-sets c.args.image.now 0 records in
    (c.requires.0, omega (arith, kept, c.requires.1))

pub gates-gates-requires : goal.gates-gates-requires
gates-gates-requires c = omega (arith, c.requires.0.net.long)

pub outputs-outputs-requires : goal.outputs-outputs-requires
outputs-outputs-requires c = omega (arith, c.requires.0.net.long)

pub overflow_mul-at : goal.overflow_mul-at
overflow_mul-at c =
    let net = c.requires.0.net in
    omega (arith, c.gates-gates.ensures, net.gates_fit)

pub overflow_mul-at-2 : goal.overflow_mul-at-2
overflow_mul-at-2 c =
    let net = c.requires.0.net in
    omega (arith, c.outputs-outputs.ensures, net.outputs_fit)

pub overflow_add-at : goal.overflow_add-at
overflow_add-at c =
    let net = c.requires.0.net in
    omega (arith, c.gates-gates.ensures, c.outputs-outputs.ensures, net.gates_fit, net.outputs_fit)

pub inputs-requires : goal.inputs-requires
inputs-requires c =
    let net = c.requires.0.net in
    omega (arith, net.long)

pub write_trailer-requires : goal.write_trailer-requires
write_trailer-requires c =
    let net = c.requires.0.net in
    let ws = c.args.area.now in
    let kept = ap length c.write_gates.ensures ∙ length-sets c.args.image.now 0 (gates_bytes (area_contents ws)) in
    let kept₂ = ap length c.write_outputs.ensures ∙ length-sets _ (record_bytes * _) (outputs_bytes (area_contents ws)) in
    let g = c.gates-gates.ensures in
    let k = c.outputs-outputs.ensures in record { trailer_bytes_in_bounds = omega (arith, kept, kept₂, g, k, c.requires.1); inputs_bound = (omega (arith, c.inputs.ensures, net.inputs_fit), omega (arith, g, net.gates_fit), omega (arith, k, net.outputs_fit)) }

pub returns : goal.returns
returns c =
    let ws = c.args.area.now in
    let old = c.args.image.now in
    let n = c.inputs.ensures in
    let g = c.gates-gates.ensures in
    let k = c.outputs-outputs.ensures in
    whole (area_contents ws) old _ _ _
    c.write_gates.ensures
    c.write_outputs.ensures
    (rw (n, g, k) at c.write_trailer.ensures)
    ∙ sets_first (area_image ws) old (area_image_length ws) (image-bytes (area_contents ws)) c.requires.1
