-- `errors::error_halves` meets its contract: gate after gate. Assumes nothing.
use Prim.Native.Nat.{ℕ, ◌+◌, ◌*◌, ◌<◌}
use mathlib.Core.List.{[]}
use mathlib.Core.Path.{◌≡◌, sym, ap, ap₂, ◌∙◌}
use native.Mathlib.Nat.{zero-add}
use native.Mathlib.Omega.{arith}
use lib.ListN.{get_or, take, drop}
use Rattle.bound.specs.Sharp.{further_gates}
use Rattle.area.specs.Layout.{inputs, gates, output_words}
use Rattle.area.proofs.Words.{few-sources}
use Rattle.image.specs.Loading.{image_kinds}
use Rattle.image.proofs.Sound.{kind_at}
use Rattle.errors.proofs.Charges.{charge, charge-is, next-charge, halves_are}
use Rattle.errors.proofs.error_halves.Goals as goal

pub inputs-inputs-requires : goal.inputs-inputs-requires
inputs-inputs-requires c = omega (arith, c.requires.0.long)

pub gates-count-requires : goal.gates-count-requires
gates-count-requires c = omega (arith, c.requires.0.long)

pub count_readers-readers-requires : goal.count_readers-readers-requires
count_readers-readers-requires c = c.requires.0

pub outputs_index-requires : goal.outputs_index-requires
outputs_index-requires c = omega (arith, c.gates-count.ensures, c.requires.0.gates_fit)

pub outputs-requires : goal.outputs-requires
outputs-requires c = omega (arith, c.requires.0.long)

pub further_gates-halves-requires : goal.further_gates-halves-requires
further_gates-halves-requires c =
    let net = c.requires.0 in (
      omega (arith, net.long, c.outputs_index.ensures, c.gates-count.ensures, c.outputs.ensures),
      omega (arith, c.outputs.ensures, net.outputs_fit),
    )

pub loop-gate-init : goal.loop-gate-init
loop-gate-init c =
    let ws = c.args.area.now in
    let read : c.further_gates-halves.result ≡ further_gates (inputs ws) (output_words ws)
    = c.further_gates-halves.ensures.0
    ∙ ap₂ further_gates c.inputs-inputs.ensures
    (ap₂ (λ (k i : ℕ). take k (drop i ws)) c.outputs.ensures
    (c.outputs_index.ensures ∙ ap (λ (g : ℕ). 8 + 8 * g) c.gates-count.ensures)) in (
      omega (
        arith,
        c.further_gates-halves.ensures.1,
        c.outputs.ensures,
        c.requires.0.outputs_fit,
      ),
      read ∙ sym (zero-add _),
    )

pub bounds-readers-inputs : goal.bounds-readers-inputs
bounds-readers-inputs c =
    omega (
      arith,
      c.loop-gate-test.true,
      c.gates-count.ensures,
      c.inputs-inputs.ensures,
      few-sources _ c.requires.0,
    )

pub charged-halves-requires : goal.charged-halves-requires
charged-halves-requires c = record {
  net_sound = (
    c.requires.0,
    omega (arith, c.loop-gate-test.true, c.gates-count.ensures),
  );
  trailer_right = (
    c.requires.1,
    c.requires.2,
  );
}

pub overflow_add-halves : goal.overflow_add-halves
overflow_add-halves c =
    omega (
      arith,
      c.loop-gate.invariant.0,
      c.charged-halves.ensures.upper_bound,
      c.loop-gate-test.true,
      c.gates-count.ensures,
      c.requires.0.gates_fit,
    )

pub loop-gate-preserved : goal.loop-gate-preserved
loop-gate-preserved c =
    let ws = c.args.area.now in
    let kinds = image_kinds c.args.image.now in
    let l = c.loop-gate in
    let inside : l.gate < gates ws = omega (arith, c.loop-gate-test.true, c.gates-count.ensures) in
    let counted = ap (λ (n : ℕ). get_or c.count_readers-readers.result (n + l.gate) 0)
    c.inputs-inputs.ensures
    ∙ c.count_readers-readers.ensures (inputs ws + l.gate) in
    let one = c.charged-halves.ensures.value ∙ charge-is ws kinds [] l.gate _ _ inside
    (sym (kind_at c.args.image.now l.gate (omega (arith, c.requires.2)))) counted in
    (omega (arith, l.invariant.0, c.charged-halves.ensures.upper_bound), next-charge (charge ws kinds []) l.gate l.halves _ _ l.invariant.1 one)

pub returns : goal.returns
returns c =
    let ws = c.args.area.now in
    let l = c.loop-gate in
    let all : l.gate ≡ gates ws = omega (arith, c.loop-gate-test.false, c.gates-count.ensures) in record { value = rw all at l.invariant.1 ∙ sym (halves_are ws (image_kinds c.args.image.now) []); upper_bound = omega (arith, l.invariant.0, all, c.requires.0.gates_fit) }
