-- `errors::gate_halves` meets its contract. Assumes nothing.
use Prim.Native.Nat.{ℕ, ◌+◌, ◌≤◌}
use mathlib.Core.List.{List}
use mathlib.Core.Path.{◌≡◌, sym, ap, ap₂, ◌∙◌}
use native.Mathlib.Nat.{zero-add}
use native.Mathlib.Omega.{arith}
use lib.Dec.{eqb}
use lib.ListN.{take, drop}
use borrow.Author.Tests.{eq-eqb, ne_eqb}
use Rattle.area.specs.Layout.{inputs, used_pins}
use Rattle.area.proofs.Words.{gate-inside, used-at}
use Rattle.bound.specs.Sharp.{further_gates}
use Rattle.errors.proofs.gate_halves.Goals.{After-further_gates-pins}
use Rattle.errors.proofs.gate_halves.Goals as goal

-- the pins counted are the used ones
module _ (c : After-further_gates-pins) where
  abbrev ws : List ℕ
  ws = c.args.area.now

  pins : c.further_gates-pins.result ≡ further_gates (inputs ws) (used_pins ws c.args.gate)
  pins =
      c.further_gates-pins.ensures.0
      ∙ ap₂ further_gates c.inputs.ensures
      (ap₂ (λ (k i : ℕ). take k (drop i ws)) c.pin_count.ensures c.pins_index.ensures
      ∙ used-at ws c.requires.0 c.args.gate c.requires.1)

  few : c.further_gates-pins.result ≤ 4
  few = omega (arith, c.further_gates-pins.ensures.1, c.pin_count.ensures, (c.requires.0.gate c.args.gate c.requires.1).few_pins)

pub pins_index-requires : goal.pins_index-requires
pins_index-requires c = omega (arith, c.requires.1, c.requires.0.gates_fit)

pub pin_count-requires : goal.pin_count-requires
pin_count-requires c =
    gate-inside c.args.area.now c.requires.0 c.args.gate c.requires.1

pub inputs-requires : goal.inputs-requires
inputs-requires c = omega (arith, c.requires.0.long)

pub further_gates-pins-requires : goal.further_gates-pins-requires
further_gates-pins-requires c =
    let few = (c.requires.0.gate c.args.gate c.requires.1).few_pins in (
      omega (
        arith,
        gate-inside c.args.area.now c.requires.0 c.args.gate c.requires.1,
        c.pins_index.ensures,
        c.pin_count.ensures,
        few,
      ),
      omega (arith, c.pin_count.ensures, few),
    )

pub returns-then-kind-eq0 : goal.returns-then-kind-eq0
returns-then-kind-eq0 c =
    let never : eqb c.args.kind 0 ≡ _ = eq-eqb _ _ c.if-kind-eq0.true in record { value = rw never (pins (goal.at.returns-then-kind-eq0 c).After-further_gates-pins ∙ sym (zero-add _)); upper_bound = omega (arith, few (goal.at.returns-then-kind-eq0 c).After-further_gates-pins) }

pub overflow_add-result : goal.overflow_add-result
overflow_add-result c = omega (arith, few (goal.at.overflow_add-result c).After-further_gates-pins)

pub returns : goal.returns
returns c =
    let some : eqb c.args.kind 0 ≡ _ = ne_eqb _ _ c.if-kind-eq0.false in record { value = rw some (ap (λ (k : ℕ). 2 + k) (pins (goal.at.returns c).After-further_gates-pins)); upper_bound = omega (arith, few (goal.at.returns c).After-further_gates-pins) }
