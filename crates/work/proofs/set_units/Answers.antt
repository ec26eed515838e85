-- `work::set_units` meets its contract. Assumes nothing.
use Prim.Native.Nat.{ℕ, ◌+◌, ◌-◌, ◌≤◌, ◌<◌}
use mathlib.Core.List.{List}
use mathlib.Core.Path.{◌≡◌, sym, ap, subst, ◌∙◌}
use native.Mathlib.Omega.{arith}
use lib.ListN.{length}
use Rattle.area.specs.Layout.{gates}
use Rattle.area.specs.Rules.{Workable}
use Rattle.work.specs.Work.{work_gate, set_words}
use Rattle.work.proofs.Frame.{same_gates, same-store-flip, same-work-gate, marked-walk, set-kept}
use Rattle.work.proofs.Sound.{workable-store-flip, workable-work-gate, workable-walk}
use Rattle.work.proofs.Loops.{set_is}
use Rattle.work.proofs.set_units.Goals.{After-slice_known-5-1, After-store_flip, After-work_gate}
use Rattle.work.proofs.set_units.Goals as goal

-- the area with the flip stored
module _ (c : After-store_flip) where
  abbrev flipped : List ℕ
  flipped = c.store_flip.new.area

  flipped-workable : Workable flipped
  flipped-workable =
      subst Workable (sym c.store_flip.ensures)
      (workable-store-flip c.args.area.now c.args.gate c.args.units c.requires.workable c.requires.gate_bound c.requires.units_le_largest_flip)

  flipped_below : c.args.gate < gates flipped
  flipped_below =
      omega (
        arith,
        ap gates c.store_flip.ensures,
        same_gates _ _ (same-store-flip c.args.area.now c.args.gate c.args.units c.requires.gate_bound),
        c.requires.gate_bound,
      )

-- and with the gate worked out
module _ (c : After-work_gate) where
  abbrev gate : ℕ
  gate = c.args.gate

  abbrev worked : List ℕ
  worked = c.work_gate.new.area

  worked-workable : Workable worked
  worked-workable = subst Workable (sym c.work_gate.ensures) (workable-work-gate (flipped c.before.before.before.before) (flipped-workable c.before.before.before.before) gate (flipped_below c.before.before.before.before))

  worked-below : gate + 1 ≤ gates worked
  worked-below =
      omega (arith, ap gates c.work_gate.ensures, same_gates _ _ (same-work-gate (flipped c.before.before.before.before) gate (flipped_below c.before.before.before.before)), flipped_below c.before.before.before.before)

-- what the steps come to
left : (c : After-slice_known-5-1)
    → c.work_reliability.new.area
    ≡ set_words c.args.area.now
    c.args.gate
    c.args.units
left c =
    let inputs = c.inputs in
    c.work_reliability.ensures
    ∙ set_is c.args.area.now c.mark_of.result (worked c.before.before.before.before.before.before.before.before.before.before.before.before) c.work_marked.new.area c.args.gate c.args.units
    (inputs.result + c.args.gate)
    c.requires.gate_bound
    (ap (λ (n : ℕ). n + c.args.gate) inputs.ensures)
    c.mark_of.ensures
    (c.work_gate.ensures ∙ ap (λ (ws : List ℕ). work_gate ws c.args.gate) c.store_flip.ensures)
    c.work_marked.ensures

pub work_gate-requires : goal.work_gate-requires
work_gate-requires c = record { workable = flipped-workable (goal.at.work_gate-requires c).After-store_flip; gate_bound = flipped_below (goal.at.work_gate-requires c).After-store_flip }

pub work_marked-requires : goal.work_marked-requires
work_marked-requires c = record { workable = worked-workable (goal.at.work_marked-requires c).After-work_gate; from_bound = worked-below (goal.at.work_marked-requires c).After-work_gate }

pub work_reliability-requires : goal.work_reliability-requires
work_reliability-requires c =
    let there = (goal.at.work_reliability-requires c).After-work_gate in
    rw c.work_marked.ensures
    (workable-walk (marked-walk (worked there) c.mark_of.result (gate there + 1) (gates (worked there) - (gate there + 1)))
    (omega (arith, worked-below there))
    (worked-workable there))

pub shape_of-area : goal.shape_of-area
shape_of-area c = ap length (left c) ∙ (set-kept _ _ _).size

pub returns : goal.returns
returns c = left c
