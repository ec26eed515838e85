-- `bench::set_known_flip` meets its contract. Assumes nothing.
use Prim.Native.Nat.{ℕ, ◌+◌, ◌*◌, ◌≤◌, ◌<◌}
use mathlib.Core.List.{List, []}
use mathlib.Core.Path.{◌≡◌, refl, sym, ap, ap₂, subst, ◌∙◌}
use native.Mathlib.Nat.{mul-le-mul_right}
use native.Mathlib.Omega.{arith}
use Rattle.refusal.specs.Judgement.{Fine, refused}
use Rattle.refusal.proofs.Laws.{otherwise-second, passed-on, answer-told}
use Rattle.chance.specs.Flip.{flip_units}
use Rattle.netlist.specs.Live.{if_live, readers}
use Rattle.area.specs.Layout.{most_gates, largest_flip, inputs, gates, outputs, flip}
use Rattle.area.specs.Rules.{NetSound, Sound}
use Rattle.area.specs.Net.{net_of}
use Rattle.area.specs.Sum.{live_flip, flip_sum, stored_sum, with_sum}
use Rattle.area.proofs.Sum.{few-units, sum-has}
use Rattle.work.specs.Work.{set_words}
use Rattle.work.proofs.Frame.{same_set}
use Rattle.work.proofs.Sound.{set_sum}
use Rattle.image.specs.Refusals.{flip_refusal}
use Rattle.image.proofs.Flips.{flip-low}
use Rattle.calls.specs.Judgements.{set_flip, read_gate, flip_judgement, lent_judgement}
use Rattle.calls.specs.Calls.{left}
use Rattle.calls.proofs.Judgements.{lent-fine, gate-fine, set-after-gate}
use Rattle.bench.proofs.set_known_flip.Goals.{After-index-2, After-set_units, Start}
use Rattle.bench.proofs.set_known_flip.Goals as goal
use Rattle.refusal.specs.declared.Cause.TheVariants.{CallFlip}

-- the area keeps rule 14, and the gate is there
module _ (ws : List ℕ) (g : ℕ) (known : lent_judgement ws (read_gate g) ≡ Fine) where
  passed : Sound ws
  passed = (lent-fine ws (read_gate g) known).0

  there : g < gates ws
  there = gate-fine (inputs ws) (gates ws) (outputs ws) g (lent-fine ws (read_gate g) known).1

pub flip-old-requires : goal.flip-old-requires
flip-old-requires c =
    omega (arith, c.index.ensures, there c.args.area.now c.args.gate c.requires.gate_value, (passed c.args.area.now c.args.gate c.requires.gate_value).workable.net.long)

-- the flip is accepted
module _ (c : After-index-2) where
  abbrev ws : List ℕ
  ws = c.args.area.now

  abbrev g : ℕ
  g = c.args.gate

  abbrev units : ℕ
  units = c.in_ok-units.units

  accepted : (flip_refusal CallFlip g c.args.kind c.args.field ≡ Fine)
      × (flip_units c.args.kind c.args.field ≡ units) × (units ≤ largest_flip)
  accepted =
      let told = (answer-told _ _ _ c.units_of_flip.ensures).0 units c.in_ok-units.was in
      (told.0, sym told.1, rw (told.1) (flip-low CallFlip g c.args.kind c.args.field told.0))

  net : NetSound ws
  net = (passed c.args.area.now c.args.gate c.requires.gate_value).workable.net

  -- what setting it leaves, but for the sum
  abbrev worked : List ℕ
  worked = set_words ws g units

  -- the flip that it had, and what that added to the sum
  old-is : c.flip-old.result ≡ flip ws g
  old-is = c.flip-old.ensures ∙ ap (flip ws) c.index.ensures

  had : if_live c.args.live c.flip-old.result ≡ live_flip ws g
  had = ap₂ if_live c.requires.live_value.0 old-is

  enough : live_flip ws g ≤ c.args.sum
  enough = subst (λ (sum : ℕ). live_flip ws g ≤ sum) (sym c.requires.live_value.1) (sum-has ws g (there c.args.area.now c.args.gate c.requires.gate_value))

  few : c.args.sum ≤ most_gates * largest_flip
  few =
      omega (
        arith,
        c.requires.live_value.1,
        few-units ws largest_flip (passed c.args.area.now c.args.gate c.requires.gate_value).workable.figures.flip_fits,
        mul-le-mul_right largest_flip net.gates_fit,
      )

pub set_units-requires : goal.set_units-requires
set_units-requires c = record { workable = (passed c.args.area.now c.args.gate c.requires.gate_value).workable; gate_bound = omega (arith, c.index-2.ensures, there c.args.area.now c.args.gate c.requires.gate_value); units_le_largest_flip = (accepted c).2 }

pub changed_sum-requires : goal.changed_sum-requires
changed_sum-requires c =
    let there = (goal.at.changed_sum-requires c).After-index-2 in
    (omega (arith, had there, enough there), omega (arith, few there, (accepted there).2))

-- what the flip is set in
set_is : (c : After-set_units) → c.set_units.new.area ≡ worked c.before
set_is c = c.set_units.ensures ∙ ap (λ (k : ℕ). set_words (ws c.before) k (units c.before)) c.index-2.ensures

pub store_sum-requires : goal.store_sum-requires
store_sum-requires c =
    let past = (goal.at.store_sum-requires c).After-index-2 in
    rw (set_is (goal.at.store_sum-requires c).After-set_units) (omega (arith, (same_set (ws past) (g past) (units past) (there c.args.area.now c.args.gate c.requires.gate_value)).size, (net past).long))

pub returns : goal.returns
unfolding with_sum
returns c =
    let past = (goal.at.returns c).After-index-2 in
    let a = c.args in
    let judged =
    set-after-gate (ws past) a.gate a.kind a.field
    ∙ otherwise-second (lent_judgement (ws past) (read_gate a.gate)) (flip_judgement a.gate a.kind a.field) c.requires.gate_value
    ∙ (accepted past).0 in
    let has : if_live a.live (units past) ≡ if_live (readers (net_of (ws past) [] []) (inputs (ws past) + g past)) (units past)
    = ap (λ (r : ℕ). if_live r (units past)) c.requires.live_value.0 in
    let sum : c.changed_sum.result ≡ flip_sum (worked past)
    = omega (
      arith,
      c.changed_sum.ensures,
      had past,
      has,
      c.requires.live_value.1,
      set_sum (ws past) (g past) (units past) (there c.args.area.now c.args.gate c.requires.gate_value) (net past),
    ) in
    let flips = ap (set_words (ws past) (g past)) (sym (accepted past).1) in record { value = rw (accepted past).0 refl; area_after = rw judged (c.store_sum.ensures ∙ ap₂ stored_sum (set_is (goal.at.returns c).After-set_units ∙ flips) (sum ∙ ap flip_sum flips)) }

-- a flip that is refused leaves every word
pub returns-in_err-units : goal.returns-in_err-units
returns-in_err-units c =
    let a = c.args in
    let why = c.in_err-units.field-0.0 in
    let bad = (answer-told _ _ _ c.units_of_flip.ensures).1 why c.in_err-units.was in
    let judged =
    set-after-gate a.area.now a.gate a.kind a.field
    ∙ otherwise-second (lent_judgement a.area.now (read_gate a.gate)) (flip_judgement a.gate a.kind a.field) c.requires.gate_value
    ∙ bad in
    record { value = passed-on c.from_residual.result why c.from_residual.ensures.1 ∙ sym bad; area_after = rw judged refl }
