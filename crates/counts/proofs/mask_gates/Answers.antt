-- `counts::mask_gates` meets its contract: gate by gate, the last first. Assumes nothing.
use Prim.Native.Nat.{ℕ, suc, ◌-◌, ◌<◌}
use mathlib.Core.List.{[]}
use mathlib.Core.Path.{◌≡◌, sym, subst}
use native.Mathlib.Nat.{le_refl}
use native.Mathlib.Omega.{arith}
use Rattle.netlist.specs.declared.Method.TheVariants.{Mask}
use Rattle.area.specs.Layout as layout
use Rattle.area.specs.Net.{net_of}
use Rattle.area.proofs.Net.{gate_count}
use Rattle.counts.specs.Counts.{MasksFrom}
use Rattle.counts.proofs.Right.{words-worked}
use Rattle.counts.proofs.Masks.{masks-first, mask_lanes, masks-step}
use Rattle.counts.proofs.Added.{CountedIn, counted_none, counted-down, counted-all}
use Rattle.counts.proofs.mask_gates.Goals as goal

pub listed_lanes-requires : goal.listed_lanes-requires
listed_lanes-requires c =
    c.requires.net_sound.1

pub output_masks-masks-requires : goal.output_masks-masks-requires
output_masks-masks-requires c =
    c.requires.net_sound.0

pub gates-gate-requires : goal.gates-gate-requires
gates-gate-requires c =
    omega (arith, c.requires.net_sound.0.long)

pub loop-gate-init : goal.loop-gate-init
loop-gate-init c =
    let at-listed-lanes = c.listed_lanes in
    let at-output-masks = c.output_masks-masks in
    let a = c.args in
    let ws = a.area.now in
    rw c.gates-gate.ensures (
      le_refl (layout.gates ws),
      masks-first ws a.patterns.now at-listed-lanes.result at-output-masks.result at-listed-lanes.ensures at-output-masks.ensures,
      counted_none Mask (net_of ws [] []) a.patterns.now a.counts.now (layout.gates ws),
    )

pub count_mask-requires : goal.count_mask-requires
count_mask-requires c =
    let l = c.loop-gate in
    let a = c.args in
    let ws = a.area.now in
    let counted = l.invariant.2 in
    let ready = c.requires.counts_ready in record {
      net_sound = (c.requires.net_sound.0, words-worked ws a.patterns.now a.words.now c.requires.net_sound.0 c.requires.words_hold, omega arith);
      gate_in_bounds = (
        omega (arith, counted.long, ready.long),
        rw (counted.before (l.gate - 1) (omega arith)) (ready.few (l.gate - 1) (omega arith)),
        l.invariant.1.long,
      );
    }

pub loop-gate-preserved : goal.loop-gate-preserved
loop-gate-preserved c =
    let at-count-mask = c.count_mask in
    let l = c.loop-gate in
    let a = c.args in
    let ws = a.area.now in
    let net = net_of ws [] [] in
    let patterns = a.patterns.now in
    let words = a.words.now in
    let gate = l.gate - 1 in
    let next : l.gate ≡ suc gate = omega arith in
    let inside : gate < layout.gates ws = omega arith in
    let masks = subst (λ (k : ℕ). MasksFrom net patterns k l.masks) next l.invariant.1 in (
      omega arith,
      masks-step ws patterns words c.requires.net_sound.0 c.requires.words_hold gate inside l.masks masks _ at-count-mask.ensures.mask_passed,
      rw at-count-mask.ensures.counts_after
          (counted-down Mask net patterns a.counts.now c.requires.net_sound.1 l.gate (layout.gates ws) l.counts l.invariant.2 gate _
          at-count-mask.ensures.gate_bound
          (omega (arith, c.requires.counts_ready.long))
          (mask_lanes ws patterns words c.requires.net_sound.0 c.requires.words_hold gate inside l.masks masks)
          (l.invariant.2.before gate (omega arith))
          (sym next)
          l.invariant.0),
    )

pub returns : goal.returns
returns c =
    let l = c.loop-gate in
    let a = c.args in
    let ws = a.area.now in
    let end : l.gate ≡ 0 = omega arith in
    counted-all Mask (net_of ws [] []) a.patterns.now a.counts.now l.counts (layout.gates ws) (sym (gate_count ws [] []))
    (subst (λ (k : ℕ). CountedIn Mask (net_of ws [] []) a.patterns.now a.counts.now k (layout.gates ws) l.counts) end l.invariant.2)
