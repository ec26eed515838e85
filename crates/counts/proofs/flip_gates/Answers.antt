-- `counts::flip_gates` meets its contract: gate by gate. Assumes nothing.
use Prim.Native.Nat.{◌<◌}
use mathlib.Core.List.{[]}
use mathlib.Core.Path.{refl, ◌∙◌}
use native.Mathlib.Omega.{arith}
use Rattle.lists.proofs.Parts.{zeros-at}
use Rattle.netlist.specs.declared.Method.TheVariants.{Flip}
use Rattle.area.specs.Layout as layout
use Rattle.area.specs.Layout.{most_sources}
use Rattle.area.specs.Net.{net_of}
use Rattle.area.proofs.Net.{gate_count}
use Rattle.netlist.specs.Seen.{flip_seen}
use Rattle.signals.specs.Signals.{InEachLane}
use Rattle.counts.specs.Counts.{in_list}
use Rattle.counts.proofs.Right.{words-worked}
use Rattle.counts.proofs.Readers.{reads_unread}
use Rattle.counts.proofs.Flips.{flip-seen}
use Rattle.counts.proofs.Added.{counted_none, counted-up, counted-all}
use Rattle.counts.proofs.flip_gates.Goals as goal

pub enter_gates-requires : goal.enter_gates-requires
enter_gates-requires c = record { net_sound = c.requires.net_sound.0; reads = reads_unread c.args.area.now 1_024 }

pub listed_lanes-by-requires : goal.listed_lanes-by-requires
listed_lanes-by-requires c =
    c.requires.net_sound.1

pub gates-gate-end-requires : goal.gates-gate-end-requires
gates-gate-end-requires c =
    omega (arith, c.requires.net_sound.0.long)

pub loop-gate-init : goal.loop-gate-init
loop-gate-init c = (
  record { long = refl; none = zeros-at most_sources },
  counted_none Flip (net_of c.args.area.now [] []) c.args.patterns.now c.args.counts.now 0,
)

pub flip_lanes-seen-requires : goal.flip_lanes-seen-requires
flip_lanes-seen-requires c =
    let at-enter-gates = c.enter_gates in
    let at-gates = c.gates-gate-end in
    let l = c.loop-gate in
    let a = c.args in
    let ws = a.area.now in record { followable = record { net = c.requires.net_sound.0; worked = words-worked ws a.patterns.now a.words.now c.requires.net_sound.0 c.requires.words_hold; reads = at-enter-gates.ensures }; gate_bound = (omega (arith, at-gates.ensures), l.invariant.0) }

pub add_ones-requires : goal.add_ones-requires
add_ones-requires c =
    let at-gates = c.gates-gate-end in
    let l = c.loop-gate in
    let counted = l.invariant.1 in
    let ready = c.requires.counts_ready in (
      omega (arith, counted.long, ready.long, at-gates.ensures),
      rw (counted.past l.gate (omega arith)) (ready.few l.gate (omega (arith, at-gates.ensures))),
    )

pub loop-gate-preserved : goal.loop-gate-preserved
loop-gate-preserved c =
    let at-add-ones = c.add_ones in
    let at-flip-lanes = c.flip_lanes-seen in
    let at-gates = c.gates-gate-end in
    let at-listed-lanes = c.listed_lanes-by in
    let l = c.loop-gate in
    let a = c.args in
    let ws = a.area.now in
    let seen = at-flip-lanes.ensures.seen_in in
    let test = c.loop-gate-test in
    let inside : l.gate < layout.gates ws = omega (arith, at-gates.ensures, test.true) in
    let lanes : InEachLane at-flip-lanes.result (in_list a.patterns.now (λ q. flip_seen (net_of ws [] []) q l.gate))
    = λ k less.
    seen.seen k less
    ∙ flip-seen ws a.patterns.now a.words.now c.requires.net_sound.0 c.requires.words_hold l.gate at-listed-lanes.result inside
    at-listed-lanes.ensures seen.changed seen.flipped k less in (
      at-flip-lanes.ensures.unchanged,
      rw at-add-ones.ensures.counts_after
          (counted-up Flip (net_of ws [] []) a.patterns.now a.counts.now c.requires.net_sound.1 0 l.gate l.counts l.invariant.1
          l.gate at-flip-lanes.result
          at-add-ones.ensures.word_bound (omega (arith, c.requires.counts_ready.long, inside)) lanes (l.invariant.1.past l.gate (omega arith)) refl (omega arith)),
    )

pub returns : goal.returns
returns c =
    let l = c.loop-gate in
    let a = c.args in
    let ws = a.area.now in
    counted-all Flip (net_of ws [] []) a.patterns.now a.counts.now l.counts l.gate
    (omega (arith, gate_count ws [] [], c.gates-gate-end.ensures))
    l.invariant.1
