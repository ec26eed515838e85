-- `counts::flip_lanes` meets its contract: the flip is followed, the outputs are looked at, and the changes cleared. Assumes nothing.
use mathlib.Core.Path.{◌≡◌}
use Prim.Native.Nat.{◌+◌}
use native.Mathlib.Omega.{arith}
use lib.ListN.{get_or, set}
use lib.Seq.{get_or-set_same}
use Rattle.area.specs.Layout as layout
use Rattle.area.proofs.Words.{few-sources}
use Rattle.counts.proofs.Windows.{follow-first}
use Rattle.counts.proofs.Cleared.{cleared}
use Rattle.counts.proofs.Circuit.flip_lanes.Goals as goal

pub follow-stop-requires : goal.follow-stop-requires
follow-stop-requires c =
    let at-inputs = c.inputs-inputs in
    let a = c.args in rw (c.max.ensures, c.max-2.ensures, at-inputs.ensures) (record {
      followable = c.requires.followable;
      following = follow-first a.self.now.area.now a.self.now.words.now c.requires.followable.net a.gate a.self.now.spans.now c.requires.followable.reads c.requires.gate_bound.0
          a.changed.now a.by c.requires.gate_bound.1;
    })

pub returns : goal.returns
returns c =
    let at-inputs = c.inputs-inputs in
    let at-follow = c.follow-stop in
    let a = c.args in
    let ws = a.self.now.area.now in
    let f = at-follow.ensures.flipped in
    let stored : get_or (set a.changed.now (layout.inputs ws + a.gate) a.by) (layout.inputs ws + a.gate) 0 ≡ a.by
    = get_or-set_same a.changed.now (layout.inputs ws + a.gate) a.by 0
    (omega (arith, c.requires.gate_bound.1.long, few-sources ws c.requires.followable.net, c.requires.gate_bound.0)) in record { seen_in = record { changed = at-follow.new.changed; flipped = rw stored at (rw at-inputs.ensures at f); seen = c.output_lanes-seen.ensures }; unchanged = cleared (c.inputs-inputs.result + a.gate) (c.inputs-inputs.result + at-follow.result) at-follow.new.changed c.fill.new.self (omega (arith, at-follow.ensures.upper_bound.0)) (omega (arith, at-inputs.ensures, at-follow.ensures.upper_bound.1, few-sources ws c.requires.followable.net)) f.long (c.fill.ensures.after (λ y same. same)) (rw (← at-inputs.ensures) at f.before) (rw (← at-inputs.ensures) at at-follow.ensures.upper_bound.2) }
