-- `counts::follow` meets its contract: the window is followed until it is empty. Assumes nothing.
use mathlib.Core.Path.{refl, ◌∙◌}
use native.Mathlib.Omega.{arith}
use Rattle.counts.proofs.Windows.{followed}
use Rattle.counts.proofs.Circuit.follow.Goals as goal

pub loop-window-init : goal.loop-window-init
loop-window-init c = (refl, c.requires.following, refl)

pub follow_gate-window-requires : goal.follow_gate-window-requires
follow_gate-window-requires c =
    let l = c.loop-window in record { followable = c.requires.followable; gate_lt_stop = c.loop-window-test.true; following = l.invariant.1 }

pub loop-window-smaller : goal.loop-window-smaller
loop-window-smaller c =
    let l = c.loop-window in
    omega (arith, c.follow_gate-window.ensures.flipped_value.1, c.loop-window-test.true, l.invariant.1.after.2)

pub loop-window-preserved : goal.loop-window-preserved
loop-window-preserved c =
    let l = c.loop-window in
    let learnt = c.follow_gate-window.ensures in
    let same = l.invariant.0 in (
      learnt.flipped_value.0 ∙ same,
      learnt.following_2,
      rw same at learnt.flipped_unchanged ∙ l.invariant.2,
    )

pub returns : goal.returns
returns c =
    let l = c.loop-window in
    let a = c.args in
    let ws = a.self.now.area.now in
    let f = l.invariant.1 in
    let w = l.window in
    let all = followed ws a.self.now.words.now c.requires.followable.net w.flipped w.gate w.stop l.changed (omega (arith, c.loop-window-test.false)) f in record { flipped = rw (← l.invariant.2) (rw l.invariant.0 at all); upper_bound = (rw l.invariant.0 at f.after.1, f.after.2, f.stopped) }
