-- `counts::follow_gate` meets its contract: the gate does not change, or it is stored and its readers come into the window. Assumes nothing.
use Prim.Native.Nat.{◌+◌, ◌<◌}
use mathlib.Core.Path.{refl}
use native.Mathlib.Omega.{arith}
use Rattle.area.specs.Layout as layout
use Rattle.counts.specs.Counts.{span_at}
use Rattle.counts.proofs.Windows.{pass-unchanged, elsewhere, follow-next, next-later}
use Rattle.counts.proofs.Circuit.follow_gate.Goals as goal

pub difference-word-requires : goal.difference-word-requires
difference-word-requires c =
    let w = c.args.window in
    let inside : w.gate < layout.gates c.args.self.now.area.now = omega (arith, c.requires.gate_lt_stop, c.requires.following.after.2) in (c.requires.followable, inside)

pub returns-then-word-eq0 : goal.returns-then-word-eq0
returns-then-word-eq0 c =
    let at-difference = c.difference-word in
    let a = c.args in
    let w = a.window in record {
      flipped_value = (refl, omega arith);
      following_2 = pass-unchanged a.self.now.area.now a.self.now.words.now c.requires.followable.net w.flipped w.gate w.stop a.changed.now at-difference.result c.requires.following
          c.if-word-eq0.true at-difference.ensures;
      flipped_unchanged = refl;
    }

pub returns : goal.returns
returns c =
    let at-difference = c.difference-word in
    let at-inputs = c.inputs in
    let a = c.args in
    let w = a.window in
    let ws = a.self.now.area.now in
    let f = c.requires.following in
    let reads = c.requires.followable.reads in
    let inside : w.gate < layout.gates ws = omega (arith, c.requires.gate_lt_stop, f.after.2) in
    let source = layout.inputs ws + w.gate in rw (c.next_gate.ensures, c.max.ensures, at-inputs.ensures) (record {
      flipped_value = (refl, next-later w.gate w.stop ((span_at a.self.now.spans.now source).first));
      following_2 = follow-next ws a.self.now.words.now c.requires.followable.net w.flipped a.self.now.spans.now reads w.gate w.stop at-difference.result
          a.changed.now f inside c.requires.gate_lt_stop at-difference.ensures;
      flipped_unchanged = elsewhere ws a.self.now.words.now c.requires.followable.net w.flipped a.self.now.spans.now reads w.gate w.stop at-difference.result
          a.changed.now f inside c.requires.gate_lt_stop at-difference.ensures (layout.inputs ws + w.flipped) (λ e. omega (arith, f.after.0));
    })
