-- `rules::gates_sound` meets its contract: what is left to test from gate j on decides. Assumes nothing.
use Prim.Native.Nat.{◌-◌}
use mathlib.Core.Path.{◌≡◌, sym, ap, ◌∙◌}
use native.Mathlib.Omega.{arith}
use Rattle.lists.specs.Lists.{every_from}
use Rattle.lists.proofs.Every.{passes_on, fails, ends}
use Rattle.area.specs.Layout as layout
use Rattle.area.specs.Rules.{gate_sound, gates_sound}
use Rattle.rules.proofs.Parts.{yes, no}
use Rattle.rules.proofs.gates_sound.Goals as goal

pub loop-j-init : goal.loop-j-init
unfolding gates_sound
loop-j-init c =
    let ws = c.args.area.now in
    let all : layout.gates ws ≡ layout.gates ws - 0 = omega arith in
    ap (every_from (gate_sound ws) 0) all

pub returns-then-not-gate_sound : goal.returns-then-not-gate_sound
returns-then-not-gate_sound c =
    let l = c.loop-j in
    sym (l.invariant ∙ fails (gate_sound _) l.j (layout.gates c.args.area.now) (omega arith) (no c.gate_sound.ensures c.if-not-gate_sound.true))

pub loop-j-preserved : goal.loop-j-preserved
loop-j-preserved c =
    let l = c.loop-j in
    l.invariant ∙ passes_on (gate_sound _) l.j (layout.gates c.args.area.now) (omega arith) (yes c.gate_sound.ensures c.if-not-gate_sound.false)

pub returns : goal.returns
returns c =
    let l = c.loop-j in
    sym (l.invariant ∙ ends (gate_sound c.args.area.now) l.j (layout.gates c.args.area.now) (omega arith))
