-- `live::add_gate` meets its contract: the test is whether the gate is live, and its used pins stand where the words have them. Assumes nothing.
use Prim.Native.Nat.{◌+◌}
use mathlib.Core.Path.{◌≡◌, sym, ◌∙◌}
use native.Mathlib.Omega.{arith}
use lib.ListN.{get_or}
use Rattle.area.specs.Layout.{inputs, flip, used_pins}
use Rattle.area.proofs.Words.{gate-inside, used-at, pin-below, few-sources}
use Rattle.live.proofs.Count.{live-added, dead-added}
use Rattle.live.proofs.Counted.{flip-live, flip-dead}
use Rattle.live.proofs.add_gate.Goals as goal

pub returns-then-readers-source-lt1 : goal.returns-then-readers-source-lt1
returns-then-readers-source-lt1 c =
    let a = c.args in
    let ws = a.area.now in
    let xs = a.readers.now in
    let dead : get_or xs (inputs ws + a.gate) 0 ≡ 0 = rw (← c.inputs.ensures) (omega (arith, c.if-readers-source-lt1.true)) in record { value = sym (flip-dead (get_or xs (inputs ws + a.gate) 0) (flip ws a.gate) dead); added = dead-added (get_or xs (inputs ws + a.gate) 0) (used_pins ws a.gate) xs dead c.requires.counts.long }

pub add_reads-requires : goal.add_reads-requires
add_reads-requires c =
    let a = c.args in
    let ws = a.area.now in
    let sound = c.requires.net_sound.0 in
    let inside = c.requires.net_sound.1 in
    let few = (sound.gate a.gate inside).few_pins in record { many_in_bounds = omega (arith, gate-inside ws sound a.gate inside); by_index = λ i l. rw c.pins_index.ensures (omega (arith, pin-below ws sound a.gate inside i (omega arith), few-sources ws sound)); counts = (c.requires.counts, omega arith) }

pub returns : goal.returns
returns c =
    let a = c.args in
    let ws = a.area.now in
    let xs = a.readers.now in
    let some = rw c.inputs.ensures at c.if-readers-source-lt1.false in record {
      value = c.flip-flip.ensures ∙ sym (flip-live (get_or xs (inputs ws + a.gate) 0) (flip ws a.gate) (omega (arith, some)));
      added = live-added (get_or xs (inputs ws + a.gate) 0) (used_pins ws a.gate) xs c.add_reads.new.readers (omega (arith, some))
          (rw (c.pins_index.ensures, c.pin_count.ensures, used-at ws c.requires.net_sound.0 a.gate c.requires.net_sound.1)
          at c.add_reads.ensures);
    }
