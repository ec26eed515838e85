-- `live::add_reads` meets its contract: after i turns the first i reads have been added. Assumes nothing.
use Prim.Native.Nat.{◌<◌}
use mathlib.Core.Path.{◌≡◌, sym, ◌∙◌}
use native.Mathlib.Nat.{add-zero}
use native.Mathlib.Omega.{arith}
use lib.ListN.{get_or, take, drop, length-set, length-take, length-drop}
use lib.Seq.{get_or-drop}
use Rattle.area.specs.Layout.{most_sources}
use Rattle.lists.proofs.Counts.{count-length, count_turn}
use Rattle.live.proofs.add_reads.Goals as goal

pub loop-i-init : goal.loop-i-init
loop-i-init c = (c.requires.counts.0.long, λ s. sym (add-zero (get_or c.args.readers.now s 0)))

pub offset_bounds-readers-source : goal.offset_bounds-readers-source
offset_bounds-readers-source c = omega (arith, c.requires.by_index c.loop-i.i (omega arith))

pub bounds-readers-source : goal.bounds-readers-source
bounds-readers-source c = omega (arith, c.requires.by_index c.loop-i.i (omega arith))

pub overflow_add-readers : goal.overflow_add-readers
overflow_add-readers c =
    let l = c.loop-i in
    let a = c.args in
    let pre = c.requires in
    let reads = drop a.start a.area.now in
    let source = c.index-source.result in
    omega (
      arith,
      l.invariant.1 source,
      count-length source (take l.i reads),
      length-take l.i reads,
      pre.counts.0.few source,
      pre.counts.1,
    )

pub bounds-readers-source-in-loop-i : goal.bounds-readers-source-in-loop-i
bounds-readers-source-in-loop-i c = omega (arith, c.requires.by_index c.loop-i.i (omega arith))

pub loop-i-preserved : goal.loop-i-preserved
loop-i-preserved c =
    let l = c.loop-i in
    let a = c.args in
    let pre = c.requires in
    let reads = drop a.start a.area.now in
    let source = c.index-source.result in
    let below : source < most_sources = omega (arith, pre.by_index l.i (omega arith)) in (
      simp length-set l.invariant.0,
      count_turn
          a.readers.now
          l.readers
          reads
          l.i
          source
          (omega (arith, pre.many_in_bounds, length-drop a.start a.area.now))
          (get_or-drop a.start a.area.now l.i 0 ∙ sym c.index-source.ensures)
          (omega (arith, l.invariant.0))
          l.invariant.1,
    )

pub returns : goal.returns
returns c =
    let l = c.loop-i in
    let end : l.i ≡ c.args.many = omega arith in
    record { long = l.invariant.0; each = rw end at l.invariant.1 }
