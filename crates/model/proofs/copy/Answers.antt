-- `model::copy` meets its contract: after i turns the first i entries are stored. Assumes nothing.
use Prim.Native.Nat.{◌+◌, ◌<◌, ◌≤◌}
use mathlib.Core.Path.{ap, sym, ◌∙◌}
use native.Mathlib.Omega.{arith}
use lib.ListN.{length, set, take, drop, length-take, length-drop, length-set}
use lib.Seq.{sets, take_all}
use Rattle.lists.proofs.Parts.{part_at, sets-turn}
use Rattle.model.proofs.copy.Goals as goal

pub loop-i-preserved : goal.loop-i-preserved
loop-i-preserved c =
    let l = c.loop-i in
    let a = c.args in
    let part = take a.many (drop a.start a.from.now) in
    let low : l.i < length (take a.many (drop a.start a.from.now)) = simp (length-take, length-drop) (omega arith) in (
      simp length-set l.invariant.0,
      ap (set l.table (a.count + l.i)) (sym (part_at a.from.now a.start a.many l.i (omega arith)))
          ∙ sets-turn part a.table.now l.table a.count l.i low l.invariant.1,
    )

pub returns : goal.returns
returns c =
    let l = c.loop-i in
    let a = c.args in
    let part = take a.many (drop a.start a.from.now) in
    let long : length (take a.many (drop a.start a.from.now)) ≤ l.i = simp (length-take, length-drop) (omega arith) in
    l.invariant.1 ∙ ap (sets a.table.now a.count) (take_all l.i part long)
