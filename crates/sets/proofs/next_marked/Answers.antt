-- `sets::next_marked` meets its contract: from the gate reached on, each has the lowest marked one. Assumes nothing.
use Prim.Native.Nat.{ℕ, ◌+◌, ◌-◌, ◌<◌}
use mathlib.Core.Path.{◌≡◌, sym, ap, subst, ◌∙◌}
use native.Mathlib.Nat.{le_refl}
use native.Mathlib.Omega.{arith}
use lib.ListN.{get_or, replicate, get_or-replicate}
use lib.Seq.{get_or-set_same}
use Rattle.area.specs.Layout.{most_sources}
use Rattle.sets.specs.Branches.{NextMarked}
use Rattle.sets.proofs.Next.{marked-none, marked_more}
use Rattle.sets.proofs.next_marked.Goals.{In-loop-gate}
use Rattle.sets.proofs.next_marked.Goals as goal

pub loop-gate-init : goal.loop-gate-init
loop-gate-init s =
    let a = s.args in
    let all : a.next.now ≡ replicate most_sources a.gates = s.requires.2 in (
      le_refl a.gates,
      rw all (marked-none a.marks.now a.inputs a.gates s.requires.1),
      rw all (sym (get_or-replicate most_sources a.gates a.gates 0 (omega (arith, s.requires.1)))),
    )

-- the gate before the one reached
module _ (c : In-loop-gate) where
  fits : c.args.inputs + (c.loop-gate.gate - 1) < most_sources
  fits = omega (arith, c.loop-gate.invariant.0, c.requires.0, c.requires.1)

pub overflow_add-inputs : goal.overflow_add-inputs
overflow_add-inputs c = omega (arith, fits c)

pub lowest_from-after-requires : goal.lowest_from-after-requires
lowest_from-after-requires c = omega (arith, fits c)

pub offset_bounds-next-gate : goal.offset_bounds-next-gate
offset_bounds-next-gate c =
    omega (arith, c.loop-gate.invariant.0, c.requires.1)

pub bounds-next-gate : goal.bounds-next-gate
bounds-next-gate c =
    omega (arith, c.loop-gate.invariant.0, c.loop-gate.invariant.1.long, c.requires.1)

pub loop-gate-preserved : goal.loop-gate-preserved
loop-gate-preserved c =
    let l = c.loop-gate in
    let a = c.args in
    let after : l.gate ≡ l.gate - 1 + 1 = omega arith in (
      omega (arith, l.invariant.0),
      marked_more a.marks.now l.next a.inputs a.gates (l.gate - 1) c.lowest_from-after.result c.requires.1 (omega (arith, l.invariant.0))
          (subst (NextMarked a.marks.now l.next a.inputs a.gates) after l.invariant.1)
          c.lowest_from-after.ensures.0
          (λ zero. c.lowest_from-after.ensures.1 zero ∙ l.invariant.2 ∙ ap (λ (k : ℕ). get_or l.next k 0) after),
      sym (get_or-set_same l.next (l.gate - 1) c.lowest_from-after.result 0 (omega (arith, l.invariant.0, l.invariant.1.long, c.requires.1))),
    )

pub returns : goal.returns
returns c =
    let l = c.loop-gate in
    let end : l.gate ≡ 0 = omega arith in
    rw end at l.invariant.1
