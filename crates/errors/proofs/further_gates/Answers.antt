-- `errors::further_gates` meets its contract: after i turns those of the first i sources are counted. Assumes nothing.
use Prim.Native.Nat.{ℕ, ◌+◌}
use mathlib.Core.Path.{◌≡◌, refl, sym, ap, ◌∙◌}
use native.Mathlib.Nat.{add-zero}
use native.Mathlib.Omega.{arith}
use lib.Dec.{leb}
use lib.ListN.{get_or}
use borrow.Author.Tests.{le-leb, lt-leb}
use Rattle.lists.proofs.Sums.{sum_more}
use Rattle.figure.specs.Figure.{bit_of}
use Rattle.errors.proofs.Charges.{gates-among}
use Rattle.errors.proofs.further_gates.Goals.{then-inputs-index, else-inputs-index}
use Rattle.errors.proofs.further_gates.Goals as goal

pub loop-i-init : goal.loop-i-init
loop-i-init c = (omega arith, refl)

pub loop-i-preserved : goal.loop-i-preserved
loop-i-preserved c =
    let l = c.loop-i in
    let a = c.args in
    let read = c.index.ensures in
    let F : ℕ → ℕ = λ k. bit_of (leb a.inputs (get_or a.area.now (a.start + k) 0)) in
    elim c.if-inputs-index.branch [
      | then-inputs-index w ↦
          let one : F l.i ≡ 1 = ap bit_of (le-leb a.inputs (get_or a.area.now (a.start + l.i) 0) (omega (arith, w.if-inputs-index.true, read))) in
          let more = sum_more F l.i l.gates 1 l.invariant.1 (sym one) in
          (omega (arith, w.gates-is), w.gates-is ∙ more)
      | else-inputs-index w ↦
          let none : F l.i ≡ 0 = ap bit_of (lt-leb a.inputs (get_or a.area.now (a.start + l.i) 0) (omega (arith, w.if-inputs-index.false, read))) in
          let more = sum_more F l.i l.gates 0 l.invariant.1 (sym none) in
          (omega (arith, w.gates-is), w.gates-is ∙ sym (add-zero l.gates) ∙ more)
    ]

pub returns : goal.returns
returns c =
    let l = c.loop-i in
    let a = c.args in
    let all : l.i ≡ a.many = omega arith in
    let whole = gates-among a.inputs a.area.now a.start a.many c.requires.0 in
    (omega (arith, whole, rw all at l.invariant.1, c.saturating_sub.ensures), omega (arith, l.invariant.0, all, c.saturating_sub.ensures))
