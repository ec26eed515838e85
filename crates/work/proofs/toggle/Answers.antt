-- `work::toggle` meets its contract. Assumes nothing.
use Prim.Native.Nat.{ℕ, ◌-◌}
use mathlib.Core.List.{List}
use mathlib.Core.Path.{◌≡◌, sym, ap, subst, ◌∙◌}
use native.Mathlib.Omega.{arith}
use lib.ListN.{length, set}
use Rattle.area.specs.Layout.{gates, pattern_index}
use Rattle.area.specs.Rules.{Workable}
use Rattle.work.specs.Work.{toggle_words}
use Rattle.work.proofs.Frame.{marked-walk, toggle-kept}
use Rattle.work.proofs.Pattern.{pattern-small, invert-fits}
use Rattle.work.proofs.Sound.{workable-store-pattern, workable-walk}
use Rattle.work.proofs.Loops.{toggle-is}
use Rattle.work.proofs.toggle.Goals.{After-inverted_bit-pattern, After-slice_known-4-1}
use Rattle.work.proofs.toggle.Goals as goal

-- the area with its pattern stored
module _ (c : After-inverted_bit-pattern) where
  abbrev stored : List ℕ
  stored = set c.args.area.now pattern_index c.inverted_bit-pattern.result

  stored-workable : Workable stored
  stored-workable =
      subst (λ (q : ℕ). Workable (set c.args.area.now pattern_index q)) (sym c.inverted_bit-pattern.ensures)
      (workable-store-pattern c.args.area.now _ c.requires.workable
      (invert-fits _ c.args.input _ c.requires.input_bound c.requires.workable.figures.pattern_fits))

-- what the steps come to
left : (c : After-slice_known-4-1)
    → c.work_reliability.new.area
    ≡ toggle_words c.args.area.now
    c.args.input
left c =
    c.work_reliability.ensures
    ∙ toggle-is c.args.area.now c.mark_of.result c.work_marked.new.area c.args.input
    c.inverted_bit-pattern.result
    c.inverted_bit-pattern.ensures
    c.mark_of.ensures
    c.work_marked.ensures

pub inverted_bit-pattern-requires : goal.inverted_bit-pattern-requires
inverted_bit-pattern-requires c =
    (omega (arith, c.requires.workable.net.inputs_fit, c.requires.input_bound), pattern-small c.args.area.now c.requires.workable)

pub work_marked-requires : goal.work_marked-requires
work_marked-requires c = record { workable = stored-workable (goal.at.work_marked-requires c).After-inverted_bit-pattern; from_bound = omega arith }

pub work_reliability-requires : goal.work_reliability-requires
work_reliability-requires c =
    let there = (goal.at.work_reliability-requires c).After-inverted_bit-pattern in
    rw c.work_marked.ensures
    (workable-walk (marked-walk (stored there) c.mark_of.result 0 (gates (stored there) - 0)) (omega arith) (stored-workable there))

pub shape_of-area : goal.shape_of-area
shape_of-area c = ap length (left c) ∙ (toggle-kept _ _).size

pub returns : goal.returns
returns c = left c
