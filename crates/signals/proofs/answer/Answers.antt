-- `signals::answer` meets its contract: in each arm of the match the count is known, and the last pin chooses between the halves. Assumes nothing.
use Prim.Native.Nat.{ℕ, ◌/◌, ◌%◌, ◌^◌, ◌<◌}
use borrow.Author.Rules.{rules}
use lib.Bits.{bit_xor}
use lib.ListN.{get_or}
use mathlib.Core.Bool.{Bool, cond}
use mathlib.Core.List.{List, [], ◌∷◌}
use mathlib.Core.Path.{◌≡◌, ap, ◌∙◌}
use native.Mathlib.Omega.{arith}
use Rattle.figure.specs.Figure.{answer}
use Rattle.signals.specs.Signals.{lane_count, lane, pin_lanes}
use Rattle.signals.proofs.Answers.{answer-bare, answer-first, by_last, first-lanes, lanes-of}
use Rattle.signals.proofs.answer.Goals.{After-one, After-two, After-three, After-select, Start}
use Rattle.signals.proofs.answer.Goals as goal

-- what the first, the first two and the first three pins choose in lane l
module _ (pins : List ℕ) (l : ℕ) where
  abbrev pin : ℕ → Bool
  pin i = lane l (get_or pins i 0)

  abbrev first : ℕ → Bool
  first table =
      lane l (get_or (0 ∷ bit_xor (get_or pins 0 0) 18_446_744_073_709_551_615 ∷ get_or pins 0 0 ∷ 18_446_744_073_709_551_615 ∷ []) (table % 4) 0)

  abbrev second : ℕ → Bool
  second table = cond (pin 1) (first (table / 2 ^ 2)) (first table)

  abbrev third : ℕ → Bool
  third table = cond (pin 2) (second (table / 2 ^ 4)) (second table)

  first-answers : l < lane_count → (table : ℕ) → first table ≡ answer table (pin 0 ∷ [])
  first-answers less table = answer-first table l (get_or pins 0 0) less

  second-answers : l < lane_count → (table : ℕ) → second table ≡ answer table (pin 0 ∷ pin 1 ∷ [])
  second-answers less table = by_last table (pin 0 ∷ []) (pin 1) (first-answers less (table / 2 ^ 2)) (first-answers less table)

  third-answers : l < lane_count → (table : ℕ) → third table ≡ answer table (pin 0 ∷ pin 1 ∷ pin 2 ∷ [])
  third-answers less table = by_last table (pin 0 ∷ pin 1 ∷ []) (pin 2) (second-answers less (table / 2 ^ 4)) (second-answers less table)

one-is : (c : After-one) (l : ℕ) → lane l c.one.result ≡ first c.args.pins l c.args.table
one-is c l = search (rules, c.one.ensures)

two-is : (c : After-two) (l : ℕ) → l < lane_count → lane l c.two.result ≡ second c.args.pins l c.args.table
two-is c l less = search (rules, c.two.ensures)

three-is : (c : After-three) (l : ℕ) → l < lane_count → lane l c.three.result ≡ third c.args.pins l c.args.table
three-is c l less = search (rules, c.three.ensures)

-- the words as the list that they make, so far as they are used
module _ (s : Start) where
  listed : (l k : ℕ) → answer s.args.table (first-lanes l k s.args.pins) ≡ answer s.args.table (pin_lanes l k s.args.pins)
  listed l k = ap (answer s.args.table) (lanes-of l k s.args.pins s.well_formed.1.1.0.1.0.1)

pub returns-in-0 : goal.returns-in-0
returns-in-0 c l less = rw c.in-0.is (answer-bare c.args.table l 0 less)

pub returns-in-1 : goal.returns-in-1
returns-in-1 c l less =
    rw c.in-1.is (one-is (goal.at.returns-in-1 c).After-one l ∙ first-answers c.args.pins l less c.args.table ∙ listed (goal.at.returns-in-1 c).Start l 1)

pub returns-in-2 : goal.returns-in-2
returns-in-2 c l less =
    rw c.in-2.is (two-is (goal.at.returns-in-2 c).After-two l less ∙ second-answers c.args.pins l less c.args.table ∙ listed (goal.at.returns-in-2 c).Start l 2)

pub returns-in-3 : goal.returns-in-3
returns-in-3 c l less =
    rw c.in-3.is (three-is (goal.at.returns-in-3 c).After-three l less ∙ third-answers c.args.pins l less c.args.table ∙ listed (goal.at.returns-in-3 c).Start l 3)

-- the table's upper and lower half by the first three pins
halves : (c : After-select) (l : ℕ) → l < lane_count
    → (lane l c.three-in_default.result ≡ third c.args.pins l (c.args.table / 2 ^ 8)) × (lane l c.three-in_default-2.result ≡ third c.args.pins l c.args.table)
halves c l less = (search (rules, c.three-in_default.ensures), search (rules, c.three-in_default-2.ensures))

pub returns-in_default : goal.returns-in_default
returns-in_default c l less =
    let all : c.args.count ≡ 4 = omega arith in
    let pins = c.args.pins in
    let half = halves (goal.at.returns-in_default c).After-select l less in
    rw all (
    c.select.ensures l less
    ∙ by_last c.args.table (pin pins l 0 ∷ pin pins l 1 ∷ pin pins l 2 ∷ []) (pin pins l 3)
    (half.0 ∙ third-answers pins l less (c.args.table / 2 ^ 8))
    (half.1 ∙ third-answers pins l less c.args.table)
    ∙ listed (goal.at.returns-in_default c).Start l 4
    )
