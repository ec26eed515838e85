-- `rules::rest_sound` meets its contract: each test that fails decides. Assumes nothing.
use Prim.Native.Nat.{ℕ, ◌+◌, ◌%◌, ◌*◌, ◌^◌}
use mathlib.Core.Bool.{Bool, true, ◌&&◌}
use mathlib.Core.List.{List}
use mathlib.Core.Path.{◌≡◌, sym, ◌∙◌}
use native.Mathlib.Omega.{arith}
use borrow.Author.Tests.{lt-ltb, le-ltb}
use lib.Dec.{ltb}
use Rattle.lists.specs.Lists.{all_below}
use Rattle.area.specs.Layout.{inputs, gates, pattern, reliability_index, output_words}
use Rattle.area.specs.Rules.{gates_sound, rest_sound}
use Rattle.rules.proofs.Facts.{shifted}
use Rattle.rules.proofs.Parts.{yes, no, passed, failed}
use Rattle.rules.proofs.rest_sound.Goals.{After-inputs, Else-area-inputs, Else-not-gates_sound, Else-not-outputs_below, Start}
use Rattle.rules.proofs.rest_sound.Goals as goal

abbrev words : Start → List ℕ
words s = s.args.area.now

abbrev Outputs : List ℕ → Bool
Outputs ws = all_below (inputs ws + gates ws) (output_words ws)

abbrev Pattern : List ℕ → Bool
Pattern ws = ltb (pattern ws) (2 ^ inputs ws)

-- what the tests that passed say
gates-passed : (c : Else-not-gates_sound) → gates_sound (words c.before.before.before.before) ≡ true
gates-passed c = yes c.gates_sound.ensures c.if-not-gates_sound.false

outputs-passed : (c : Else-not-outputs_below) → Outputs (words c.before.before.before.before.before.before) ≡ true
outputs-passed c = yes c.outputs_below.ensures c.if-not-outputs_below.false

past-outputs : (c : Else-not-outputs_below) (b : Bool)
    → gates_sound (words c.before.before.before.before.before.before) && (Outputs (words c.before.before.before.before.before.before) && b) ≡ b
past-outputs c b = passed _ (gates-passed (record { before = c.before.before.before; type_inv = record { area = c.shared_slice_known-1.given } })) ∙ passed b (outputs-passed c)

-- the pattern is held to a shift
shift : (c : After-inputs) → 1 * 2 ^ c.inputs.result % 2 ^ 32 ≡ 2 ^ inputs (words c.before.before.before.before.before.before.before.before)
shift c =
    rw c.inputs.ensures (shifted (inputs (words c.before.before.before.before.before.before.before.before)) c.requires.area_bound)

pattern-passed : (c : Else-area-inputs) → Pattern (words c.before.before.before.before.before.before.before.before.before) ≡ true
pattern-passed c = lt-ltb _ _ (rw (shift (record { before = c.before.before; type_inv = record { area = c.shared_slice_known-2-1.given } })) at c.if-area-inputs.false)

pub returns-then-not-gates_sound : goal.returns-then-not-gates_sound
unfolding rest_sound
returns-then-not-gates_sound c = sym (failed _ (no c.gates_sound.ensures c.if-not-gates_sound.true))

pub returns-then-not-outputs_below : goal.returns-then-not-outputs_below
unfolding rest_sound
returns-then-not-outputs_below c = sym (passed _ (gates-passed (goal.at.returns-then-not-outputs_below c).Else-not-gates_sound) ∙ failed _ (no c.outputs_below.ensures c.if-not-outputs_below.true))

pub returns-then-area-inputs : goal.returns-then-area-inputs
unfolding rest_sound
returns-then-area-inputs c =
    let above = le-ltb _ _ (rw (shift (goal.at.returns-then-area-inputs c).After-inputs) at c.if-area-inputs.true) in
    sym (past-outputs (goal.at.returns-then-area-inputs c).Else-not-outputs_below _ ∙ failed _ above)

pub overflow_cast-result : goal.overflow_cast-result
overflow_cast-result c = omega (arith, c.shared_slice_known-3-1.given reliability_index)

pub returns : goal.returns
unfolding rest_sound
returns c =
    let first = past-outputs (goal.at.returns c).Else-not-outputs_below _ in
    sym (first ∙ passed _ (pattern-passed (goal.at.returns c).Else-area-inputs))
