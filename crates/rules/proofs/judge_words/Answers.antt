-- `rules::judge_words` meets its contract: each test that fails decides, in the order of the refusals. Assumes nothing.
use Prim.Native.Nat.{ℕ}
use mathlib.Core.Bool.{Bool, true}
use mathlib.Core.List.{List}
use mathlib.Core.Path.{◌≡◌, sym, ◌∙◌}
use native.Mathlib.Omega.{arith}
use borrow.Author.Tests.{le-leb, lt-leb}
use Rattle.area.specs.Layout.{inputs, gates, outputs, needed}
use Rattle.area.specs.Rules.{counts_in_range, rest_sound, words_judgement}
use Rattle.refusal.specs.Judgement.{refuse_unless}
use Rattle.rules.proofs.Facts.{counts_hold}
use Rattle.rules.proofs.Parts.{yes, no, none, last-refused, next, first-refused}
use Rattle.rules.proofs.judge_words.Goals.{After-counts_in_range, After-needed, Else-area-needed, Else-not-counts_in_range}
use Rattle.rules.proofs.judge_words.Goals as goal
use Rattle.refusal.specs.declared.Cause.TheVariants.{AreaTooShort, AreaRule}

-- the test of the counts that words hold
abbrev Counts : List ℕ → Bool
Counts ws = counts_in_range (inputs ws) (gates ws) (outputs ws)

abbrev Needed : List ℕ → ℕ
Needed ws = needed (gates ws) (outputs ws)

-- what the calls say of them
counted : (c : After-counts_in_range) → c.counts_in_range.result ≡ Counts c.args.area.now
counted c = rw (c.inputs.ensures, c.gates-gates.ensures, c.outputs-outputs.ensures) at c.counts_in_range.ensures

in-range : (c : Else-not-counts_in_range) → Counts c.args.area.now ≡ true
in-range c = yes (counted (record { before = c.before.before; type_inv = record { area = c.shared_slice_known-1.given } })) c.if-not-counts_in_range.false

room-is : (c : After-needed) → c.needed.result ≡ Needed c.args.area.now
room-is c =
    rw (c.gates-gates.ensures, c.outputs-outputs.ensures) at c.needed.ensures

-- past the first three refusals
abbrev Past : List ℕ → Type 0
Past ws = words_judgement ws ≡ refuse_unless (rest_sound ws) AreaRule 0

past_room : (c : Else-area-needed) → Past c.args.area.now
unfolding words_judgement
past_room c =
    let head = next AreaTooShort 0 _ (le-leb _ _ c.if-area-lt-HEAD_WORDS.false) in
    head ∙ next AreaRule 0 _ (in-range (record { before = c.before.before.before; type_inv = record { area = c.shared_slice_known-1.given } })) ∙ next AreaTooShort 0 _ (le-leb _ _ (rw (room-is (record { before = c.before.before; type_inv = record { area = c.shared_slice_known-1.given } })) at c.if-area-needed.false))

pub returns-then-area-lt-HEAD_WORDS : goal.returns-then-area-lt-HEAD_WORDS
unfolding words_judgement
returns-then-area-lt-HEAD_WORDS c = sym (first-refused AreaTooShort 0 _ (lt-leb _ _ c.if-area-lt-HEAD_WORDS.true))

pub returns-then-not-counts_in_range : goal.returns-then-not-counts_in_range
unfolding words_judgement
returns-then-not-counts_in_range c = sym (next AreaTooShort 0 _ (le-leb _ _ c.if-area-lt-HEAD_WORDS.false) ∙ first-refused AreaRule 0 _ (no (counted (goal.at.returns-then-not-counts_in_range c).After-counts_in_range) c.if-not-counts_in_range.true))

pub needed-requires : goal.needed-requires
needed-requires c =
    let fit = counts_hold _ _ _ (in-range c) in
    (omega arith, omega arith)

pub returns-then-area-needed : goal.returns-then-area-needed
unfolding words_judgement
returns-then-area-needed c =
    let head = next AreaTooShort 0 _ (le-leb _ _ c.if-area-lt-HEAD_WORDS.false) in
    sym (head ∙ next AreaRule 0 _ (in-range (goal.at.returns-then-area-needed c).Else-not-counts_in_range) ∙ first-refused AreaTooShort 0 _ (lt-leb _ _ (rw (room-is (goal.at.returns-then-area-needed c).After-needed) at c.if-area-needed.true)))

pub rest_sound-requires : goal.rest_sound-requires
rest_sound-requires c =
    let fit = counts_hold _ _ _ (in-range (goal.at.rest_sound-requires c).Else-not-counts_in_range) in record { area_in_bounds = rw (room-is (goal.at.rest_sound-requires c).After-needed) at c.if-area-needed.false; area_bound = fit.0; area_bound_2 = (fit.1, fit.3) }

pub returns-then-not-rest_sound : goal.returns-then-not-rest_sound
returns-then-not-rest_sound c = sym (past_room (goal.at.returns-then-not-rest_sound c).Else-area-needed ∙ last-refused AreaRule 0 (no c.rest_sound.ensures c.if-not-rest_sound.true))

pub returns : goal.returns
returns c = sym (past_room (goal.at.returns c).Else-area-needed ∙ none AreaRule 0 (yes c.rest_sound.ensures c.if-not-rest_sound.false))
