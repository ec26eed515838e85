-- `bench::open_fitting` meets its contract. Assumes nothing.
use Prim.Native.Nat.{ℕ, ◌≤◌, ◌<◌}
use mathlib.Core.List.{List, ◌++◌}
use mathlib.Core.Path.{◌≡◌, refl, sym, ap, ap₂, ◌∙◌}
use native.Mathlib.Omega.{arith}
use lib.ListN.{length, take, drop}
use lib.Seq.{length-take-le, sets}
use Rattle.lists.proofs.Parts.{sets_first}
use Rattle.area.specs.Layout.{gates, outputs, needed}
use Rattle.area.specs.Sum.{stored_sum}
use Rattle.work.specs.Work.{work_all}
use Rattle.work.proofs.Frame.{same-work-all}
use Rattle.calls.proofs.Judgements.{fine-room, short-room}
use Rattle.bench.specs.Loaded.{loaded_words}
use Rattle.bench.proofs.open_fitting.Goals.{After-needed-needed, Start}
use Rattle.bench.proofs.open_fitting.Goals as goal

abbrev words : Start → List ℕ
words s = s.args.words.now

abbrev area : Start → List ℕ
area s = s.args.area.now

abbrev taken : Start → ℕ
taken s = needed (gates (words s)) (outputs (words s))

-- the words that the netlist takes, as the program counts them
module _ (c : After-needed-needed) where
  counted : c.needed-needed.result ≡ taken c.before.before.before.before.before.before
  counted = c.needed-needed.ensures ∙ ap₂ needed c.gates.ensures c.outputs.ensures

  cut : length (take c.needed-needed.result (words c.before.before.before.before.before.before)) ≡ c.needed-needed.result
  cut = length-take-le c.needed-needed.result (words c.before.before.before.before.before.before) (omega (arith, counted, c.requires.net_sound.long))

-- the lent words once the netlist's words are stored before the others
stored : (c : After-needed-needed) → taken c.before.before.before.before.before.before ≤ length (area c.before.before.before.before.before.before)
    → sets (area c.before.before.before.before.before.before) 0 (take c.needed-needed.result (words c.before.before.before.before.before.before)) ≡ take (taken c.before.before.before.before.before.before) (words c.before.before.before.before.before.before) ++ drop (taken c.before.before.before.before.before.before) (area c.before.before.before.before.before.before)
stored c room =
    sets_first (take c.needed-needed.result (words c.before.before.before.before.before.before)) (area c.before.before.before.before.before.before) c.needed-needed.result (cut c) (omega (arith, counted c))
    ∙ ap (λ (k : ℕ). take k (words c.before.before.before.before.before.before) ++ drop k (area c.before.before.before.before.before.before)) (counted c)

pub returns-then-area-needed : goal.returns-then-area-needed
returns-then-area-needed c =
    let start = (goal.at.returns-then-area-needed c).Start in
    let short : length (area start) < taken start = omega (arith, counted (goal.at.returns-then-area-needed c).After-needed-needed) in
    let e = short-room (gates (words start)) (outputs (words start)) (length (area start)) short in record { value = rw e refl; area_after = rw e refl }

pub slice_bounds-store-end : goal.slice_bounds-store-end
slice_bounds-store-end c = sym (cut (goal.at.slice_bounds-store-end c).After-needed-needed)

pub store-requires : goal.store-requires
store-requires c = omega (arith, cut (goal.at.store-requires c).After-needed-needed)

-- what the area holds once the words are stored
abbrev whole : Start → List ℕ
whole s = take (taken s) (words s) ++ drop (taken s) (area s)

pub work_all-requires : goal.work_all-requires
work_all-requires c =
    rw (c.store.ensures ∙ stored (goal.at.work_all-requires c).After-needed-needed (omega (arith, counted (goal.at.work_all-requires c).After-needed-needed))) (c.requires.by_index (drop (taken (goal.at.work_all-requires c).Start) (area (goal.at.work_all-requires c).Start)))

pub store_sum-requires : goal.store_sum-requires
store_sum-requires c =
    let start = (goal.at.store_sum-requires c).Start in
    let worked = c.work_all.ensures
    ∙ ap work_all (c.store.ensures ∙ stored (goal.at.store_sum-requires c).After-needed-needed (omega (arith, counted (goal.at.store_sum-requires c).After-needed-needed))) in
    rw worked (omega (arith, (same-work-all (whole start)).size, (c.requires.by_index (drop (taken start) (area start))).net.long))

pub returns : goal.returns
unfolding loaded_words
returns c =
    let start = (goal.at.returns c).Start in
    let room : taken start ≤ length (area start) = omega (arith, counted (goal.at.returns c).After-needed-needed) in
    let e = fine-room (gates (words start)) (outputs (words start)) (length (area start)) room in
    let worked = c.work_all.ensures ∙ ap work_all (c.store.ensures ∙ stored (goal.at.returns c).After-needed-needed room) in record { value = rw e refl; area_after = rw e (c.store_sum.ensures ∙ ap₂ stored_sum worked c.requires.sum_value) }
