-- `comparison::count_patterns` meets its contract: after each turn the patterns so far are counted. Assumes nothing.
use Prim.Native.Nat.{◌<◌}
use mathlib.Core.Path.{◌≡◌, ap, ap₂, ◌∙◌}
use native.Mathlib.Omega.{arith}
use lib.ListN.{length, get_or, take, length-take, length-append}
use Rattle.std.proofs.Common.{get_or-take}
use Rattle.std.proofs.lemmas.Slice.Zip.{zip_turn, zip_end}
use Rattle.std.specs.Slice.Iter.{iter_rest}
use Rattle.std.specs.Iterator.Adapters.{zip_first, zip_second}
use Rattle.comparison.specs.declared.Verdict.TheVariants.{First, Second, Undecided}
use Rattle.comparison.specs.Standing.{verdict, how_often, same_verdict}
use Rattle.comparison.proofs.Deciding.{counts-are, one-counted, at_most_one}
use Rattle.comparison.proofs.count_patterns.Invariants.{verdict_at}
use Rattle.comparison.proofs.count_patterns.Goals.{In-Some, Start, After-into_iter-one-iterator}
use Rattle.comparison.proofs.count_patterns.Goals as goal

-- both parts are as long as there are patterns
module _ (s : Start) where
  first_long : length (take s.args.count s.args.first.now) ≡ s.args.count
  first_long = omega (arith, length-take s.args.count s.args.first.now, s.requires.0)

  second_long : length (take s.args.count s.args.second.now) ≡ s.args.count
  second_long = omega (arith, length-take s.args.count s.args.second.now, s.requires.1)

pub judge-requires : goal.judge-requires
judge-requires c = c.requires.3

-- the parts are gone through together
module _ (c : After-into_iter-one-iterator) where
  first_is : iter_rest (zip_first c.into_iter-one-iterator.result) ≡ take c.args.count c.args.first.now
  first_is = cc

  second_is : iter_rest (zip_second c.into_iter-one-iterator.result) ≡ take c.args.count c.args.second.now
  second_is = cc

-- a turn's two figures
module _ (c : In-Some) (long : length (take c.args.count c.args.first.now) ≡ c.args.count)
    (first : iter_rest (zip_first c.into_iter-one-iterator.result) ≡ take c.args.count c.args.first.now)
    (second : iter_rest (zip_second c.into_iter-one-iterator.result) ≡ take c.args.count c.args.second.now) where
  turn : (length c.loop-one.yielded < c.args.count) × (c.in-Some.one.now ≡ get_or c.args.first.now (length c.loop-one.yielded) 0)
      × (c.in-Some.other.now ≡ get_or c.args.second.now (length c.loop-one.yielded) 0)
  turn =
      let n = length c.loop-one.yielded in
      let t = zip_turn (take c.args.count c.args.first.now) (take c.args.count c.args.second.now) c.loop-one.yielded c.into_iter-one-iterator.result
      c.loop-one.one-iterator c.next.new.self c.next.result first second c.loop-one.yielded_by (c.in-Some.one, c.in-Some.other) c.in-Some.is
      c.next.ensures.steps in
      let less : n < c.args.count = omega (arith, t.0, long) in (
        less,
        t.2 0 ∙ get_or-take c.args.count c.args.first.now n 0 less,
        t.3 0 ∙ get_or-take c.args.count c.args.second.now n 0 less,
      )

pub count_one-counts-requires : goal.count_one-counts-requires
count_one-counts-requires c =
    let few = c.loop-one.invariant.2 in
    let here = turn (goal.at.count_one-counts-requires c).In-Some (first_long (goal.at.count_one-counts-requires c).Start) (first_is (goal.at.count_one-counts-requires c).After-into_iter-one-iterator) (second_is (goal.at.count_one-counts-requires c).After-into_iter-one-iterator) in (
      omega (arith, few.0, here.0, c.requires.2),
      omega (arith, few.1, here.0, c.requires.2),
      omega (arith, few.2, here.0, c.requires.2),
    )

pub loop-one-preserved : goal.loop-one-preserved
loop-one-preserved c =
    let a = c.args in
    let l = c.loop-one in
    let n = length l.yielded in
    let here = turn (goal.at.loop-one-preserved c).In-Some (first_long (goal.at.loop-one-preserved c).Start) (first_is (goal.at.loop-one-preserved c).After-into_iter-one-iterator) (second_is (goal.at.loop-one-preserved c).After-into_iter-one-iterator) in
    let f = verdict_at a.errors a.first.now a.second.now in
    let w = c.judge.result in
    let e : w ≡ f n = c.judge.ensures ∙ ap₂ (verdict a.errors) here.1 here.2 in
    let more = c.count_one-counts.ensures in (
      l.invariant.0,
      l.invariant.1,
      rw length-append (
        omega (arith, l.invariant.2.0, more.0, at_most_one (same_verdict First w)),
        omega (arith, l.invariant.2.1, more.1, at_most_one (same_verdict Second w)),
        omega (arith, l.invariant.2.2, more.2, at_most_one (same_verdict Undecided w)),
      ),
      rw length-append (more.0 ∙ one-counted First f n _ w e l.invariant.3),
      rw length-append (more.1 ∙ one-counted Second f n _ w e l.invariant.4),
      rw length-append (more.2 ∙ one-counted Undecided f n _ w e l.invariant.5),
    )

pub returns : goal.returns
returns c =
    let s = (goal.at.returns c).Start in
    let a = c.args in
    let l = c.loop-one in
    let first = first_is (goal.at.returns c).After-into_iter-one-iterator in
    let second = second_is (goal.at.returns c).After-into_iter-one-iterator in
    let end = zip_end (take a.count a.first.now) (take a.count a.second.now) l.yielded c.into_iter-one-iterator.result l.one-iterator c.next.new.self
    c.next.result first second l.yielded_by c.in-None.is c.next.ensures.steps in
    let all : length l.yielded ≡ a.count = omega (arith, end, first_long s, second_long s) in
    let f = verdict_at a.errors a.first.now a.second.now in
    counts-are l.counts f a.count (l.invariant.3 ∙ ap (how_often First f) all) (l.invariant.4 ∙ ap (how_often Second f) all)
    (l.invariant.5 ∙ ap (how_often Undecided f) all)
