-- `model::collect` meets its contract. Assumes nothing.
use Rattle.statements.specs.declared.Keyword.{Keyword}
use mathlib.Core.Path.{◌≡◌, ap, sym, ◌∙◌}
use native.Mathlib.Omega.{arith}
use Rattle.statements.proofs.Walking.{stepped}
use Rattle.model.specs.Tables.{run_many, key_in}
use Rattle.model.proofs.Runs.{shorter, run_inside}
use Rattle.model.proofs.Collecting.{roomy, turn, finish}
use Rattle.model.proofs.collect.Goals as goal

pub run_start-requires : goal.run_start-requires
run_start-requires c =
    let l = c.loop-line in
    let w = c.args.words.now in
    let s = stepped l.invariant.2 c.in-Some.ensures.steps in
    omega (arith, shorter w.text.now w.starts.now w.lines.now w.count _ _ s.inside s.words, s.inside, c.requires.places.2)

pub enter-count-requires : goal.enter-count-requires
enter-count-requires c =
    let l = c.loop-line in
    let a = c.args in
    let w = a.words.now in
    let s = stepped l.invariant.2 c.in-Some.ensures.steps in
    let h = rw (sym s.here) at l.invariant.3 in
    let many : c.run_many-many.result ≡ run_many (key_in w c.in-Some.line.first) a.wanted c.in-Some.line.rest =
    c.run_many-many.ensures ∙ ap (λ (x : Keyword). run_many x a.wanted c.in-Some.line.rest) c.key_at.ensures in
    let stays = run_inside w.text.now w.starts.now w.lines.now w.count _ _ s.inside s.words a.wanted in
    let room = roomy w.text.now w.starts.now w.lines.now w.count a.wanted _ _ a.from l.names l.numbers l.count _ h _ s.inside s.words in
    let start = c.run_start.ensures in
    record {
      many_in_bounds = (omega (arith, stays, many, start, c.requires.places.0.within), omega (arith, stays, many, start, c.requires.places.1));
      many_in_bounds_2 = (omega (arith, room, many, c.requires.n_in_bounds, h.long), omega (arith, room, many, c.requires.n_in_bounds, c.requires.names_in_bounds, h.wide));
      inside = λ i lt. c.requires.places.0.inside _ (omega (arith, stays, many, start));
    }

pub loop-line-preserved : goal.loop-line-preserved
loop-line-preserved c =
    let l = c.loop-line in
    let a = c.args in
    let w = a.words.now in
    let s = stepped l.invariant.2 c.in-Some.ensures.steps in
    let h = rw (sym s.here) at l.invariant.3 in
    let many : c.run_many-many.result ≡ run_many (key_in w c.in-Some.line.first) a.wanted c.in-Some.line.rest =
    c.run_many-many.ensures ∙ ap (λ (x : Keyword). run_many x a.wanted c.in-Some.line.rest) c.key_at.ensures in (
      rw (s.goes_on.count, s.goes_on.numbers) c.requires.places.1,
      tt,
      s.goes_on,
      rw s.next (turn w.text.now w.starts.now w.lines.now w.count a.wanted _ _ a.from l.names l.numbers l.count _ h _ s.inside s.words _ _ c.enter-count.result
          (rw (c.run_start.ensures, many) at c.enter-count.ensures)),
    )

pub returns : goal.returns
returns c =
    let l = c.loop-line in
    let a = c.args in
    let w = a.words.now in
    finish w.text.now w.starts.now w.lines.now w.count a.wanted _ _ a.from l.names l.numbers l.count _ l.invariant.3 (omega (arith, l.invariant.2.count, c.in-None.ensures.steps.2.0))
