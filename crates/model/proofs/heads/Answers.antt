-- `model::heads` meets its contract. Assumes nothing.
use mathlib.Core.Path.{sym, ◌∙◌}
use native.Mathlib.Omega.{arith}
use Rattle.statements.proofs.Walking.{stepped}
use Rattle.model.proofs.Heading.{more, turn, finish}
use Rattle.model.proofs.heads.Goals as goal

pub enter_head-count-requires : goal.enter_head-count-requires
enter_head-count-requires c =
    let l = c.loop-line in
    let w = c.args.words.now in
    let s = stepped l.invariant.2 c.in-Some.ensures.steps in
    let h = rw (sym s.here) at l.invariant.4 in
    record {
      count_in_bounds = λ e. omega (arith, l.invariant.3, c.requires.n_in_bounds, more w.text.now w.starts.now w.lines.now w.count l.heads l.count _ _ s.inside s.words h (rw c.key_at.ensures at e));
      k_bound = (omega (arith, c.requires.places.2, s.inside), omega (arith, c.requires.places.2, s.inside, h.few));
    }

pub loop-line-preserved : goal.loop-line-preserved
loop-line-preserved c =
    let l = c.loop-line in
    let w = c.args.words.now in
    let s = stepped l.invariant.2 c.in-Some.ensures.steps in
    let h = rw (sym s.here) at l.invariant.4 in
    let e = c.enter_head-count.ensures in
    let t = turn w.text.now w.starts.now w.lines.now w.count l.heads l.count _ _ s.inside s.words h
    (omega (arith, l.invariant.3, c.requires.n_in_bounds)) c.key_at.result c.key_at.ensures _ _ e.heads_after e.value in
    (rw (s.goes_on.count, s.goes_on.numbers) c.requires.places.1, tt, s.goes_on, t.0 ∙ l.invariant.3, rw s.next t.1)

pub returns : goal.returns
returns c =
    let l = c.loop-line in
    let w = c.args.words.now in
    let past = c.in-None.ensures.steps.2 in
    let f = finish w.text.now w.starts.now w.lines.now w.count l.heads l.count l.line-iterator.at (omega (arith, l.invariant.2.count, past)) l.invariant.4 in
    record { value = f.0; heads = f.1; heads_len_unchanged = l.invariant.3 }
