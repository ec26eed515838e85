-- `covers::cover_rows` meets its contract. Assumes nothing.
use Rattle.model.proofs.Keys.{keys-differ, keys-alike}
use Prim.Native.Nat.{ℕ}
use mathlib.Core.Path.{refl, ap, sym, ◌∙◌}
use native.Mathlib.Omega.{arith}
use mathlib.Core.List.{List}
use Rattle.model.specs.Model.{cover_of}
use Rattle.model.specs.Tables.{rest_at}
use Rattle.model.proofs.Runs.{shorter, lines_end}
use Rattle.covers.specs.Cover.{meets, table_of}
use Rattle.covers.proofs.Rows.{rows_end}
use Rattle.covers.proofs.Cover.{cover-over, rows-turn}
use Rattle.covers.proofs.cover_rows.Goals as goal

pub returns-then-ne : goal.returns-then-ne
returns-then-ne c =
    let l = c.loop-at in
    let a = c.args in
    let w = a.words.now in
    let rest = rest_at w.lines.now w.count l.at in
    let over = cover-over w.text.now w.starts.now w.lines.now w.count l.at rest c.loop-at-test.true refl
    (λ e. keys-differ _ _ (sym c.ne.ensures ∙ c.if-ne.true) (c.key_at.ensures ∙ e)) in
    rows_end a.width l.rows _ _ over l.invariant.1

pub overflow_add-at : goal.overflow_add-at
overflow_add-at c =
    let l = c.loop-at in
    let w = c.args.words.now in
    let left = shorter w.text.now w.starts.now w.lines.now w.count l.at c.line_rest.result c.loop-at-test.true c.line_rest.ensures in
    omega (arith, c.requires.0.2, c.loop-at-test.true, left)

pub overflow_add-at-in-loop-at : goal.overflow_add-at-in-loop-at
overflow_add-at-in-loop-at c =
    let l = c.loop-at in
    let w = c.args.words.now in
    let left = shorter w.text.now w.starts.now w.lines.now w.count l.at c.line_rest.result c.loop-at-test.true c.line_rest.ensures in
    omega (arith, c.requires.0.2, c.loop-at-test.true, left)

pub loop-at-smaller : goal.loop-at-smaller
loop-at-smaller c =
    let l = c.loop-at in
    let w = c.args.words.now in
    let left = shorter w.text.now w.starts.now w.lines.now w.count l.at c.line_rest.result c.loop-at-test.true c.line_rest.ensures in
    omega (arith, c.loop-at-test.true, left)

pub loop-at-preserved : goal.loop-at-preserved
loop-at-preserved c =
    let l = c.loop-at in
    let a = c.args in
    let w = a.words.now in
    let left = shorter w.text.now w.starts.now w.lines.now w.count l.at c.line_rest.result c.loop-at-test.true c.line_rest.ensures in
    let met = c.line_rows-rows.ensures ∙ ap (λ (x : List ℕ). table_of a.width (meets x)) c.word.ensures in (
      omega (arith, c.loop-at-test.true, left),
      rows-turn w.text.now w.starts.now w.lines.now w.count l.at c.line_rest.result c.loop-at-test.true c.line_rest.ensures
          a.width l.rows c.line_rows-rows.result _
          (sym c.key_at.ensures ∙ keys-alike _ _ (sym c.ne.ensures ∙ c.if-ne.false)) met l.invariant.1,
    )

pub returns : goal.returns
returns c =
    let l = c.loop-at in
    let a = c.args in
    let w = a.words.now in
    rows_end a.width l.rows _ _ (ap cover_of (lines_end w.text.now w.starts.now w.lines.now w.count l.at c.loop-at-test.false)) l.invariant.1
