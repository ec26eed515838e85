-- `folds::failures` meets its contract. Assumes nothing.
use Prim.Native.Nat.{◌<◌}
use mathlib.Core.Path.{ap₂, ◌∙◌}
use native.Mathlib.Omega.{arith}
use lib.ListN.{get_or-replicate}
use Rattle.figure.specs.Figure.{gate_step}
use Rattle.rounding.specs.Rounding.{units_in_one}
use Rattle.rows.specs.Rows.{row_length}
use Rattle.folds.proofs.Last.{last_fits, lowest-before, right-for, failure-made, flip-made}
use Rattle.folds.proofs.failures.Goals as goal

pub returns-then-end-eq0 : goal.returns-then-end-eq0
returns-then-end-eq0 c l less =
    let at-flip = c.flip-flip in
    let a = c.args in
    get_or-replicate row_length l at-flip.result 0 less
    ∙ at-flip.ensures
    ∙ flip-made a.area.now a.rows.now a.words.now a.gate c.requires.rows_ready.0 a.shift c.requires.rows_ready.1 c.requires.right_here l less c.requires.rows_ready.2
    (rw c.if-end-eq0.true at c.failing_end-end.ensures)

pub last_values-requires : goal.last_values-requires
last_values-requires c =
    let at-failing-end = c.failing_end-end in
    let at-if1 = c.if-end-eq0 in
    let at-lowest-failing = c.lowest_failing-lowest in
    let a = c.args in
    let end = at-failing-end in
    let some : 0 < end.result = omega (arith, at-if1.false) in record {
      rows_ready = (c.requires.rows_ready.0, c.requires.rows_ready.1);
      inputs_below = (at-lowest-failing.ensures, lowest-before a.area.now a.gate _ _ at-lowest-failing.ensures end.ensures some, end.ensures.used);
      right_for = rw (c.gate_word-right.ensures, c.pin_words-pins.ensures)
          (right-for a.area.now a.rows.now a.words.now a.gate c.requires.rows_ready.0 a.shift c.requires.rows_ready.1 c.requires.right_here);
    }

pub gate_row-requires : goal.gate_row-requires
gate_row-requires c =
    let at-failing-end = c.failing_end-end in
    let at-pin-words = c.pin_words-pins in
    let at-flip = c.flip-flip in
    let a = c.args in
    let end = at-failing-end in (
      last_fits a.area.now a.rows.now a.gate c.requires.rows_ready.0 c.gate_word-right.result a.shift c.requires.rows_ready.1
          at-pin-words.result end.result end.ensures.used
          c.last_values.result c.last_values.ensures,
      rw at-flip.ensures c.requires.rows_ready.2,
    )

pub returns : goal.returns
returns c l less =
    let at-failing-end = c.failing_end-end in
    let at-gate-word = c.gate_word-right in
    let at-pin-words = c.pin_words-pins in
    let at-flip = c.flip-flip in
    let a = c.args in
    let end = at-failing-end in
    let last = rw (at-gate-word.ensures, at-pin-words.ensures) at (c.last_values.ensures l less) in
    c.gate_row.ensures l less
    ∙ ap₂ (gate_step units_in_one) last at-flip.ensures
    ∙ failure-made a.area.now a.rows.now a.words.now a.gate c.requires.rows_ready.0 a.shift c.requires.rows_ready.1 c.requires.right_here end.result l less
    end.ensures
