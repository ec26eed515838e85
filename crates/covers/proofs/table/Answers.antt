-- `covers::table` meets its contract. Assumes nothing.
use Prim.Native.Nat.{◌-◌}
use mathlib.Core.Path.{ap, sym, ◌∙◌}
use native.Mathlib.Omega.{arith}
use Rattle.model.specs.Model.{cover_of}
use Rattle.model.specs.Tables.{lines_from}
use Rattle.covers.specs.Cover.{some_meets}
use Rattle.covers.proofs.Rows.{ends_in_zero, higher, rows-below, ends-in-one, ends-in-zero}
use Rattle.covers.proofs.table.Goals as goal

pub overflow_sub-result : goal.overflow_sub-result
overflow_sub-result c =
    let a = c.args in
    omega (arith, c.all_rows.ensures, c.cover_rows-rows.ensures, rows-below a.width (some_meets (cover_of (lines_from a.words.now.text.now a.words.now.starts.now a.words.now.lines.now a.words.now.count a.from))))

pub returns-then-eq : goal.returns-then-eq
returns-then-eq c =
    let a = c.args in
    let cover = cover_of (lines_from a.words.now.text.now a.words.now.starts.now a.words.now.lines.now a.words.now.count a.from) in record {
      value = ap (λ (x : _). c.all_rows.result - x) c.cover_rows-rows.ensures
          ∙ ends-in-zero a.width cover c.all_rows.result (ap ends_in_zero (sym c.ending.ensures) ∙ sym c.eq.ensures ∙ c.if-eq.true) c.all_rows.ensures;
      upper_bound = omega (arith, c.all_rows.ensures, higher a.width 4 c.requires.2);
    }

pub returns-else-eq : goal.returns-else-eq
returns-else-eq c =
    let a = c.args in
    let cover = cover_of (lines_from a.words.now.text.now a.words.now.starts.now a.words.now.lines.now a.words.now.count a.from) in record { value = c.cover_rows-rows.ensures ∙ ends-in-one a.width cover (ap ends_in_zero (sym c.ending.ensures) ∙ sym c.eq.ensures ∙ c.if-eq.false); upper_bound = omega (arith, c.cover_rows-rows.ensures, rows-below a.width (some_meets cover), higher a.width 4 c.requires.2) }
