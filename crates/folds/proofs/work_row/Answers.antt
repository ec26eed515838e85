-- `folds::work_row` meets its contract. Assumes nothing.
use Prim.Native.Nat.{ℕ, ◌+◌}
use mathlib.Core.Path.{◌∙◌, ap}
use Rattle.folds.proofs.work_row.Goals as goal

pub returns : goal.returns
returns c =
    let at-failures = c.failures-row in
    let a = c.args in
    let place = ap (λ (n : ℕ). n + a.gate) c.inputs.ensures in record {
      row_stored = rw (← place) (record {
        here = λ l less. c.store_row.ensures.row_stored.here l less
            ∙ at-failures.ensures l less;
        other = c.store_row.ensures.row_stored.other;
      });
      rows_len = c.store_row.ensures.rows_len;
    }
