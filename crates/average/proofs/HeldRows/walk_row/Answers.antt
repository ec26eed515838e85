-- `average::HeldRows::walk_row` meets its contract: a row that is worked out has the reliabilities. Assumes nothing.
use Prim.Native.Nat.{◌*◌}
use mathlib.Core.Path.{◌∙◌}
use Rattle.average.proofs.BlockWords.{outputs_fit, row-product}
use Rattle.rows.specs.Rows.{row_length}
use Rattle.average.proofs.HeldRows.walk_row.Goals as goal

pub reliability_row-requires : goal.reliability_row-requires
reliability_row-requires g c =
    let a = c.args in
    let worked = c.work.ensures in
    (c.requires.planned.0.net, outputs_fit a.walk.now.area.now c.requires.planned.0 (row_length * a.number) _ worked.rows_kept_2.0 worked.block)

pub take-requires-clause-right : goal.take-requires-clause-right
take-requires-clause-right g c =
    let a = c.args in
    let worked = c.work.ensures in
    let made = c.reliability_row.ensures in (
      λ l few inside. made.each_entry l few ∙ row-product a.walk.now.area.now c.requires.planned.0 (row_length * a.number) _ worked.rows_kept_2.0 worked.block l few inside,
      made.row_fits,
    )
