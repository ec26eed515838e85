use Prim.Native.Nat.{ℕ, ◌+◌, ◌-◌, ◌*◌, ◌≤◌, ◌<◌}
use mathlib.Core.List.{List}
use Rattle.area.specs.Layout.{inputs, gates}
use Rattle.plan.specs.Plan.{IsLive}
use Rattle.rows.specs.Rows.{row_length}
use Rattle.average.specs.Blocks.{RowsKept, Block, HeldFrom}
use Rattle.average.proofs.HeldRows.work.Given as goal

-- what is known when a gate has been reached
pub record Reached (ws unseen rows : List ℕ) (held number gate : ℕ) : Type 0 where
  pub few : gate ≤ gates ws
  pub live : gate < gates ws → IsLive ws (inputs ws + gate)
  pub kept : RowsKept ws rows
  pub block : Block ws rows (row_length * number) gate
  pub rest : HeldFrom ws unseen rows held number gate

abbrev pub invariant-loop-gate : goal.invariant-loop-gate
invariant-loop-gate l = Reached l.area l.unseen l.self.rows l.held l.number l.gate

abbrev pub decreases-loop-gate : goal.decreases-loop-gate
decreases-loop-gate l = l.count - l.gate
