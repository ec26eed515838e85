use Prim.Native.Nat.{◌^◌}
use mathlib.Core.Path.{◌≡◌}
use Rattle.covers.specs.Cover.{meets, table_of}
use Rattle.covers.proofs.line_rows.Given as goal

abbrev pub invariant-loop-i : goal.invariant-loop-i
invariant-loop-i l = (l.above ≡ 2 ^ 2 ^ l.i) × (l.rows ≡ table_of l.i (meets l.line))
