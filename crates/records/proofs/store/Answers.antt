-- `records::store` meets its contract. Assumes nothing.
use Prim.Native.Nat.{◌+◌, ◌-◌}
use mathlib.Core.List.{append_assoc}
use mathlib.Core.Path.{◌≡◌, sym}
use native.Mathlib.Omega.{arith}
use lib.ListN.{length}
use lib.Seq.{drop-drop, sets-eq}
use Rattle.records.proofs.store.Goals as goal

pub returns : goal.returns
returns c =
    let a = c.args in
    let many : a.base + length a.values.now - a.base ≡ length a.values.now = omega arith in
    rw (many, c.copy_from_slice.ensures.after, drop-drop, ← append_assoc) (sym (sets-eq a.values.now a.bytes.now a.base c.requires))
