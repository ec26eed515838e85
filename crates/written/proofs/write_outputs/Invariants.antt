use Prim.Native.Nat.{ℕ}
use mathlib.Core.List.{List}
use Rattle.area.specs.Layout.{output}
use Rattle.records.specs.Bytes.{two_bytes}
use Prim.Native.Nat.{◌*◌}
use mathlib.Core.Path.{◌≡◌}
use lib.ListN.{length}
use lib.Seq.{sets}
use Rattle.lists.specs.Lists.{joined}
use Rattle.area.specs.Layout.{gates}
use Rattle.image.specs.Image.{record_bytes}
use Rattle.written.proofs.write_outputs.Given as goal

abbrev pub word : List ℕ → ℕ → List ℕ
word ws k = two_bytes (output ws k)

abbrev pub invariant-loop-k : goal.invariant-loop-k
invariant-loop-k l =
    (length l.image ≡ length l.initial.image) × (l.image ≡ sets l.initial.image (record_bytes * gates l.area) (joined (word l.area) l.k))
