use mathlib.Core.Path.{◌≡◌}
use lib.ListN.{length}
use lib.Seq.{sets}
use Rattle.lists.specs.Lists.{joined}
use Rattle.records.specs.Bytes.{contents_record}
use Rattle.written.specs.Image.{area_contents}
use Rattle.written.proofs.write_gates.Given as goal

abbrev pub invariant-loop-j : goal.invariant-loop-j
invariant-loop-j l =
    (length l.image ≡ length l.initial.image) × (l.image ≡ sets l.initial.image 0 (joined (contents_record (area_contents l.area)) l.j))
