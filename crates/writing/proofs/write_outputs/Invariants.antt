use Prim.Native.Nat.{◌*◌}
use mathlib.Core.Path.{◌≡◌}
use lib.ListN.{length}
use lib.Seq.{sets}
use Rattle.lists.specs.Lists.{joined}
use Rattle.image.specs.Image.{record_bytes}
use Rattle.writing.specs.Written.{output_in}
use Rattle.writing.proofs.write_outputs.Given as goal

abbrev pub invariant-loop-k : goal.invariant-loop-k
invariant-loop-k l =
    (length l.image ≡ length l.initial.image) × (l.image ≡ sets l.initial.image (record_bytes * length l.model.heads.now) (joined (output_in l.model.sources.inputs l.place l.model.outs.now) l.k))
