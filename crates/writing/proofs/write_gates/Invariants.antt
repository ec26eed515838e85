use Prim.Native.Nat.{ℕ}
use mathlib.Core.Path.{◌≡◌}
use lib.ListN.{length, get_or}
use lib.Seq.{sets}
use Rattle.lists.specs.Lists.{joined}
use Rattle.writing.specs.Written.{record_in}
use Rattle.writing.proofs.write_gates.Given as goal

abbrev pub invariant-loop-q : goal.invariant-loop-q
invariant-loop-q l =
    (length l.image ≡ length l.initial.image)
    × (l.image ≡ sets l.initial.image 0 (joined (λ (k : ℕ). record_in l.model.words.now.text.now l.model.words.now.starts.now l.model.words.now.lines.now l.model.words.now.count l.model.heads.now l.model.sources.pins.now l.model.sources.counts.now l.model.sources.inputs l.placement.place.now (get_or l.placement.order.now k 0)) l.q))
