use Rattle.area.specs.Layout.{head_words}
use Rattle.image.specs.Refusals.{gate_refusal}
use Rattle.image.specs.Loading.{record_words}
use Rattle.image.proofs.Passed.{Passed}
use Rattle.image.proofs.Records.load_gates.Given as goal

abbrev pub invariant-loop-j : goal.invariant-loop-j
invariant-loop-j l = Passed (gate_refusal l.self.bytes.now l.self.inputs) (record_words l.self.bytes.now) head_words l.initial.words l.j l.words
