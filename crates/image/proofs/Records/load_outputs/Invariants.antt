use Rattle.area.specs.Layout.{outputs_index}
use Rattle.image.specs.Refusals.{output_refusal}
use Rattle.image.specs.Loading.{output_word}
use Rattle.image.proofs.Passed.{Passed}
use Rattle.image.proofs.Records.load_outputs.Given as goal

abbrev pub invariant-loop-k : goal.invariant-loop-k
invariant-loop-k l =
    Passed (output_refusal l.self.bytes.now l.self.inputs l.self.gates) (output_word l.self.bytes.now l.self.gates) (outputs_index l.self.gates) l.initial.words l.k l.words
