-- `image::Records::load` meets its contract. Assumes nothing.
use mathlib.Core.Path.{sym, ◌∙◌}
use Rattle.refusal.specs.Judgement.{lowest}
use Rattle.refusal.proofs.Laws.{otherwise-second}
use Rattle.image.specs.Refusals.{gate_refusal, middle_refusal}
use Rattle.image.proofs.Passed.{first-refused-on}
use Rattle.image.proofs.Middle.{middle-words}
use Rattle.image.proofs.Records.load.Goals as goal

pub returns : goal.returns
unfolding middle_refusal
returns c =
    let a = c.args in
    let m = a.self.now.bytes.now in
    let gs = c.load_gates in
    let os = c.load_outputs in
    let told = c.in_ok-load_gates.was in
    let rest = otherwise-second (lowest (gate_refusal m a.self.now.inputs) a.self.now.gates) _ (sym gs.ensures.value ∙ told) in
    let stored = c.store.ensures in
    record {
      value = os.ensures.value ∙ sym rest;
      words_after = λ e. middle-words m a.self.now.inputs a.self.now.gates a.self.now.outputs a.words.now _ _ _ stored (gs.ensures.words_after told) (os.ensures.words_after e);
    }

pub returns-in_err-load_gates : goal.returns-in_err-load_gates
unfolding middle_refusal
returns-in_err-load_gates c =
    let gs = c.load_gates in
    let all = first-refused-on _ _ gs.result _ _ gs.ensures.value c.in_err-load_gates.was c.from_residual.ensures.1 in
    record { value = all.0; words_after = all.1 }
