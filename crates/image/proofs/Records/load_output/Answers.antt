-- `image::Records::load_output` meets its contract. Assumes nothing.
use Prim.Native.Nat.{◌+◌, ◌≤◌, ◌<◌}
use mathlib.Core.Path.{ap₂}
use native.Mathlib.Omega.{arith}
use lib.ListN.{set}
use borrow.Author.Tests.{lt-ltb, le-ltb}
use Rattle.refusal.proofs.Laws.{refused-not-fine}
use Rattle.image.specs.Image.{output_at}
use Rattle.image.specs.Refusals.{output_refusal}
use Rattle.image.proofs.Records.load_output.Goals as goal
use Rattle.refusal.specs.declared.Cause.TheVariants.{OutputSource}

pub returns-then-index-self : goal.returns-then-index-self
unfolding output_refusal
returns-then-index-self c =
    let a = c.args in
    let far : a.self.now.inputs + a.self.now.gates ≤ output_at a.self.now.bytes.now a.self.now.gates a.k = omega arith in record { value = simp (le-ltb _ _ far); words_after = λ e. refused-not-fine OutputSource a.k e }

pub returns : goal.returns
unfolding output_refusal
returns c =
    let a = c.args in
    let near : output_at a.self.now.bytes.now a.self.now.gates a.k < a.self.now.inputs + a.self.now.gates = omega arith in record { value = simp (lt-ltb _ _ near); words_after = λ e. ap₂ (set a.words.now) (omega arith) c.two_bytes-source.ensures.0 }
