-- What is promised of the image that is written from an area without a refusal: change request 7.
use Rattle.std.specs.Prelude.{ℕ, ◌<◌, List, ◌≡◌}
use Rattle.refusal.specs.Judgement.{Fine}
use Rattle.area.specs.Layout.{inputs, gates, outputs, pin_count, table, pins, flip, output}
use Rattle.area.specs.Rules.{area_judgement}
use Rattle.image.specs.Image.{middle}
use Rattle.image.specs.Loading.{record_units}
use Rattle.image.specs.Refusals.{image_refusal}
use Rattle.records.specs.Passes.{ReadAs}
use Rattle.written.specs.Image.{area_contents, area_image}

-- what is written of two areas is the same: gate by gate, and in counts and outputs
pub record SameGate (vs ws : List ℕ) (j : ℕ) : Type 0 where
  pub same_count : pin_count vs j ≡ pin_count ws j
  pub same_table : table vs j ≡ table ws j
  pub same_pins : pins vs j ≡ pins ws j
  pub same_flip : flip vs j ≡ flip ws j

pub record SameWritten (vs ws : List ℕ) : Type 0 where
  pub same_inputs : inputs vs ≡ inputs ws
  pub same_gates : gates vs ≡ gates ws
  pub same_outputs : outputs vs ≡ outputs ws
  pub same_gate : (j : ℕ) → j < gates ws → SameGate vs ws j
  pub same_output : (k : ℕ) → k < outputs ws → output vs k ≡ output ws k

-- it passes refusals 1 to 8 and 22, every field is read back, and every flip becomes the same units
pub record AreaWritten (ws : List ℕ) : Type 0 where
  pub passes : image_refusal (area_image ws) ≡ Fine
  pub read_back : ReadAs (area_image ws) (area_contents ws)
  pub units : (j : ℕ) → j < gates ws → record_units (middle (area_image ws)) j ≡ flip ws j

abbrev pub WrittenAgain : Type 0
WrittenAgain = (ws : List ℕ) → area_judgement ws ≡ Fine → AreaWritten ws

-- from the bytes of two areas it can be told that the same was written, and where the same is written the bytes are equal
pub record EqualBytes (vs ws : List ℕ) : Type 0 where
  pub told : area_image vs ≡ area_image ws → SameWritten vs ws
  pub made : SameWritten vs ws → area_image vs ≡ area_image ws

abbrev pub OneForm : Type 0
OneForm = (vs ws : List ℕ) → area_judgement vs ≡ Fine → area_judgement ws ≡ Fine → EqualBytes vs ws
