-- Worked images with shared gates, as a table; `SharedSheets` says that the definitions give it.
use Rattle.std.specs.Prelude.{ℕ, List, [], ◌∷◌, ◌++◌, map, ◌≡◌, length}
use Rattle.refusal.specs.Judgement.{Judgement}
use Rattle.refusal.specs.Judgement.{Fine, refused}
use Rattle.rounding.specs.Rounding.{units_in_one}
use Rattle.chance.specs.Number.{chance_scale}
use Rattle.netlist.specs.Exact.{sum_over_flips}
use Rattle.suppose.specs.Suppose.{shared_gates, supposed_figure}
use Rattle.image.specs.Netlist.{image_net}
use Rattle.calls.specs.Sheets.{never, half, twentieth, sixteenths, buffer, gate_record, and_gate, two_bytes, trailer, printed_image, gate_twice_image}
use Rattle.shared.specs.Shared.{shared_image_judgement, image_shared}
use Rattle.refusal.specs.declared.Cause.TheVariants.{ManyShared}

-- a buffer at 0.5 that two outputs read: one half, where a product over the outputs would say a quarter
abbrev pub two_outputs_image : List ℕ
two_outputs_image = buffer 0 half ++ (two_bytes (1 ∷ 1 ∷ []) ++ trailer 1 1 2)

-- a buffer, an inverter and a buffer on it, and an AND of both, all at 0.05
abbrev pub diamond_image : List ℕ
diamond_image =
    buffer 0 twentieth
    ++ (gate_record 1 1 1 0 1 twentieth ++ (buffer 1 twentieth ++ (and_gate 2 3 1 twentieth ++ (two_bytes (4 ∷ []) ++ trailer 1 4 1))))

-- a buffer, on both pins of an AND, on both pins of another, all at 0.05
abbrev pub chain_image : List ℕ
chain_image = buffer 0 twentieth ++ (and_gate 1 1 1 twentieth ++ (and_gate 2 2 1 twentieth ++ (two_bytes (3 ∷ []) ++ trailer 1 3 1)))

-- a buffer at 3 units and one at 0.5, an AND of both that never flips, and two gates that always answer 0, of which one reads the AND twice and the other the
-- first buffer: its outputs are always right, but where the first buffer is supposed wrong both halves of 3 units round up
abbrev pub above_image : List ℕ
above_image =
    buffer 0 (sixteenths 8 29)
    ++ (buffer 0 half
    ++ (and_gate 1 2 0 never ++ (gate_record 2 0 3 3 0 never ++ (gate_record 1 0 1 0 0 never ++ (two_bytes (4 ∷ 5 ∷ []) ++ trailer 1 5 2)))))

-- eight buffers at 0.05, two outputs each; and nine
abbrev pub eight_buffers : List ℕ
eight_buffers =
    buffer 0 twentieth
    ++ (buffer 0 twentieth
    ++ (buffer 0 twentieth
    ++ (buffer 0 twentieth ++ (buffer 0 twentieth ++ (buffer 0 twentieth ++ (buffer 0 twentieth ++ buffer 0 twentieth))))))

abbrev pub eight_image : List ℕ
eight_image = eight_buffers ++ (two_bytes (1 ∷ 1 ∷ 2 ∷ 2 ∷ 3 ∷ 3 ∷ 4 ∷ 4 ∷ 5 ∷ 5 ∷ 6 ∷ 6 ∷ 7 ∷ 7 ∷ 8 ∷ 8 ∷ []) ++ trailer 1 8 16)

abbrev pub nine_image : List ℕ
nine_image =
    eight_buffers
    ++ (buffer 0 twentieth ++ (two_bytes (1 ∷ 1 ∷ 2 ∷ 2 ∷ 3 ∷ 3 ∷ 4 ∷ 4 ∷ 5 ∷ 5 ∷ 6 ∷ 6 ∷ 7 ∷ 7 ∷ 8 ∷ 8 ∷ 9 ∷ 9 ∷ []) ++ trailer 1 9 18))

-- an image, its shared gates and how it is judged; a pattern, and the units for it
pub record Sheet : Type 0 where
  pub image : List ℕ
  pub shared : ℕ
  pub judged : Judgement
  pub pattern : ℕ
  pub units : ℕ

abbrev pub sheets : List Sheet
sheets =
    record { image = two_outputs_image; shared = 1; judged = Fine; pattern = 0; units = 536_870_912 }
    ∷ record { image = gate_twice_image; shared = 1; judged = Fine; pattern = 1; units = 536_870_912 }
    ∷ record { image = diamond_image; shared = 1; judged = Fine; pattern = 0; units = 974_152_271 }
    ∷ record { image = chain_image; shared = 2; judged = Fine; pattern = 1; units = 928_249_808 }
    -- none shared: document 01's printed sheet; of pattern 7 only the low two bits count
    ∷ record { image = printed_image; shared = 0; judged = Fine; pattern = 7; units = 268_435_456 }
    ∷ record { image = above_image; shared = 2; judged = Fine; pattern = 0; units = 1_073_741_824 }
    ∷ record { image = eight_image; shared = 8; judged = Fine; pattern = 1; units = 712_342_265 }
    ∷ []

pub record SharedSheets : Type 0 where
  pub shared_hold : map (λ (s : Sheet). length (shared_gates (image_net s.image))) sheets ≡ map (λ (s : Sheet). s.shared) sheets
  pub judged_hold : map (λ (s : Sheet). shared_image_judgement s.image) sheets ≡ map (λ (s : Sheet). s.judged) sheets
  pub units_hold : map (λ (s : Sheet). image_shared s.image s.pattern) sheets ≡ map (λ (s : Sheet). s.units) sheets
  -- the sum before it is cut
  pub above_one : sum_over_flips 2 (supposed_figure units_in_one chance_scale (image_net above_image) 0) ≡ 1_073_741_825
  pub nine_refused : shared_image_judgement nine_image ≡ refused ManyShared 0
