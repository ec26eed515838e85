-- Worked writings: the words of an area, and the bytes of its image. proofs/Sheets.antt shows them by computation.
use Rattle.std.specs.Prelude.{ℕ, List, [], ◌∷◌, ◌++◌, map, ◌≡◌, replicate}
use Rattle.calls.specs.Sheets.{printed_image}
use Rattle.written.specs.Image.{area_image}

pub record Writing : Type 0 where
  pub words : List ℕ
  pub bytes : List ℕ

-- a buffer on the only input with a flip of so many units, and its image with this kind and field
abbrev pub buffer_words : ℕ → List ℕ
buffer_words units = 1 ∷ 1 ∷ 1 ∷ 0 ∷ 0 ∷ units ∷ 0 ∷ 0 ∷ 1 ∷ 2 ∷ 0 ∷ 0 ∷ 0 ∷ 0 ∷ units ∷ 0 ∷ 1 ∷ []

abbrev pub buffer_bytes : ℕ → List ℕ → List ℕ
buffer_bytes kind field =
    1 ∷ kind ∷ 2 ∷ 0 ∷ (replicate 8 0 ++ (field ++ (1 ∷ 0 ∷ 1 ∷ 0 ∷ 1 ∷ 0 ∷ 1 ∷ 0 ∷ 1 ∷ 0 ∷ 22 ∷ 0 ∷ 0 ∷ 0 ∷ 38 ∷ 0 ∷ 0 ∷ 0 ∷ [])))

abbrev pub writings : List Writing
writings =
    -- an input as output, no gate
    record { words = 3 ∷ 0 ∷ 1 ∷ 5 ∷ 1_073_741_824 ∷ 0 ∷ 0 ∷ 0 ∷ 2 ∷ []; bytes = 2 ∷ 0 ∷ 3 ∷ 0 ∷ 0 ∷ 0 ∷ 1 ∷ 0 ∷ 1 ∷ 0 ∷ 2 ∷ 0 ∷ 0 ∷ 0 ∷ 18 ∷ 0 ∷ 0 ∷ 0 ∷ [] }
    -- the printed sheet at pattern 3, with a word past those needed: its image again
    ∷ record {
      words =
          2 ∷ 3 ∷ 1 ∷ 3 ∷ 268_435_456 ∷ 1_073_741_824 ∷ 0 ∷ 0
          ∷ 1 ∷ 2 ∷ 0 ∷ 0 ∷ 0 ∷ 0 ∷ 536_870_912 ∷ 1_073_741_825
          ∷ 1 ∷ 2 ∷ 1 ∷ 0 ∷ 0 ∷ 0 ∷ 536_870_912 ∷ 1_073_741_825
          ∷ 2 ∷ 8 ∷ 2 ∷ 3 ∷ 0 ∷ 0 ∷ 0 ∷ 1_610_612_737
          ∷ 4
          ∷ 77
          ∷ [];
      bytes = printed_image;
    }
    -- flips: none, 2^-30, 3 × 2^-30, 0.05 to the nearest unit, one unit below 0.5, and 0.5
    ∷ record { words = buffer_words 0; bytes = buffer_bytes 0 (replicate 8 0) }
    ∷ record { words = buffer_words 1; bytes = buffer_bytes 1 (0 ∷ 0 ∷ 0 ∷ 0 ∷ 0 ∷ 0 ∷ 0x10 ∷ 0x3e ∷ []) }
    ∷ record { words = buffer_words 3; bytes = buffer_bytes 1 (0 ∷ 0 ∷ 0 ∷ 0 ∷ 0 ∷ 0 ∷ 0x28 ∷ 0x3e ∷ []) }
    ∷ record { words = buffer_words 53_687_091; bytes = buffer_bytes 1 (0 ∷ 0 ∷ 0 ∷ 0x98 ∷ 0x99 ∷ 0x99 ∷ 0xa9 ∷ 0x3f ∷ []) }
    ∷ record { words = buffer_words 536_870_911; bytes = buffer_bytes 1 (0 ∷ 0 ∷ 0 ∷ 0xff ∷ 0xff ∷ 0xff ∷ 0xdf ∷ 0x3f ∷ []) }
    ∷ record { words = buffer_words 536_870_912; bytes = buffer_bytes 1 (0 ∷ 0 ∷ 0 ∷ 0 ∷ 0 ∷ 0 ∷ 0xe0 ∷ 0x3f ∷ []) }
    ∷ []

abbrev pub WritingsHold : Type 0
WritingsHold = map (λ (w : Writing). area_image w.words) writings ≡ map (λ (w : Writing). w.bytes) writings
