-- Worked gates as they are written, whatever kind they came as. proofs/Sheets.antt shows them by computation.
use Rattle.std.specs.Prelude.{ℕ, ◌^◌, List, [], ◌∷◌, map, ◌≡◌}
use Rattle.chance.specs.Number.{whole_chance}
use Rattle.netlist.specs.Netlist.{Gate}
use Rattle.written_opened.specs.Statements.{gate_in_units}

-- an AND of inputs 0 and 1 with a flip of this kind and the chance a / b
abbrev pub flipping : ℕ → ℕ → ℕ → Gate
flipping kind a b = record { pins = 0 ∷ 1 ∷ []; table = 8; kind = kind; chance = whole_chance a b }

pub record Keeping : Type 0 where
  pub given : Gate
  pub kept : Gate

abbrev pub keepings : List Keeping
keepings =
    -- it never flips; a chance of 1/2, plain and as a strike; always
    record { given = flipping 0 0 1; kept = flipping 0 0 1 }
    ∷ record { given = flipping 1 1 2; kept = flipping 1 1 2 }
    ∷ record { given = flipping 2 1 2; kept = flipping 1 1 2 }
    ∷ record { given = flipping 1 1 1; kept = flipping 1 1 1 }
    -- a chance of 0, or of half a unit, is none; one and a half units are two
    ∷ record { given = flipping 1 0 1; kept = flipping 0 0 1 }
    ∷ record { given = flipping 1 1 (2 ^ 31); kept = flipping 0 0 1 }
    ∷ record { given = flipping 1 3 (2 ^ 31); kept = flipping 1 2 (2 ^ 30) }
    -- the f64 next to 0.05
    ∷ record { given = flipping 1 3_602_879_701_896_397 (2 ^ 56); kept = flipping 1 53_687_091 (2 ^ 30) }
    ∷ []

abbrev pub KeepingsHold : Type 0
KeepingsHold = map (λ (k : Keeping). gate_in_units k.given) keepings ≡ map (λ (k : Keeping). k.kept) keepings
