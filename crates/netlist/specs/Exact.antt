-- The exact sum of document 01, a whole number with the denominators multiplied out. Chances are whole numbers of 1 / d.
use Rattle.std.specs.Prelude.{ℕ, zero, suc, ◌+◌, ◌-◌, ◌*◌, Bool, true, false, cond, ◌&&◌, List, [], ◌∷◌, length, get_or}
use Rattle.std.specs.Bool.{beq}
use Rattle.netlist.specs.Netlist.{Gate, Netlist, input_values, first_flip, other_flips, values, right_values}

-- the sum of F over all 2^k flip patterns of k gates
abbrev pub sum_over_flips : ℕ → (List Bool → ℕ) → ℕ
sum_over_flips zero F = F []
sum_over_flips (suc k) F = sum_over_flips k (λ flips. F (false ∷ flips)) + sum_over_flips k (λ flips. F (true ∷ flips))

-- a flip pattern's chance, times d for each gate: over ALL gates, dead ones too, the product of a flipping gate's chance and of a still gate's rest to 1
abbrev pub pattern_chance : ℕ → List Gate → List Bool → ℕ
pattern_chance d [] flips = 1
pattern_chance d (g ∷ gs) flips = cond (first_flip flips) g.chance (d - g.chance) * pattern_chance d gs (other_flips flips)

-- whether every output has the same value in both lists of values
abbrev pub outputs_agree : List ℕ → List Bool → List Bool → Bool
outputs_agree [] vs ws = true
outputs_agree (o ∷ os) vs ws = beq (get_or vs o false) (get_or ws o false) && outputs_agree os vs ws

-- the exact sum for pattern q, times d for each gate: the chances of the flip patterns under which every output is right
unfoldable pub exact_sum : ℕ → Netlist → ℕ → ℕ
exact_sum d net q =
    sum_over_flips (length net.gates)
    (λ flips.
    cond (outputs_agree net.outputs (values net.gates flips (input_values net.inputs q)) (right_values net q))
    (pattern_chance d net.gates flips)
    0)
