-- Failures and reliability in units, by the rule of document 01, "The figures": u units in one, chances as whole numbers of 1 / d.
use Rattle.std.specs.Prelude.{ℕ, Bool, List, [], ◌∷◌, ◌++◌, map, get_or, replicate}
use Rattle.rounding.specs.Rounding.{to_units}
use Rattle.figure.specs.Figure.{gate_failure, output_step}
use Rattle.netlist.specs.Netlist.{Gate, Netlist, pin_values, right_values}

-- the failures of a gate's pins, from those of all sources before it
abbrev pub pin_failures : List ℕ → List ℕ → List ℕ
pin_failures fs ps = map (λ (p : ℕ). get_or fs p 0) ps

-- the failures of all sources: vs are the right values, fs the failures of the sources so far
abbrev pub failures_from : ℕ → ℕ → List Bool → List Gate → List ℕ → List ℕ
failures_from u d vs [] fs = fs
failures_from u d vs (g ∷ gs) fs =
    failures_from u d vs gs
    (fs ++ (gate_failure u g.table (pin_values vs g.pins) (pin_failures fs g.pins) (to_units u d g.chance) ∷ []))

-- inputs never fail
unfoldable pub failures : ℕ → ℕ → Netlist → ℕ → List ℕ
failures u d net q = failures_from u d (right_values net q) net.gates (replicate net.inputs 0)

-- the reliability s after the outputs that are left, in order
abbrev pub reliability_from : ℕ → List ℕ → ℕ → List ℕ → ℕ
reliability_from u fs s [] = s
reliability_from u fs s (o ∷ os) = reliability_from u fs (output_step u s (get_or fs o 0)) os

unfoldable pub reliability : ℕ → ℕ → Netlist → ℕ → ℕ
reliability u d net q = reliability_from u (failures u d net q) u net.outputs
