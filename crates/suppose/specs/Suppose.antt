-- Netlists with shared gates, document 02, card 9: what a shared gate does is supposed, right or wrong, so that its readers see 0 or U for its failure, and
-- the figures of all sets of suppositions are added. u units in one, chances as whole numbers of 1 / d.
use Rattle.std.specs.Prelude.{ℕ, zero, suc, Bool, true, false, cond, List, [], ◌∷◌, ◌++◌, map, length, get_or, replicate, eqb, leb}
use Rattle.rounding.specs.Rounding.{blend, to_units}
use Rattle.figure.specs.Figure.{gate_failure}
use Rattle.netlist.specs.Netlist.{Gate, Netlist, pin_values, right_values, first_flip, other_flips}
use Rattle.netlist.specs.Exact.{sum_over_flips}
use Rattle.netlist.specs.Live.{readers}

-- the sources among the k from s on with two readers or more, in order
abbrev pub shared_from : (ℕ → ℕ) → ℕ → ℕ → List ℕ
shared_from reads s zero = []
shared_from reads s (suc k) = cond (leb 2 (reads s)) (s ∷ shared_from reads (suc s) k) (shared_from reads (suc s) k)

-- the shared gates, as sources: shared means as in refusal 9
unfoldable pub shared_gates : Netlist → List ℕ
shared_gates net = shared_from (readers net) net.inputs (length net.gates)

-- a set of suppositions over the gates ss says of each, in order, whether it is supposed wrong
abbrev pub is_supposed : List ℕ → ℕ → Bool
is_supposed [] p = false
is_supposed (s ∷ ss) p = cond (eqb p s) true (is_supposed ss p)

abbrev pub supposed_wrong : List ℕ → List Bool → ℕ → Bool
supposed_wrong [] bs p = false
supposed_wrong (s ∷ ss) bs p = cond (eqb p s) (first_flip bs) (supposed_wrong ss (other_flips bs) p)

-- the failure of source p as its readers see it, f being the one worked out there: by its supposition, where there is one
abbrev pub seen : ℕ → List ℕ → List Bool → ℕ → ℕ → ℕ
seen u ss bs p f = cond (is_supposed ss p) (cond (supposed_wrong ss bs p) u 0) f

-- the failures worked out at all sources, as `failures_from` has them, but for what the pins see
abbrev pub supposed_from : ℕ → ℕ → List Bool → List ℕ → List Bool → List Gate → List ℕ → List ℕ
supposed_from u d vs ss bs [] fs = fs
supposed_from u d vs ss bs (g ∷ gs) fs =
    supposed_from u d vs ss bs gs
    (fs
    ++ (gate_failure
    u
    g.table
    (pin_values vs g.pins)
    (map (λ (p : ℕ). seen u ss bs p (get_or fs p 0)) g.pins)
    (to_units u d g.chance)
    ∷ []))

unfoldable pub supposed_failures : ℕ → ℕ → Netlist → ℕ → List Bool → List ℕ
supposed_failures u d net q bs = supposed_from u d (right_values net q) (shared_gates net) bs net.gates (replicate net.inputs 0)

-- the product so far, times u less the failure worked out at each shared gate, or times that failure if the gate is supposed wrong
abbrev pub shared_steps : ℕ → (ℕ → ℕ) → ℕ → List ℕ → List Bool → ℕ
shared_steps u f s [] bs = s
shared_steps u f s (p ∷ ps) bs = shared_steps u f (cond (first_flip bs) (blend u 0 s (f p)) (blend u s 0 (f p))) ps (other_flips bs)

-- and over the outputs, as reliability does, with what they see
abbrev pub output_steps : ℕ → (ℕ → ℕ) → ℕ → List ℕ → ℕ
output_steps u f s [] = s
output_steps u f s (o ∷ os) = output_steps u f (blend u s 0 (f o)) os

-- the figure of one set of suppositions
unfoldable pub supposed_figure : ℕ → ℕ → Netlist → ℕ → List Bool → ℕ
supposed_figure u d net q bs =
    output_steps
    u
    (λ o. seen u (shared_gates net) bs o (get_or (supposed_failures u d net q bs) o 0))
    (shared_steps u (λ p. get_or (supposed_failures u d net q bs) p 0) u (shared_gates net) bs)
    net.outputs

-- a sum above u becomes u
abbrev pub at_most : ℕ → ℕ → ℕ
at_most u sum = cond (leb sum u) sum u

-- all sets added
unfoldable pub shared_reliability : ℕ → ℕ → Netlist → ℕ → ℕ
shared_reliability u d net q = at_most u (sum_over_flips (length (shared_gates net)) (supposed_figure u d net q))
