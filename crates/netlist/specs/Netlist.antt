-- The netlist as the book of document 01 holds it: what the exact sum and the error bound speak of.
use Rattle.std.specs.Prelude.{ℕ, zero, suc, ◌/◌, Bool, false, List, [], ◌∷◌, ◌++◌, map, get_or}
use Rattle.figure.specs.Figure.{is_odd, invert_if, answer}

-- a gate: its used pins, pin 0 first, each a source; its truth table; the kind of its flip; its chance before conversion, as a whole number of 1 / d
pub record Gate : Type 0 where
  pub pins : List ℕ
  pub table : ℕ
  pub kind : ℕ
  pub chance : ℕ

-- a source below `inputs` is that input, and source inputs + j is gate j; an output is a source
pub record Netlist : Type 0 where
  pub inputs : ℕ
  pub gates : List Gate
  pub outputs : List ℕ

-- gate j; past the last gate, one that reads nothing and never flips
abbrev pub no_gate : Gate
no_gate = record { pins = []; table = 0; kind = 0; chance = 0 }

abbrev pub gate_at : Netlist → ℕ → Gate
gate_at net j = get_or net.gates j no_gate

-- the values of n inputs under pattern q: bit i is input i
abbrev pub input_values : ℕ → ℕ → List Bool
input_values zero q = []
input_values (suc n) q = is_odd q ∷ input_values n (q / 2)

-- what a gate's pins read, from the values of all sources before it
abbrev pub pin_values : List Bool → List ℕ → List Bool
pin_values vs ps = map (λ (p : ℕ). get_or vs p false) ps

-- the first gate's bit of a flip pattern, and the others'; a pattern that has ended flips no gate
abbrev pub first_flip : List Bool → Bool
first_flip [] = false
first_flip (b ∷ bs) = b

abbrev pub other_flips : List Bool → List Bool
other_flips [] = []
other_flips (b ∷ bs) = bs

-- the values of all sources under a flip pattern: a gate has what its table answers to the values of its pins, and the opposite where it flips.
-- vs holds the values of the sources so far
abbrev pub values : List Gate → List Bool → List Bool → List Bool
values [] flips vs = vs
values (g ∷ gs) flips vs =
    values gs (other_flips flips) (vs ++ (invert_if (first_flip flips) (answer g.table (pin_values vs g.pins)) ∷ []))

-- the right values: no gate flips
unfoldable pub right_values : Netlist → ℕ → List Bool
right_values net q = values net.gates [] (input_values net.inputs q)
