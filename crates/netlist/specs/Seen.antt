-- Which gate to harden, document 02, card 1: in how many of the listed patterns a flip of one gate alone makes some output wrong. Two methods tell it: by
-- the flip itself (document 002, equation 3), and by masks that are passed back from the outputs (its equations 4 to 7). Without shared gates both agree.
use Rattle.std.specs.Prelude.{ℕ, zero, suc, ◌+◌, ◌<◌, Bool, true, false, cond, not, List, [], ◌∷◌, ◌↔◌, ◌≡◌, length}
use Rattle.std.specs.Bool.{beq}
use Rattle.lists.specs.Lists.{count, joined, count_where}
use Rattle.figure.specs.Figure.{answer, inverted}
use Rattle.netlist.specs.declared.Method.{Method}
use Rattle.netlist.specs.declared.Method.TheVariants.{Flip, Mask}
use Rattle.netlist.specs.Netlist.{Gate, Netlist, input_values, pin_values, values, right_values}
use Rattle.netlist.specs.Exact.{outputs_agree}
use Rattle.netlist.specs.Live.{is_live, reads_from, Reached, readers, SingleReaders}
use Rattle.netlist.specs.WellFormed.{PinsBelow}

-- the pattern that has place i alone: of flips, gate i's; of wrong pins, pin i's
abbrev pub alone : ℕ → List Bool
alone zero = true ∷ []
alone (suc i) = false ∷ alone i

-- ---- by the flip

-- under pattern q some output is wrong when gate j flips and no other
unfoldable pub flip_seen : Netlist → ℕ → ℕ → Bool
flip_seen net q j = not (outputs_agree net.outputs (values net.gates (alone j) (input_values net.inputs q)) (right_values net q))

-- ---- by masks

-- two values differ
abbrev pub differ : Bool → Bool → Bool
differ w v = not (beq w v)

-- a gate whose pins have these values answers otherwise when pin i alone is inverted
unfoldable pub sensitive : ℕ → List Bool → ℕ → Bool
sensitive table vs i = differ (answer table (inverted vs (alone i))) (answer table vs)

-- of the pins from pin i on, those for which t holds
abbrev pub pins_where : (ℕ → Bool) → ℕ → List ℕ → List ℕ
pins_where t i [] = []
pins_where t i (p ∷ ps) = cond (t i) (p ∷ pins_where t (suc i) ps) (pins_where t (suc i) ps)

-- the sensitive pins of a gate, where sources have the values vs
abbrev pub sensitive_pins : List Bool → Gate → List ℕ
sensitive_pins vs g = pins_where (sensitive g.table (pin_values vs g.pins)) 0 g.pins

-- the reads that pass a wrong value on to an output: those by outputs, and those by sensitive pins of a gate that has such a read itself
abbrev pub mask_reads_from : List Bool → List ℕ → ℕ → List Gate → List ℕ
mask_reads_from vs outputs s gs = reads_from (sensitive_pins vs) outputs s gs

unfoldable pub mask_reads : Netlist → ℕ → List ℕ
mask_reads net q = mask_reads_from (right_values net q) net.outputs net.inputs net.gates

-- gate j's mask is 1 under pattern q
unfoldable pub mask_seen : Netlist → ℕ → ℕ → Bool
mask_seen net q j = is_live (count (net.inputs + j) (mask_reads net q))

-- ---- counts

abbrev pub seen_by : Method → Netlist → ℕ → ℕ → Bool
seen_by Flip net q j = flip_seen net q j
seen_by Mask net q j = mask_seen net q j

-- in how many of the listed patterns gate j's flip is seen; a pattern listed twice counts twice
abbrev pub seen_count : Method → Netlist → List ℕ → ℕ → ℕ
seen_count method net patterns j = count_where (λ q. seen_by method net q j) patterns

-- one count a gate
unfoldable pub seen_counts : Method → Netlist → List ℕ → List ℕ
seen_counts method net patterns = joined (λ (j : ℕ). seen_count method net patterns j ∷ []) (length net.gates)

-- ---- what is known of them

-- a mask is 1 exactly where an output reads the gate, or a sensitive pin of a gate whose own mask is 1
abbrev pub MaskMeans : Type 0
MaskMeans =
    (net : Netlist) → PinsBelow net
    → (q j : ℕ) → (mask_seen net q j ≡ true) ↔ Reached net (sensitive_pins (right_values net q)) (net.inputs + j)

-- without shared gates the methods agree, pattern by pattern
abbrev pub MethodsAgree : Type 0
MethodsAgree =
    (net : Netlist) → PinsBelow net → SingleReaders net
    → (q j : ℕ) → j < length net.gates → mask_seen net q j ≡ flip_seen net q j

-- a dead gate is seen by neither, shared gates or not
abbrev pub DeadUnseen : Type 0
DeadUnseen =
    (net : Netlist) → PinsBelow net
    → (method : Method) (q j : ℕ) → j < length net.gates → readers net (net.inputs + j) ≡ 0 → seen_by method net q j ≡ false

-- where a gate is shared they may differ: both pins of an XOR read the gate, whose flip is not seen, and its mask is 1 under each pattern
abbrev pub shared_xor : Netlist
shared_xor =
    record {
      inputs = 1;
      gates = record { pins = 0 ∷ []; table = 2; kind = 0; chance = 0 } ∷ record { pins = 1 ∷ 1 ∷ []; table = 6; kind = 0; chance = 0 } ∷ [];
      outputs = 2 ∷ [];
    }

pub record MethodsDiffer : Type 0 where
  pub by_flip : seen_counts Flip shared_xor (0 ∷ 1 ∷ []) ≡ 0 ∷ 2 ∷ []
  pub by_mask : seen_counts Mask shared_xor (0 ∷ 1 ∷ []) ≡ 2 ∷ 2 ∷ []
