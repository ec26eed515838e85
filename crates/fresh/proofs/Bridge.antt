-- The bridge: a fresh area whose flips are a netlist's chances in units holds that netlist's right values, failures and reliability. Assumes nothing.
use Prim.Native.Nat.{ℕ, zero, suc, ◌+◌, ◌*◌, ◌/◌, ◌%◌, ◌^◌, ◌≤◌, ◌<◌}
use mathlib.Core.Bool.{Bool, true, false}
use mathlib.Core.List.{List, [], ◌∷◌, map, map-map}
use mathlib.Core.Logic.{⊎_elim}
use mathlib.Core.Path.{◌≡◌, refl, sym, ap, ap₂, subst, ◌∙◌}
use native.Mathlib.Nat.{mod-mod, eq-or-lt_of_le, le_of_suc-le-suc, le_refl}
use native.Mathlib.Omega.{arith}
use lib.ListN.{length, get_or}
use lib.Dec.{eqb}
use borrow.Author.Tests.{eq-eqb, ne_eqb}
use Rattle.lists.specs.Lists.{Below}
use Rattle.rounding.specs.Rounding.{units_in_one, to_units}
use Rattle.figure.specs.Figure.{bit_of, answer, gate_failure, output_step, right_of, failure_of, gate_word}
use Rattle.netlist.specs.Netlist.{Gate, Netlist, pin_values, right_values}
use Rattle.netlist.specs.Figures.{pin_failures, failures, reliability_from, reliability}
use Rattle.netlist.proofs.Values.{right-input, right-gate, right_step}
use Rattle.netlist.proofs.Failures.{failure-input, failure-gate, failure_step}
use Rattle.area.specs.Layout.{inputs, gates, pattern, reliability_word, table, flip, used_pins, output_words, source_word}
use Rattle.area.specs.Rules.{NetSound}
use Rattle.work.specs.Work.{gate_figure, reliability_now}
use Rattle.area.specs.Figures.{gate_word_from, product_from}
use Rattle.area.proofs.Words.{used-below, output-below}
use Rattle.area.specs.Net.{net_of}
use Rattle.area.proofs.Net.{gate-at, gate_count, sound-pins}
use Rattle.fresh.specs.Fresh.{Fresh, Converted}
use Rattle.lists.proofs.Every.{map_same}
use Rattle.fresh.proofs.Sources.{source-input, source-gate, source-cases}

-- 2 × failure + right value, taken apart
pub right-of-word : (f : ℕ) (b : Bool) → right_of (2 * f + bit_of b) ≡ b
right-of-word f true = eq-eqb ((2 * f + 1) % 2) 1 (omega arith)
right-of-word f false = ne_eqb ((2 * f + 0) % 2) 1 (λ e. omega arith)

pub failure-of-word : (f : ℕ) (b : Bool) → failure_of (2 * f + bit_of b) ≡ f
failure-of-word f true = omega arith
failure-of-word f false = omega arith

pub map-twice : {B : Type 0} (r : ℕ → B) (f : ℕ → ℕ) (h : ℕ → B) (xs : List ℕ) → ((i : ℕ) → i < length xs → r (f (get_or xs i 0)) ≡ h (get_or xs i 0))
    → map r (map f xs) ≡ map h xs
map-twice r f h xs e = map-map r f xs ∙ map_same (λ (x : ℕ). r (f x)) h xs e

-- source s's word holds its right value and its failure
pub record Holds (d : ℕ) (ws : List ℕ) (net : Netlist) (s : ℕ) : Type 0 where
  pub right : right_of (source_word ws s) ≡ get_or (right_values net (pattern ws)) s false
  pub failure : failure_of (source_word ws s) ≡ get_or (failures units_in_one d net (pattern ws)) s 0

module _ (d : ℕ) (ws kinds chances : List ℕ) (sound : NetSound ws) (fresh : Fresh ws) (converted : Converted d ws chances) where
  input-holds : (s : ℕ) → s < inputs ws → Holds d ws (net_of ws kinds chances) s
  input-holds s l =
      let net = net_of ws kinds chances in
      let below = sound-pins ws kinds chances sound in
      let bit = source-input ws s l in
      record {
        right = ap right_of bit ∙ ap (λ (x : ℕ). eqb x 1) (mod-mod (pattern ws / 2 ^ s) 2) ∙ sym (right-input net below (pattern ws) s l);
        failure = ap failure_of bit ∙ omega (arith, failure-input units_in_one d net below (pattern ws) s l);
      }

  gate-holds : (j : ℕ) → j < gates ws → ((s : ℕ) → s < inputs ws + j → Holds d ws (net_of ws kinds chances) s)
      → Holds d ws (net_of ws kinds chances) (inputs ws + j)
  unfolding gate_figure gate_word_from gate_word
  gate-holds j l earlier =
      let net = net_of ws kinds chances in
      let q = pattern ws in
      let below = sound-pins ws kinds chances sound in
      let ps = used_pins ws j in
      let words = map (source_word ws) ps in
      let vs : List Bool = pin_values (right_values net q) ps in
      let fs : List ℕ = pin_failures (failures units_in_one d net q) ps in
      let p = to_units units_in_one d (get_or chances j 0) in
      let inside : j < length net.gates = omega (arith, gate_count ws kinds chances) in
      let values : map right_of words ≡ vs
      = map-twice right_of (source_word ws) (λ (s : ℕ). get_or (right_values net q) s false) ps
      (λ i k. (earlier (get_or ps i 0) (used-below ws sound j l i k)).right) in
      let fails : map failure_of words ≡ fs
      = map-twice failure_of (source_word ws) (λ (s : ℕ). get_or (failures units_in_one d net q) s 0) ps
      (λ i k. (earlier (get_or ps i 0) (used-below ws sound j l i k)).failure) in
      let word : source_word ws (inputs ws + j) ≡ 2 * gate_failure units_in_one (table ws j) vs fs p + bit_of (answer (table ws j) vs)
      = source-gate ws j
      ∙ fresh.figures j l
      ∙ ap₂ (λ (x : List Bool) (y : List ℕ). 2 * gate_failure units_in_one (table ws j) x y (flip ws j) + bit_of (answer (table ws j) x)) values fails
      ∙ ap (λ (x : ℕ). 2 * gate_failure units_in_one (table ws j) vs fs x + bit_of (answer (table ws j) vs)) (converted.flips j l) in
      record {
        right =
            ap right_of word
            ∙ right-of-word (gate_failure units_in_one (table ws j) vs fs p) (answer (table ws j) vs)
            ∙ sym (right-gate net below q j inside ∙ ap (λ (g : Gate). right_step g (right_values net q)) (gate-at ws kinds chances j l));
        failure =
            ap failure_of word
            ∙ failure-of-word (gate_failure units_in_one (table ws j) vs fs p) (answer (table ws j) vs)
            ∙ sym
            (failure-gate units_in_one d net below q j inside
            ∙ ap (λ (g : Gate). failure_step units_in_one d (right_values net q) g (failures units_in_one d net q)) (gate-at ws kinds chances j l));
      }

  holds-below : (b : ℕ) → b ≤ inputs ws + gates ws → (s : ℕ) → s < b → Holds d ws (net_of ws kinds chances) s
  holds-below zero l s k = absurd (omega arith)
  holds-below (suc b) l s k =
      let earlier = holds-below b (omega arith) in
      ⊎_elim
      (λ e.
      source-cases (inputs ws) s
      (input-holds s)
      (λ j at. subst (Holds d ws (net_of ws kinds chances)) (sym at) (gate-holds j (omega arith) (λ t below. earlier t (omega arith)))))
      (earlier s)
      (eq-or-lt_of_le (le_of_suc-le-suc k))

  -- every source's word holds its right value and its failure
  pub sources-hold : (s : ℕ) → s < inputs ws + gates ws → Holds d ws (net_of ws kinds chances) s
  sources-hold = holds-below (inputs ws + gates ws) (le_refl (inputs ws + gates ws))

  products : (s : ℕ) (os : List ℕ) → Below (inputs ws + gates ws) os
      → product_from (source_word ws) s os ≡ reliability_from units_in_one (failures units_in_one d (net_of ws kinds chances) (pattern ws)) s os
  products s [] below = refl
  products s (o ∷ os) below =
      let fs = failures units_in_one d (net_of ws kinds chances) (pattern ws) in
      ap (λ (f : ℕ). product_from (source_word ws) (output_step units_in_one s f) os) (sources-hold o (below 0 (omega arith))).failure
      ∙ products (output_step units_in_one s (get_or fs o 0)) os (λ i l. below (suc i) (omega arith))

  -- and word 4 is the reliability
  pub reliability-holds : reliability_word ws ≡ reliability units_in_one d (net_of ws kinds chances) (pattern ws)
  unfolding reliability_now reliability
  reliability-holds = fresh.product ∙ products units_in_one (output_words ws) (output-below ws sound)
