-- What a gate's figure and the reliability are worked out from: two areas that agree there work out the same. Assumes nothing.
use Prim.Native.Nat.{ℕ, suc, ◌+◌, ◌-◌, ◌/◌, ◌%◌, ◌^◌, ◌≤◌, ◌<◌}
use mathlib.Core.Bool.{Bool, true, false, cond}
use mathlib.Core.List.{List, [], ◌∷◌, map}
use mathlib.Core.Logic.{◌≢◌}
use mathlib.Core.Path.{◌≡◌, refl, sym, ap, ap₂, ◌∙◌}
use native.Mathlib.Omega.{arith}
use lib.ListN.{length, get_or}
use lib.Dec.{ltb}
use borrow.Author.Tests.{ltb-true, ltb-false, lt-ltb, le-ltb}
use Rattle.rounding.specs.Rounding.{units_in_one}
use Rattle.figure.specs.Figure.{output_step, failure_of, gate_word}
use Rattle.area.specs.Layout.{inputs, gates, pattern_index, pattern, table, flip, figure_index, figure, used_pins, output_words, source_word}
use Rattle.area.specs.Rules.{NetSound}
use Rattle.work.specs.Work.{gate_figure, work_gate, reliability_now}
use Rattle.area.specs.Figures.{gate_word_from, product_from}
use Rattle.area.proofs.Words.{used-below, output-below}
use Rattle.work.proofs.Frame.{SameFrame, same_inputs, same_table, same-used-pins, same-output-words, same-work-gate, work-gate-kept}
use Rattle.lists.proofs.Every.{map_same}

-- a source's word: an input's bit, a gate's figure
pub source-input : (ws : List ℕ) (s : ℕ) → s < inputs ws → source_word ws s ≡ pattern ws / 2 ^ s % 2
source-input ws s l = ap (λ (c : Bool). cond c (pattern ws / 2 ^ s % 2) (figure ws (s - inputs ws))) (lt-ltb s (inputs ws) l)

pub source-gate : (ws : List ℕ) (j : ℕ) → source_word ws (inputs ws + j) ≡ figure ws j
source-gate ws j =
    let s = inputs ws + j in
    let back : s - inputs ws ≡ j = omega arith in
    ap (λ (c : Bool). cond c (pattern ws / 2 ^ s % 2) (figure ws (s - inputs ws))) (le-ltb s (inputs ws) (omega arith)) ∙ ap (figure ws) back

-- whether a source is an input or a gate
pub source-cases : {C : Type 0} (n s : ℕ) → (s < n → C) → ((j : ℕ) → s ≡ n + j → C) → C
source-cases {C} n s input gate = go (ltb s n) refl
  where
    go : (c : Bool) → ltb s n ≡ c → C
    go true e = input (ltb-true s n e)
    go false e =
        let from : n ≤ s = ltb-false s n e in
        gate (s - n) (omega arith)

pub source-same : (ws vs : List ℕ) → inputs vs ≡ inputs ws → (s : ℕ) → (s < inputs ws → pattern vs / 2 ^ s % 2 ≡ pattern ws / 2 ^ s % 2)
    → ((j : ℕ) → s ≡ inputs ws + j → figure vs j ≡ figure ws j) → source_word vs s ≡ source_word ws s
source-same ws vs n s bit word =
    source-cases (inputs ws) s
    (λ l. source-input vs s (omega arith) ∙ bit l ∙ sym (source-input ws s l))
    (λ j e.
    ap (source_word vs) (e ∙ ap (λ (k : ℕ). k + j) (sym n)) ∙ source-gate vs j ∙ word j e ∙ sym (source-gate ws j) ∙ ap (source_word ws) (sym e))

-- a gate's figure comes from its table, its flip and the words of the sources that it reads
pub gate-figure-same : (ws vs : List ℕ) → SameFrame ws vs → (j : ℕ) → flip vs j ≡ flip ws j
    → ((i : ℕ) → i < length (used_pins ws j) → source_word vs (get_or (used_pins ws j) i 0) ≡ source_word ws (get_or (used_pins ws j) i 0))
    → gate_figure vs j ≡ gate_figure ws j
unfolding gate_figure gate_word_from
gate-figure-same ws vs same j p h =
    ap₂ (λ (t f : ℕ). gate_word units_in_one t (map (source_word vs) (used_pins vs j)) f) (same_table ws vs same j) p
    ∙ ap (λ (ps : List ℕ). gate_word units_in_one (table ws j) (map (source_word vs) ps) (flip ws j)) (same-used-pins ws vs same j)
    ∙ ap (λ (xs : List ℕ). gate_word units_in_one (table ws j) xs (flip ws j)) (map_same (source_word vs) (source_word ws) (used_pins ws j) h)

-- which are earlier ones
pub gate-figure-earlier : (ws vs : List ℕ) → NetSound ws → SameFrame ws vs → (j : ℕ) → j < gates ws → flip vs j ≡ flip ws j
    → ((s : ℕ) → s < inputs ws + j → source_word vs s ≡ source_word ws s) → gate_figure vs j ≡ gate_figure ws j
gate-figure-earlier ws vs net same j l p h =
    gate-figure-same ws vs same j p (λ i k. h (get_or (used_pins ws j) i 0) (used-below ws net j l i k))

-- outputs whose sources read the same have the same product
pub product-same : (f h : ℕ → ℕ) (s : ℕ) (os : List ℕ) → ((i : ℕ) → i < length os → f (get_or os i 0) ≡ h (get_or os i 0)) → product_from f s os ≡ product_from h s os
product-same f h s [] e = refl
product-same f h s (o ∷ os) e =
    ap (λ (w : ℕ). product_from f (output_step units_in_one s (failure_of w)) os) (e 0 (omega arith))
    ∙ product-same f h (output_step units_in_one s (failure_of (h o))) os (λ i l. e (suc i) (omega arith))

-- the reliability comes from the words of the outputs' sources
pub reliability-same : (ws vs : List ℕ) → NetSound ws → SameFrame ws vs → ((s : ℕ) → s < inputs ws + gates ws → source_word vs s ≡ source_word ws s)
    → reliability_now vs ≡ reliability_now ws
unfolding reliability_now
reliability-same ws vs net same h =
    ap (product_from (source_word vs) units_in_one) (same-output-words ws vs same)
    ∙ product-same (source_word vs) (source_word ws) units_in_one (output_words ws) (λ i l. h (get_or (output_words ws) i 0) (output-below ws net i l))

-- working out gate j changes no other source
pub source-work-gate : (ws : List ℕ) (j s : ℕ) → j < gates ws → s ≢ inputs ws + j → source_word (work_gate ws j) s ≡ source_word ws s
source-work-gate ws j s l other =
    source-same ws (work_gate ws j) (same_inputs ws (work_gate ws j) (same-work-gate ws j l)) s
    (λ small. ap (λ (q : ℕ). q / 2 ^ s % 2) ((work-gate-kept ws j).kept pattern_index (λ e. omega arith)))
    (λ k e. (work-gate-kept ws j).kept (figure_index k) (λ q. other (omega arith)))
