-- The sharper error as the code adds it up: sources that are gates one by one, and what each gate is charged. Assumes nothing.
use Prim.Native.Nat.{ℕ, ◌+◌, ◌≤◌, ◌<◌}
use mathlib.Core.Bool.{Bool, cond}
use mathlib.Core.List.{List, [], ◌∷◌}
use mathlib.Core.Path.{◌≡◌, refl, sym, ap, ap₂, ◌∙◌}
use native.Mathlib.Omega.{arith}
use lib.Dec.{eqb, leb}
use lib.ListN.{length, get_or, take, drop, length-drop}
use lib.Seq.{length-take-le}
use Rattle.lists.specs.Lists.{sum_below}
use Rattle.lists.proofs.Parts.{part_at}
use Rattle.lists.proofs.Sums.{sum_first, sum_more, sum_same}
use Rattle.figure.specs.Figure.{bit_of}
use Rattle.netlist.specs.Netlist.{gate_at}
use Rattle.netlist.specs.Live.{if_live, readers}
use Rattle.bound.specs.Sharp.{how_many, further_gates, gate_halves, error_halves}
use Rattle.area.specs.Layout.{inputs, gates, used_pins, output_words}
use Rattle.area.specs.Net.{net_of}
use Rattle.area.proofs.Net.{gate-at, gate_count, same-readers}

-- one source after another
sum_of : (test : ℕ → Bool) (xs : List ℕ) → how_many test xs ≡ sum_below (length xs) (λ i. bit_of (test (get_or xs i 0)))
sum_of test [] = refl
sum_of test (x ∷ xs) = ap (λ (k : ℕ). bit_of (test x) + k) (sum_of test xs) ∙ sym (sum_first (λ i. bit_of (test (get_or (x ∷ xs) i 0))) (length xs))

-- the `many` sources from `start` on
pub gates-among : (n : ℕ) (ws : List ℕ) (start many : ℕ) → start + many ≤ length ws
    → how_many (leb n) (take many (drop start ws)) ≡ sum_below many (λ i. bit_of (leb n (get_or ws (start + i) 0)))
gates-among n ws start many room =
    let part = take many (drop start ws) in
    let long : length part ≡ many = length-take-le many (drop start ws) (omega (arith, length-drop start ws)) in
    sum_of (leb n) part
    ∙ ap (λ (k : ℕ). sum_below k (λ i. bit_of (leb n (get_or part i 0)))) long
    ∙ sum_same (λ i. bit_of (leb n (get_or part i 0))) (λ i. bit_of (leb n (get_or ws (start + i) 0))) many
    (λ i less. ap (λ (x : ℕ). bit_of (leb n x)) (part_at ws start many i less))

-- what gate j of the words is charged; the chances have no part in it
abbrev pub charge : List ℕ → List ℕ → List ℕ → ℕ → ℕ
charge ws kinds chances j =
    if_live (readers (net_of ws kinds chances) (inputs ws + j)) (gate_halves (inputs ws) (gate_at (net_of ws kinds chances) j))

-- the same from the words, a count of readers and a kind
pub charge-is : (ws kinds chances : List ℕ) (j r kind : ℕ) → j < gates ws → kind ≡ get_or kinds j 0 → r ≡ readers (net_of ws [] []) (inputs ws + j)
    → if_live r (cond (eqb kind 0) 0 2 + further_gates (inputs ws) (used_pins ws j)) ≡ charge ws kinds chances j
charge-is ws kinds chances j r kind inside same counted =
    ap₂ if_live
    (counted ∙ same-readers ws [] [] kinds chances (inputs ws + j))
    (ap (λ (k : ℕ). cond (eqb k 0) 0 2 + further_gates (inputs ws) (used_pins ws j)) same
    ∙ ap (gate_halves (inputs ws)) (sym (gate-at ws kinds chances j inside)))

-- one gate more, beside what the outputs are charged
pub next-charge : (F : ℕ → ℕ) (k halves one outputs : ℕ) → halves ≡ sum_below k F + outputs → one ≡ F k → halves + one ≡ sum_below (k + 1) F + outputs
next-charge F k halves one outputs before here = omega (arith, before, here, sum_more F k (sum_below k F) (F k) refl refl)

-- all gates, and the outputs
module _ (ws kinds : List ℕ) where
  pub halves_are : (chances : List ℕ)
      → error_halves (net_of ws kinds chances) ≡ sum_below (gates ws) (charge ws kinds chances) + further_gates (inputs ws) (output_words ws)
  unfolding error_halves
  halves_are chances =
      ap (λ (k : ℕ). sum_below k (charge ws kinds chances) + further_gates (inputs ws) (output_words ws)) (gate_count ws kinds chances)

  pub same-halves : (cs ds : List ℕ) → error_halves (net_of ws kinds cs) ≡ error_halves (net_of ws kinds ds)
  same-halves cs ds =
      let each : (j : ℕ) → j < gates ws → charge ws kinds cs j ≡ charge ws kinds ds j
      = λ j inside.
      let live = readers (net_of ws [] []) (inputs ws + j) in
      sym (charge-is ws kinds cs j live (get_or kinds j 0) inside refl refl) ∙ charge-is ws kinds ds j live (get_or kinds j 0) inside refl refl in
      halves_are cs
      ∙ ap (λ (sum : ℕ). sum + further_gates (inputs ws) (output_words ws)) (sum_same (charge ws kinds cs) (charge ws kinds ds) (gates ws) each)
      ∙ sym (halves_are ds)
