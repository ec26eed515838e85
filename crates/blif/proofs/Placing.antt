-- Before gates are placed, and loops by the model's own numbers. Assumes nothing.
use Prim.Native.Nat.{ℕ, zero, suc, ◌+◌}
use mathlib.Core.Path.{◌≡◌, refl, ap, ◌∙◌}
use mathlib.Core.Bool.{not}
use mathlib.Core.List.{List}
use native.Mathlib.Nat.{zero-add}
use native.Mathlib.Omega.{arith}
use lib.ListN.{get_or, replicate}
use borrow.Author.Tests.{eq-eqb}
use Rattle.lists.proofs.Parts.{zeros-at}
use Rattle.refusal.specs.Judgement.{refuse_unless}
use Rattle.refusal.proofs.Laws.{lowest-same}
use Rattle.placing.specs.Placing.{sources_of, left, Kept, Tables, via, loop_fault}
use Rattle.model.specs.Model.{defined}
use Rattle.model.specs.Counts.{line_at}
use Rattle.model.specs.Tables.{lines_from}
use Rattle.blif.specs.Reading.{no_place, loops_fault}
use Rattle.blif.specs.Resolved.{Resolved, Numbered}
use Rattle.refusal.specs.declared.Cause.TheVariants.{TextModel}

left-zeros : (n k : ℕ) → left (replicate n 0) k ≡ k
left-zeros n zero = refl
left-zeros n (suc k) = rw (eq-eqb (get_or (replicate n 0) k 0) 0 (zeros-at n k), left-zeros n k)

-- no gate is placed
pub none-placed : (S : ℕ → List ℕ) (n g : ℕ) → Kept S n g 0 no_place no_place
none-placed S n g =
    record {
      long = refl;
      wide = refl;
      low = λ j. rw (zeros-at 1024 j) (omega arith);
      after = λ j i h m. absurd (omega (arith, zeros-at 1024 j));
      back = λ j h. absurd (omega (arith, zeros-at 1024 j));
      forth = λ p h. absurd (omega arith);
      count = rw (zero-add, left-zeros 1024 g);
    }

module _ {t s l : List ℕ} {n : ℕ} {heads pins counts outs : List ℕ} {inputs gates outputs : ℕ}
    (r : Resolved t s l n heads pins counts outs inputs gates outputs) where
  pub tables : Tables inputs pins counts
  tables = record { few = r.counted.few_inputs; many = r.few_pins; known = r.pins_known }

  pub same-loops : {numbers : List ℕ} → Numbered t s l n numbers inputs gates
      → loop_fault (sources_of pins counts) inputs gates (λ (j : ℕ). get_or numbers (inputs + j) 0) ≡ loops_fault (lines_from t s l n 0)
  unfolding loop_fault
  same-loops {numbers} q =
      lowest-same
      (λ (j : ℕ). refuse_unless (not (via (sources_of pins counts) inputs gates j j)) TextModel (get_or numbers (inputs + j) 0))
      (λ (j : ℕ). refuse_unless (not (via (sources_of pins counts) inputs gates j j)) TextModel (line_at (defined (lines_from t s l n 0)) (inputs + j)))
      gates
      (λ j h. ap (refuse_unless (not (via (sources_of pins counts) inputs gates j j)) TextModel) (q.gate_lines j h))
      ∙ rw (r.sources_are, r.counted.inputs_are, r.counted.gates_are) refl
