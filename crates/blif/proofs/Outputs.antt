-- The outputs of a text, as numbers of definitions. Assumes nothing.
use Prim.Native.Nat.{ℕ, zero, suc, ◌+◌, ◌≤◌}
use mathlib.Core.Path.{◌≡◌, refl, ap₂, ◌∙◌}
use mathlib.Core.List.{List, ◌∷◌, map}
use mathlib.Core.Logic.{by_cases}
use native.Mathlib.Decide.{dec_lt}
use native.Mathlib.Nat.{zero-add}
use native.Mathlib.Omega.{arith}
use lib.ListN.{length, get_or-eq_default, replicate, take}
use lib.Seq.{get_or-take, length-take-le}
use Rattle.lists.proofs.Parts.{zeros-at}
use Rattle.texts.specs.Words.{Word, held}
use Rattle.statements.specs.Lines.{Places}
use Rattle.placing.specs.Placing.{entries}
use Rattle.model.specs.Model.{outputs_key, listed, defined, number}
use Rattle.model.specs.Tables.{lines_from, Collected}
use Rattle.resolve.specs.Names.{unknown_fault}
use Rattle.resolve.specs.Found.{Found}
use Rattle.resolve.proofs.Gates.{numbered}
use Rattle.blif.specs.Reading.{output_count}
use Rattle.blif.specs.Stages.{Named, OutputsKnown}

abbrev zeros : List ℕ
zeros = replicate 64 0

module _ {t s l : List ℕ} {n : ℕ} {names numbers : List ℕ} {many : ℕ} {heads : List ℕ} {inputs gates : ℕ}
    (d : Named t s l n names numbers many heads inputs gates) {uses places : List ℕ} {outputs : ℕ}
    (c : Collected t (replicate 64 0) (replicate 64 0) 0 (listed outputs_key (lines_from t s l n 0)) uses places outputs) where
  -- the words of the uses
  pub uses-are : held t uses places 0 outputs ≡ listed outputs_key (lines_from t s l n 0)
  uses-are = c.words

  pub uses-count : outputs ≡ output_count (lines_from t s l n 0)
  uses-count = c.counted ∙ zero-add (length (listed outputs_key (lines_from t s l n 0)))

  pub uses-few : outputs ≤ 64
  uses-few = rw uses-count d.within.few_outputs

  pub uses-in : Places t uses (0 + outputs)
  uses-in =
      record {
        within = rw (zero-add, c.long) uses-few;
        inside = λ k h. c.inside (λ i low. absurd (omega arith)) k (omega arith);
      }

  pub same_outputs : unknown_fault (held t names numbers 0 many) (held t uses places 0 outputs) ≡ unknown_fault (defined (lines_from t s l n 0)) (listed outputs_key (lines_from t s l n 0))
  same_outputs = ap₂ unknown_fault d.defined_are uses-are

  pub known : {outs : List ℕ} → Found t names many uses 0 outputs (replicate 64 0) outs 0 → OutputsKnown t s l n outs inputs outputs
  known {outs} found =
      record {
        outputs_are = uses-count;
        outs_are =
            numbered numbers t names many uses places outs 0 0 outputs found.new_at
            ∙ ap₂ (λ (ds us : List Word). map (λ (w : Word). number ds w.bytes) us) d.defined_are uses-are;
        outs_known = found.below (inputs + 1024) (omega (arith, d.many_are, d.gates_are, d.within.few_gates)) (λ i. rw (zeros-at 64 i) (omega arith));
        outs_long = rw found.kept.long uses-few;
      }

-- the same outputs in a table cut to their count
entries-cut : (k : ℕ) (outs : List ℕ) (i m : ℕ) → i + m ≤ k → entries (take k outs) i m ≡ entries outs i m
entries-cut k outs i zero h = refl
entries-cut k outs i (suc m) h = ap₂ ◌∷◌ (get_or-take k outs i 0 (omega (arith, h))) (entries-cut k outs (suc i) m (omega (arith, h)))

pub cut_outputs : {t s l : List ℕ} {n : ℕ} {outs : List ℕ} {inputs k : ℕ} → OutputsKnown t s l n outs inputs k
    → OutputsKnown t s l n (take k outs) inputs (length (take k outs))
cut_outputs {outs = outs} {inputs = inputs} {k = k} o =
    rw (length-take-le k outs o.outs_long)
    (record {
      outputs_are = o.outputs_are;
      outs_are = entries-cut k outs 0 k (omega arith) ∙ o.outs_are;
      outs_known = λ i. by_cases (dec_lt i k)
          (λ low. rw (get_or-take k outs i 0 low) (o.outs_known i))
          (λ past.
          let short : length (take k outs) ≤ i = omega (arith, length-take-le k outs o.outs_long, past) in
          rw (get_or-eq_default (take k outs) 0 short) (omega arith));
      outs_long = omega (arith, length-take-le k outs o.outs_long);
    })
