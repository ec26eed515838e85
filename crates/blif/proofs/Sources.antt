-- Tables of known names: the sources of all gates. Assumes nothing.
use Prim.Native.Nat.{ℕ, suc, ◌+◌, ◌<◌, ◌≤◌}
use mathlib.Core.Path.{◌≡◌, refl, ap, ap₂, sym, subst, ◌∙◌, fun_ext}
use mathlib.Core.List.Memᴰ
use mathlib.Core.List.{List, [], ◌∷◌, map, Memᴰ}
use mathlib.Core.Logic.{by_cases, ⊎_elim}
use native.Mathlib.Decide.{dec_lt}
use native.Mathlib.Nat.{zero-add}
use native.Mathlib.Omega.{arith}
use lib.ListN.{length, get_or, replicate, get_or-eq_default}
use borrow.Author.Tests.{ltb-true}
use Rattle.lists.proofs.Parts.{zeros-at}
use Rattle.refusal.specs.Judgement.{Fine}
use Rattle.refusal.specs.Judgement.{lowest}
use Rattle.refusal.proofs.Laws.{lowest-same, lowest-fine, unless-fine}
use Rattle.texts.specs.Words.{Word, held}
use Rattle.statements.specs.Lines.{Line}
use Rattle.placing.specs.Placing.{sources_of, Reads}
use Rattle.model.specs.Model.{GateText, defined, number, gates_of, sources, no_word, no_gate}
use Rattle.model.specs.Counts.{line_at}
use Rattle.model.specs.Tables.{lines_from, gate_from}
use Rattle.model.proofs.Runs.{held_at, held-length}
use Rattle.resolve.specs.Names.{unknown_at, unknown_fault, sources_in, source_numbers}
use Rattle.resolve.specs.Found.{Sources, Room, Clear}
use Rattle.blif.specs.Reading.{gate_count}
use Rattle.blif.specs.Resolved.{Resolved, Numbered}
use Rattle.blif.specs.Stages.{Named, OutputsKnown, sources_fault}
use Rattle.refusal.specs.declared.Cause.TheVariants.{TextModel}

pub cleared : Clear (replicate 4096 0) (replicate 1024 0)
cleared = record { no_pin = zeros-at 4096; no_count = zeros-at 1024 }

pub roomy : Room (replicate 4096 0) (replicate 1024 0)
roomy = record { long = refl; wide = refl }

-- what stands in a map of known names is a definition's number
pub mapped : (ds us : List Word) (d : ℕ) → ((i : ℕ) → i < length us → number ds (get_or us i no_word).bytes < length ds)
    → Memᴰ d (map (λ (w : Word). number ds w.bytes) us) → d < length ds
mapped ds [] d f m = elim m [ ]
mapped ds (u ∷ us) d f m =
    ⊎_elim (λ (e : d ≡ number ds u.bytes). rw e (f 0 (omega arith)))
    (mapped ds us d (λ i h. f (suc i) (omega arith)))
    (Memᴰ.cases_cons m)

pub all_known : (ds us : List Word) → unknown_fault ds us ≡ Fine → (i : ℕ) → i < length us → number ds (get_or us i no_word).bytes < length ds
unfolding unknown_fault
all_known ds us e i h = ltb-true _ _ (unless-fine _ TextModel (line_at us i) (lowest-fine (unknown_at ds us) (length us) i h e))

module _ {t s l : List ℕ} {n : ℕ} {names numbers : List ℕ} {many : ℕ} {heads : List ℕ} {inputs gates : ℕ}
    (d : Named t s l n names numbers many heads inputs gates) where
  abbrev ls : List Line
  ls = lines_from t s l n 0

  many-long : many ≡ length (defined (lines_from t s l n 0))
  many-long = sym (held-length t names numbers 0 many) ∙ ap length d.defined_are

  -- the lines that define gates
  pub numbered : Numbered t s l n numbers inputs gates
  numbered = record { gate_lines = λ j h. line j h; numbers_long = rw (← d.many_are) d.numbers_long }
    where
      line : (j : ℕ) → j < gates → get_or numbers (inputs + j) 0 ≡ line_at (defined (lines_from t s l n 0)) (inputs + j)
      line j h =
          let here : inputs + j < many = omega (arith, d.many_are) in
          sym
          (ap (λ (ds : List Word). line_at ds (inputs + j)) (sym d.defined_are)
          ∙ ap (λ (w : Word). w.line) (held_at t names numbers 0 many (inputs + j) here)
          ∙ ap (λ (x : ℕ). get_or numbers x 0) (zero-add (inputs + j)))

  -- the refusals of undefined sources
  pub same-sources : lowest (λ (j : ℕ). unknown_fault (held t names numbers 0 many) (sources (gate_from t s l n (get_or heads j 0)))) gates ≡ sources_fault (lines_from t s l n 0)
  same-sources =
      lowest-same
      (λ (j : ℕ). unknown_fault (held t names numbers 0 many) (sources (gate_from t s l n (get_or heads j 0))))
      (λ (j : ℕ). unknown_fault (defined (lines_from t s l n 0)) (sources_in (lines_from t s l n 0) j))
      gates
      (λ j h. ap₂ (λ (ds : List Word) (g : GateText). unknown_fault ds (sources g)) d.defined_are (d.headed.each j h))
      ∙ ap (lowest (λ (j : ℕ). unknown_fault (defined (lines_from t s l n 0)) (sources_in (lines_from t s l n 0) j))) d.gates_are

  module _ {pins counts : List ℕ} (found : Sources (held t names numbers 0 many) t s l n heads pins counts gates) where
    each-source : (j : ℕ) → sources_of pins counts j ≡ source_numbers (lines_from t s l n 0) j
    each-source j = by_cases (dec_lt j gates) inside (λ past. outside (omega arith))
      where
        inside : j < gates → sources_of pins counts j ≡ source_numbers (lines_from t s l n 0) j
        inside h =
            found.each j h
            ∙ ap₂ (λ (ds : List Word) (g : GateText). map (λ (w : Word). number ds w.bytes) (sources g)) d.defined_are (d.headed.each j h)

        outside : gates ≤ j → sources_of pins counts j ≡ source_numbers (lines_from t s l n 0) j
        outside h =
            let none : get_or (gates_of (lines_from t s l n 0)) j no_gate ≡ no_gate = get_or-eq_default (gates_of (lines_from t s l n 0)) no_gate (omega (arith, d.gates_are)) in
            rw (found.past j h, none) refl

    pub resolved : {outs : List ℕ} {outputs : ℕ} → OutputsKnown t s l n outs inputs outputs
        → sources_fault (lines_from t s l n 0) ≡ Fine
        → Resolved t s l n heads pins counts outs inputs gates outputs
    resolved {outs} {outputs} o fine =
        record {
          words = d.words;
          counted =
              record {
                inputs_are = d.inputs_are;
                gates_are = d.gates_are;
                outputs_are = o.outputs_are;
                few_inputs = rw d.inputs_are d.within.few_inputs;
                few_gates = rw d.gates_are d.within.few_gates;
                few_outputs = rw o.outputs_are d.within.few_outputs;
              };
          headed = d.headed;
          heads_long = d.heads_long;
          sources_are = fun_ext each-source;
          few_pins = found.few;
          pins_known = found.below (inputs + 1024) (rw (held-length t names numbers 0 many) (omega (arith, d.many_are, d.gates_are, d.within.few_gates))) (omega arith);
          pins_long = found.room.long;
          counts_long = found.room.wide;
          gates_known = λ j i h m. known j i h m;
          outs_are = o.outs_are;
          outs_known = o.outs_known;
          outs_long = o.outs_long;
        }
      where
        known : (j i : ℕ) → j < gates → Reads (sources_of pins counts) inputs j i → i < gates
        known j i h m =
            let low : inputs + i < length (defined (lines_from t s l n 0)) =
            mapped (defined (lines_from t s l n 0)) (sources_in (lines_from t s l n 0) j) (inputs + i)
            (all_known (defined (lines_from t s l n 0)) (sources_in (lines_from t s l n 0) j)
            (lowest-fine (λ (j : ℕ). unknown_fault (defined (lines_from t s l n 0)) (sources_in (lines_from t s l n 0) j)) (gate_count (lines_from t s l n 0)) j (rw (← d.gates_are) h) fine))
            (subst (λ (xs : List ℕ). Memᴰ (inputs + i) xs) (each-source j) m) in
            omega (arith, d.many_are, many-long)
