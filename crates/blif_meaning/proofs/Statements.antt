-- The statements of specs/Statements.antt. Assumes nothing.
use Prim.Native.Nat.{ℕ, zero, suc, ◌+◌, ◌/◌, ◌^◌, ◌<◌}
use mathlib.Core.Path.{◌≡◌, refl, ap, ap₂, sym, subst, ◌∙◌}
use mathlib.Core.Bool.{Bool, true, false}
use mathlib.Core.List.{List, [], ◌∷◌, map, map-map, Memᴰ}
use native.Mathlib.Omega.{arith}
use lib.ListN.{length, get_or, length-map, length-append, get_or-append}
use lib.Seq.{get_or-append-add}
use borrow.Author.Tests.{eqb-true}
use Rattle.refusal.specs.Judgement.{Fine}
use Rattle.refusal.specs.Judgement.{otherwise}
use Rattle.refusal.proofs.Laws.{otherwise-fine, lowest-fine, unless-fine}
use Rattle.figure.specs.Figure.{is_odd, answer}
use Rattle.netlist.specs.Netlist.{Netlist, right_values}
use Rattle.netlist.specs.WellFormed.{PinsBelow}
use Rattle.texts.specs.Words.{Word}
use Rattle.statements.specs.Lines.{Line}
use Rattle.names.specs.Names.{same}
use Rattle.names.proofs.Names.{same-equal}
use Rattle.placing.specs.Placing.{entries, Reads, Kept}
use Rattle.placing.proofs.Earliest.{earliest}
use Rattle.loops.proofs.First.{all_placed-all}
use Rattle.model.specs.Model.{inputs_key, outputs_key, gates_key, listed, gates_of, defined, number, no_word, no_gate}
use Rattle.model.specs.Counts.{line_at, count_fault}
use Rattle.model.proofs.Heading.{gates-listed}
use Rattle.covers.specs.Cover.{cover_value, cover_table}
use Rattle.covers.proofs.Cover.{table-answer}
use Rattle.meaning.specs.Net.{source_of, placed_net}
use Rattle.meaning.proofs.Meaning.{entries-length, given, given-inputs, given-gates, meaning, below, net}
use Rattle.resolve.specs.Names.{again_at, again_fault, unknown_fault, names_fault, sources_in, source_numbers}
use Rattle.blif.specs.Reading.{input_count, gate_count, output_count, output_numbers, table_in, no_place, order_in, model_net, model_fault, loops_fault}
use Rattle.blif.specs.Stages.{sources_fault}
use Rattle.blif.proofs.Counting.{within}
use Rattle.blif.proofs.Placing.{none-placed}
use Rattle.blif.proofs.Sources.{mapped, all_known}
use Rattle.blif_meaning.proofs.Run.{Ran, ran}
use Rattle.blif_meaning.specs.Statements.{TableIsCover, Consistent, ValuesExist, ValuesRight, EarliestNext, SourcesFirst}
use Rattle.refusal.specs.declared.Cause.TheVariants.{TextModel}

pub table-is-cover : TableIsCover
unfolding cover_table
table-is-cover cover vs = table-answer (cover_value cover) vs

-- the first definition of a known name has that name
pub number-name : (ds : List Word) (w : List ℕ) → number ds w < length ds → (get_or ds (number ds w) no_word).bytes ≡ w
number-name [] w h = absurd (omega arith)
number-name (d ∷ ds) w h = go (same d.bytes w) refl (number-name ds w)
  where
    go : (b : Bool) → same d.bytes w ≡ b → (number ds w < length ds → (get_or ds (number ds w) no_word).bytes ≡ w)
        → (get_or (d ∷ ds) (number (d ∷ ds) w) no_word).bytes ≡ w
    go true e ih = rw e (same-equal d.bytes w e)
    go false e ih = rw e (ih (less (rw e at h)))
      where
        less : suc (number ds w) < suc (length ds) → number ds w < length ds
        less x = omega arith

map-known : (ds us : List Word) (v : List ℕ → Bool) → ((i : ℕ) → i < length us → number ds (get_or us i no_word).bytes < length ds)
    → map (λ (d : ℕ). v (get_or ds d no_word).bytes) (map (λ (w : Word). number ds w.bytes) us) ≡ map (λ (w : Word). v w.bytes) us
map-known ds [] v f = refl
map-known ds (u ∷ us) v f =
    ap₂ ◌∷◌ (ap v (number-name ds u.bytes (f 0 (omega arith)))) (map-known ds us v (λ i h. f (suc i) (omega arith)))

pub map_at : {A : Type 0} (f : A → ℕ) (y : A) (z : ℕ) (xs : List A) (k : ℕ) → k < length xs → get_or (map f xs) k z ≡ f (get_or xs k y)
map_at f y z [] k h = absurd (omega arith)
map_at f y z (x ∷ xs) zero h = refl
map_at f y z (x ∷ xs) (suc k) h = map_at f y z xs k (omega arith)

pub all-defined : (ls : List Line) → length (defined ls) ≡ input_count ls + gate_count ls
all-defined ls = length-append (listed inputs_key ls) (listed gates_key ls) ∙ ap (λ (k : ℕ). input_count ls + k) (gates-listed ls)

-- no name is defined twice, and none is undefined
module _ (ls : List Line) (named : names_fault ls ≡ Fine) where
  pub outputs-fine : unknown_fault (defined ls) (listed outputs_key ls) ≡ Fine
  unfolding names_fault
  outputs-fine = (otherwise-fine (unknown_fault (defined ls) (listed outputs_key ls)) (sources_fault ls) (otherwise-fine (again_fault (defined ls)) (otherwise (unknown_fault (defined ls) (listed outputs_key ls)) (sources_fault ls)) named).1).0

  sources-fine : sources_fault ls ≡ Fine
  unfolding names_fault
  sources-fine = (otherwise-fine (unknown_fault (defined ls) (listed outputs_key ls)) (sources_fault ls) (otherwise-fine (again_fault (defined ls)) (otherwise (unknown_fault (defined ls) (listed outputs_key ls)) (sources_fault ls)) named).1).1

  gate-fine : (j : ℕ) → j < gate_count ls → (i : ℕ) → i < length (sources_in ls j) → number (defined ls) (get_or (sources_in ls j) i no_word).bytes < length (defined ls)
  gate-fine j h =
      all_known (defined ls) (sources_in ls j) (lowest-fine (λ (j : ℕ). unknown_fault (defined ls) (sources_in ls j)) (gate_count ls) j h sources-fine)

  pub known : (j d : ℕ) → j < gate_count ls → Memᴰ d (source_numbers ls j) → d < input_count ls + gate_count ls
  known j d h m = rw (← all-defined ls) (mapped (defined ls) (sources_in ls j) d (gate-fine j h) m)

  pub gates_known : (j i : ℕ) → j < gate_count ls → Reads (source_numbers ls) (input_count ls) j i → i < gate_count ls
  gates_known j i h m = omega (arith, known j (input_count ls + i) h m)

  -- definition d is its name's first
  number-own : (d : ℕ) → d < length (defined ls) → number (defined ls) (get_or (defined ls) d no_word).bytes ≡ d
  unfolding names_fault again_fault
  number-own d h =
      eqb-true _ d
      (unless-fine _ TextModel (line_at (defined ls) d)
      (lowest-fine (again_at (defined ls)) (length (defined ls)) d h
      (otherwise-fine (again_fault (defined ls)) (otherwise (unknown_fault (defined ls) (listed outputs_key ls)) (sources_fault ls)) named).0))

module _ (ls : List Line) (fine : model_fault ls ≡ Fine) where
  pub counts-fine : count_fault ls ≡ Fine
  counts-fine = (otherwise-fine (count_fault ls) (otherwise (names_fault ls) (loops_fault ls)) fine).0

  pub names-fine : names_fault ls ≡ Fine
  names-fine = (otherwise-fine (names_fault ls) (loops_fault ls) (otherwise-fine (count_fault ls) (otherwise (names_fault ls) (loops_fault ls)) fine).1).0

  loops-fine : loops_fault ls ≡ Fine
  loops-fine = (otherwise-fine (names_fault ls) (loops_fault ls) (otherwise-fine (count_fault ls) (otherwise (names_fault ls) (loops_fault ls)) fine).1).1

  pub r : Ran (source_numbers ls) (input_count ls) (gate_count ls) no_place
  r = ran (source_numbers ls) (input_count ls) (gate_count ls) no_place (within ls counts-fine).few_gates no_place (none-placed (source_numbers ls) (input_count ls) (gate_count ls))

  all_are : r.count ≡ gate_count ls
  all_are =
      all_placed-all (source_numbers ls) (input_count ls) (gate_count ls) (gates_known ls names-fine) no_place r.place r.order r.count r.placed
      (λ (j : ℕ). line_at (defined ls) (input_count ls + j)) loops-fine

  pub kept : Kept (source_numbers ls) (input_count ls) (gate_count ls) (gate_count ls) r.place r.order
  kept = subst (λ (k : ℕ). Kept (source_numbers ls) (input_count ls) (gate_count ls) k r.place r.order) all_are r.placed.kept

  unfoldable pub placed_model : Netlist
  placed_model = net (source_numbers ls) (table_in ls) (input_count ls) (gate_count ls) r.place r.order (output_numbers ls) kept (known ls names-fine)

  pub same-model : placed_model ≡ model_net ls
  unfolding placed_model net model_net
  same-model =
      ap₂ (λ (p o : List ℕ). placed_net (source_numbers ls) (table_in ls) (input_count ls) p o (output_numbers ls))
      r.placed.as_said
      (ap (entries r.order 0) (sym all_are) ∙ r.placed.ordered)

  pub first : PinsBelow (model_net ls)
  unfolding placed_model
  first = subst PinsBelow same-model (below (source_numbers ls) (table_in ls) (input_count ls) (gate_count ls) r.place r.order (output_numbers ls) kept (known ls names-fine))

  module _ (q : ℕ) where
    -- a name has the right value of its first definition
    abbrev pub right_of : List ℕ → Bool
    right_of w =
        given (source_numbers ls) (table_in ls) (input_count ls) (gate_count ls) r.place r.order (output_numbers ls) kept (known ls names-fine) q (number (defined ls) w)

    pub right-consistent : Consistent ls q right_of
    right-consistent =
        record {
          inputs = λ i h. named i (omega (arith, all-defined ls)) (get_or-append (listed inputs_key ls) (listed gates_key ls) no_word i h)
              ∙ given-inputs (source_numbers ls) (table_in ls) (input_count ls) (gate_count ls) r.place r.order (output_numbers ls) kept (known ls names-fine) q i h;
          gates = λ j h. named (input_count ls + j) (omega (arith, all-defined ls)) (get_or-append-add (listed inputs_key ls) (listed gates_key ls) j no_word)
              ∙ given-gates (source_numbers ls) (table_in ls) (input_count ls) (gate_count ls) r.place r.order (output_numbers ls) kept (known ls names-fine) q j h
              ∙ cover j;
        }
      where
        valued : ℕ → Bool
        valued = given (source_numbers ls) (table_in ls) (input_count ls) (gate_count ls) r.place r.order (output_numbers ls) kept (known ls names-fine) q

        named : (d : ℕ) → d < length (defined ls) → {w : Word} → get_or (defined ls) d no_word ≡ w → right_of w.bytes ≡ valued d
        named d h e = ap (λ (w : Word). right_of w.bytes) (sym e) ∙ ap valued (number-own ls names-fine d h)

        cover : (j : ℕ) → answer (table_in ls j) (map valued (source_numbers ls j))
            ≡ cover_value (get_or (gates_of ls) j no_gate).cover (map (λ (w : Word). right_of w.bytes) (sources_in ls j))
        cover j =
            ap (answer (table_in ls j)) (map-map valued (λ (w : Word). number (defined ls) w.bytes) (sources_in ls j))
            ∙ ap (λ (a : ℕ). answer (cover_table a (get_or (gates_of ls) j no_gate).cover) (map (λ (w : Word). right_of w.bytes) (sources_in ls j)))
            (sym (length-map (sources_in ls j) (λ (w : Word). right_of w.bytes)))
            ∙ table-is-cover (get_or (gates_of ls) j no_gate).cover (map (λ (w : Word). right_of w.bytes) (sources_in ls j))

  module _ (q : ℕ) (v : List ℕ → Bool) (c : Consistent ls q v) where
    -- the value of a definition
    abbrev value : ℕ → Bool
    value d = v (get_or (defined ls) d no_word).bytes

    input-values : (i : ℕ) → i < input_count ls → v (get_or (defined ls) i no_word).bytes ≡ is_odd (q / 2 ^ i)
    input-values i h = ap (λ (w : Word). v w.bytes) (get_or-append (listed inputs_key ls) (listed gates_key ls) no_word i h) ∙ c.inputs i h

    gate-values : (j : ℕ) → j < gate_count ls
        → v (get_or (defined ls) (input_count ls + j) no_word).bytes ≡ answer (table_in ls j) (map (λ (d : ℕ). v (get_or (defined ls) d no_word).bytes) (source_numbers ls j))
    gate-values j h =
        let vs = map (λ (w : Word). v w.bytes) (sources_in ls j) in
        let cover = (get_or (gates_of ls) j no_gate).cover in
        ap (λ (w : Word). v w.bytes) (get_or-append-add (listed inputs_key ls) (listed gates_key ls) j no_word)
        ∙ c.gates j h
        ∙ sym (table-is-cover cover vs)
        ∙ ap₂ (λ (m : ℕ) (xs : List Bool). answer (cover_table m cover) xs) (length-map (sources_in ls j) (λ (w : Word). v w.bytes))
        (sym (map-known (defined ls) (sources_in ls j) v (gate-fine ls names-fine j h)))

    pub output-values : (k : ℕ) → k < output_count ls
        → get_or (right_values (model_net ls) q) (get_or (model_net ls).outputs k 0) false ≡ v (get_or (listed outputs_key ls) k no_word).bytes
    unfolding placed_model net
    output-values k h =
        subst (λ (m : Netlist). get_or (right_values m q) (get_or m.outputs k 0) false ≡ v (get_or (listed outputs_key ls) k no_word).bytes) same-model
        (ap (λ (x : ℕ). get_or (right_values placed_model q) x false) place
        ∙ meaning (source_numbers ls) (table_in ls) (input_count ls) (gate_count ls) r.place r.order (output_numbers ls) kept (known ls names-fine)
        (λ (d : ℕ). v (get_or (defined ls) d no_word).bytes) q input-values gate-values d (rw (← all-defined ls) low)
        ∙ ap v (number-name (defined ls) (get_or (listed outputs_key ls) k no_word).bytes low))
      where
        d : ℕ
        d = number (defined ls) (get_or (listed outputs_key ls) k no_word).bytes

        low : number (defined ls) (get_or (listed outputs_key ls) k no_word).bytes < length (defined ls)
        low = all_known (defined ls) (listed outputs_key ls) (outputs-fine ls names-fine) k h

        numbered : get_or (output_numbers ls) k 0 ≡ number (defined ls) (get_or (listed outputs_key ls) k no_word).bytes
        numbered = map_at (λ (w : Word). number (defined ls) w.bytes) no_word 0 (listed outputs_key ls) k h

        place : get_or (map (source_of (input_count ls) r.place) (output_numbers ls)) k 0
            ≡ source_of (input_count ls) r.place (number (defined ls) (get_or (listed outputs_key ls) k no_word).bytes)
        place =
            map_at (source_of (input_count ls) r.place) 0 0 (output_numbers ls) k
            (rw (length-map (listed outputs_key ls) (λ (w : Word). number (defined ls) w.bytes)) h)
            ∙ ap (source_of (input_count ls) r.place) numbered

pub earliest-next : EarliestNext
earliest-next ls fine = (
  all,
  λ q h. earliest (source_numbers ls) (input_count ls) (gate_count ls) (within ls (counts-fine ls fine)).few_gates no_place refl (λ j. omega (arith, start.low j)) q (rw all h),
)
  where
    start : Kept (source_numbers ls) (input_count ls) (gate_count ls) 0 no_place no_place
    start = none-placed (source_numbers ls) (input_count ls) (gate_count ls)

    all : length (order_in ls) ≡ gate_count ls
    all = sym (ap length (r ls fine).placed.ordered) ∙ entries-length (r ls fine).order 0 (r ls fine).count ∙ all_are ls fine

pub sources-first : SourcesFirst
sources-first ls fine = first ls fine

pub values-exist : ValuesExist
values-exist ls fine q = (right_of ls fine q, right-consistent ls fine q)

pub values-right : ValuesRight
values-right ls fine q v c k h = output-values ls fine q v c k h
