-- The tables of a text whose gates are placed hold its model. Assumes nothing.
use Prim.Native.Nat.{ℕ, zero, suc, ◌+◌, ◌*◌, ◌<◌, ◌≤◌}
use mathlib.Core.Path.{◌≡◌, refl, ap, ap₂, sym, subst, ◌∙◌}
use mathlib.Core.List.{List, ◌∷◌, ◌++◌, map}
use native.Mathlib.Nat.{zero-add}
use native.Mathlib.Omega.{arith}
use lib.ListN.{length, get_or, drop, length-map}
use lib.Seq.{sets}
use borrow.Author.Tests.{le-leb, lt-leb}
use Rattle.lists.proofs.Parts.{sets_first}
use Rattle.refusal.specs.Judgement.{Fine, refused}
use Rattle.netlist.specs.Netlist.{Gate, Netlist}
use Rattle.texts.specs.Words.{Word}
use Rattle.statements.specs.Lines.{Line}
use Rattle.placing.specs.Placing.{entries, sources_of, Placed}
use Rattle.model.specs.Model.{GateText, number, defined}
use Rattle.model.specs.Tables.{lines_from}
use Rattle.covers.specs.Cover.{cover_table}
use Rattle.meaning.specs.Net.{source_of, placed_gate}
use Rattle.meaning.proofs.Meaning.{entries-length}
use Rattle.resolve.specs.Names.{sources_in}
use Rattle.image.specs.Image.{image_length}
use Rattle.records.specs.Bytes.{net_contents, image_of}
use Rattle.records.proofs.Length.{image-bytes}
use Rattle.writing.specs.Written.{table_at, held_net, Placeable, Ordered}
use Rattle.writing.proofs.Pins.{gates-length, mapped-length}
use Rattle.blif.specs.Reading.{table_in, no_place, model_net, model_length, room_fault, image_over}
use Rattle.blif.specs.Resolved.{Resolved}
use Rattle.refusal.specs.declared.Cause.TheVariants.{ImageSlice}

-- functions that agree on entries below g have the same map
map_below : {A : Type 0} (f h : ℕ → A) (g : ℕ) (order : List ℕ) (i k : ℕ) → ((q : ℕ) → q < k → get_or order (i + q) 0 < g) → ((j : ℕ) → j < g → f j ≡ h j)
    → map f (entries order i k) ≡ map h (entries order i k)
map_below f h g order i zero low e = refl
map_below f h g order i (suc k) low e =
    let here : i + 0 ≡ i = omega arith in
    ap₂ ◌∷◌ (e (get_or order i 0) (subst (λ (x : ℕ). get_or order x 0 < g) here (low 0 (omega arith))))
    (map_below f h g order (suc i) k (λ q l. subst (λ (x : ℕ). get_or order x 0 < g) (shift q) (low (suc q) (omega arith))) e)
  where
    shift : (q : ℕ) → i + suc q ≡ suc i + q
    shift q = omega arith

module _ {t s l : List ℕ} {n : ℕ} {heads pins counts outs place order : List ℕ} {inputs gates outputs : ℕ}
    (r : Resolved t s l n heads pins counts outs inputs gates outputs)
    (p : Placed (sources_of pins counts) inputs gates no_place gates place order) where
  abbrev ls : List Line
  ls = lines_from t s l n 0

  -- each gate's table
  same_count : (j : ℕ) → get_or counts j 0 ≡ length (sources_in (lines_from t s l n 0) j)
  same_count j =
      sym (entries-length pins (4 * j) (get_or counts j 0))
      ∙ ap (λ (f : ℕ → List ℕ). length (f j)) r.sources_are
      ∙ length-map (sources_in (lines_from t s l n 0) j) (λ (w : Word). number (defined (lines_from t s l n 0)) w.bytes)

  same_table : (j : ℕ) → j < gates → table_at t s l n heads counts j ≡ table_in (lines_from t s l n 0) j
  same_table j h = ap₂ (λ (m : ℕ) (g : GateText). cover_table m g.cover) (same_count j) (r.headed.each j h)

  same_gates : map (placed_gate (sources_of pins counts) (table_at t s l n heads counts) inputs place) (entries order 0 gates)
      ≡ map (placed_gate (sources_of pins counts) (table_in (lines_from t s l n 0)) inputs place) (entries order 0 gates)
  same_gates =
      map_below (placed_gate (sources_of pins counts) (table_at t s l n heads counts) inputs place)
      (placed_gate (sources_of pins counts) (table_in (lines_from t s l n 0)) inputs place) gates order 0 gates
      (λ q h. rw zero-add (p.kept.forth q h).0)
      (λ j h. ap (λ (x : ℕ). placed_gate (sources_of pins counts) (λ _. x) inputs place j) (same_table j h))

  pub same-net : held_net t s l n heads pins counts outs place order inputs gates outputs ≡ model_net (lines_from t s l n 0)
  unfolding held_net model_net
  same-net =
      ap (λ (gs : List Gate). record { inputs = inputs; gates = gs; outputs = map (source_of inputs place) (entries outs 0 outputs) }) same_gates
      ∙ rw (p.ordered, p.as_said, r.outs_are, r.sources_are, r.counted.inputs_are, r.counted.gates_are) refl

  -- the image's length
  abbrev bytes : ℕ
  bytes = image_length gates outputs

  pub same_length : image_length gates outputs ≡ model_length (lines_from t s l n 0)
  same_length = ap₂ image_length r.counted.gates_are r.counted.outputs_are

  image-long : length (image_of (held_net t s l n heads pins counts outs place order inputs gates outputs)) ≡ image_length gates outputs
  unfolding held_net
  image-long =
      image-bytes (net_contents (held_net t s l n heads pins counts outs place order inputs gates outputs))
      ∙ ap₂ image_length
      (gates-length (placed_gate (sources_of pins counts) (table_at t s l n heads counts) inputs place) order 0 gates)
      (mapped-length (source_of inputs place) outs 0 outputs)

  -- a slice that is too short, and one that is not
  pub short : (room : ℕ) → room < image_length gates outputs → room_fault (lines_from t s l n 0) room ≡ refused ImageSlice 0
  short room h = rw (lt-leb (model_length (lines_from t s l n 0)) room (rw (← same_length) h))

  pub fits : (room : ℕ) → image_length gates outputs ≤ room → room_fault (lines_from t s l n 0) room ≡ Fine
  fits room h = rw (le-leb (model_length (lines_from t s l n 0)) room (rw (← same_length) h))

  pub over : (old new : List ℕ) → image_length gates outputs ≤ length old
      → new ≡ sets old 0 (image_of (held_net t s l n heads pins counts outs place order inputs gates outputs)) → new ≡ image_over (lines_from t s l n 0) old
  unfolding image_over
  over old new h e =
      e
      ∙ sets_first (image_of (held_net t s l n heads pins counts outs place order inputs gates outputs)) old (image_length gates outputs) image-long h
      ∙ ap₂ (λ (net : Netlist) (k : ℕ). image_of net ++ drop k old) same-net same_length

  pub placeable : Placeable inputs pins counts place
  placeable =
      record {
        pinned = record {
          sourced = record {
            few = r.counted.few_inputs;
            long = p.kept.long;
            placed = λ j. omega (arith, p.kept.low j, r.counted.few_gates);
          };
          pins_long = r.pins_long;
          pins_known = r.pins_known;
        };
        counts_long = r.counts_long;
        counted = r.few_pins;
      }

  pub in_order : Ordered n heads order gates
  in_order =
      record {
        few = r.counted.few_gates;
        long = p.kept.wide;
        headed = r.heads_long;
        inside = r.headed.inside;
        ordered = λ q h. (p.kept.forth q h).0;
      }
