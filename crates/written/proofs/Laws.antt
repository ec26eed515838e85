-- The image that is written from an area passes and is read back, and tells what was written. Assumes nothing.
use Prim.Native.Nat.{ℕ, ◌^◌, ◌<◌}
use mathlib.Core.Path.{◌≡◌, refl, sym, ap, ap₂, ◌∙◌}
use mathlib.Core.Bool.{Bool, true, false}
use mathlib.Core.List.{List, ◌++◌}
use native.Mathlib.Nat.{lt_of_lt_of_le}
use native.Mathlib.Omega.{arith}
use borrow.Author.Tests.{ltb-true, ltb-false}
use lib.Dec.{ltb}
use lib.ListN.{get_or}
use lib.Pow.{pow_mono}
use Rattle.lists.specs.Lists.{joined}
use Rattle.lists.proofs.Joined.{joined_same}
use Rattle.rules.proofs.Sound.{sound}
use Rattle.chance.specs.Flip.{flip_units}
use Rattle.flips.specs.Written.{units_kind, units_field}
use Rattle.flips.specs.Statements.{ReadBack}
use Rattle.flips.proofs.Laws.{units-read-back}
use Rattle.area.specs.Layout.{gates, outputs, pin_count, table, pins, flip, output}
use Rattle.area.specs.Rules.{Workable, Sound}
use Rattle.area.proofs.Words.{output-source}
use Rattle.image.specs.Image.{image_inputs, image_gates, image_outputs, middle, record_count, record_table, record_pins, output_at}
use Rattle.image.specs.Loading.{record_units}
use Rattle.records.specs.Bytes.{two_bytes, record_of, contents_record, trailer_of, image_with}
use Rattle.records.specs.Passes.{Fits, GateFits, four}
use Rattle.records.proofs.Passes.{contents-pass, contents-read-back}
use Rattle.written.specs.Image.{area_contents, area_image}
use Rattle.written.specs.Statements.{SameWritten, AreaWritten, WrittenAgain, OneForm}

module _ (ws : List ℕ) (work : Workable ws) where
  flip-again : (j : ℕ) → j < gates ws → ReadBack (flip ws j)
  flip-again j here = units-read-back (flip ws j) (omega (arith, work.figures.flip_fits j here))

  gate-fits : (j : ℕ) → j < gates ws → GateFits (area_contents ws) j
  gate-fits j here =
      let g = work.net.gate j here in
      record {
        few_pins = g.few_pins;
        table_fits = g.table_bits;
        unused_zero = g.unused_zero;
        pins_below = g.pins_below;
        accepted = (flip-again j here).accepted;
        low = (flip-again j here).low (work.figures.flip_fits j here);
        eight = refl;
      }

  pub area-fits : Fits (area_contents ws)
  area-fits =
      let net = work.net in
      record {
        inputs_fit = net.inputs_fit;
        gates_fit = net.gates_fit;
        some_output = net.some_output;
        outputs_fit = net.outputs_fit;
        gate = gate-fits;
        outputs_below = output-source ws net;
      }

  -- every number has two bytes at most
  module _ (j : ℕ) (here : j < gates ws) where
    pub small-table : table ws j < 65_536
    small-table =
        let g = work.net.gate j here in
        lt_of_lt_of_le g.table_bits (pow_mono {i = 2 ^ pin_count ws j} {j = 16} (pow_mono {i = pin_count ws j} {j = 4} g.few_pins))

    pub small-pin : (i : ℕ) → get_or (pins ws j) i 0 < 65_536
    small-pin i = go (ltb i (pin_count ws j)) refl
      where
        go : (b : Bool) → ltb i (pin_count ws j) ≡ b → get_or (pins ws j) i 0 < 65_536
        go true e =
            omega (arith, (work.net.gate j here).pins_below i (ltb-true i (pin_count ws j) e), work.net.inputs_fit, work.net.gates_fit)
        go false e = omega (arith, (work.net.gate j here).unused_zero i (ltb-false i (pin_count ws j) e))

  written-units : (j : ℕ) → j < gates ws → record_units (middle (area_image ws)) j ≡ flip ws j
  unfolding record_units
  written-units j here =
      let read = (contents-read-back (area_contents ws) area-fits).gate j here in
      ap₂ flip_units read.kind read.field ∙ (flip-again j here).again

pub written-sound : (ws : List ℕ) → Sound ws → AreaWritten ws
written-sound ws s =
    let work = s.workable in
    record {
      passes = contents-pass (area_contents ws) (area-fits ws work);
      read_back = contents-read-back (area_contents ws) (area-fits ws work);
      units = written-units ws work;
    }

pub written-again : WrittenAgain
written-again ws fine = written-sound ws (sound ws fine)

-- ---- one form

pub four-pins : (ws : List ℕ) (j : ℕ) → four (pins ws j) ≡ pins ws j
unfolding four
four-pins ws j = refl

record_same : {a b c d u v : ℕ} {ps qs : List ℕ} → a ≡ b → u ≡ v → c ≡ d → ps ≡ qs
    → record_of a (units_kind u) c ps (units_field u) ≡ record_of b (units_kind v) d qs (units_field v)
record_same p q r s = λ i. record_of (p i) (units_kind (q i)) (r i) (s i) (units_field (q i))

parts_same : {n m g h k l : ℕ} (f f' o o' : ℕ → List ℕ) → n ≡ m → g ≡ h → k ≡ l → ((j : ℕ) → j < h → f j ≡ f' j) → ((i : ℕ) → i < l → o i ≡ o' i)
    → joined f g ++ (joined o k ++ trailer_of n g k) ≡ joined f' h ++ (joined o' l ++ trailer_of m h l)
parts_same {m = m} {h = h} {l = l} f f' o o' a b c p q =
    rw (a, b, c) (ap₂ (λ (x y : List ℕ). x ++ (y ++ trailer_of m h l)) (joined_same f f' h p) (joined_same o o' l q))

pub same_bytes : (vs ws : List ℕ) → SameWritten vs ws → area_image vs ≡ area_image ws
unfolding image_with
same_bytes vs ws s =
    parts_same (contents_record (area_contents vs)) (contents_record (area_contents ws)) (λ (k : ℕ). two_bytes (output vs k)) (λ (k : ℕ). two_bytes (output ws k))
    s.same_inputs s.same_gates s.same_outputs
    (λ j here. let g = s.same_gate j here in record_same g.same_count g.same_flip g.same_table g.same_pins)
    (λ k here. ap two_bytes (s.same_output k here))

pub one_form : OneForm
one_form vs ws vs-fine ws-fine = record { told = told; made = same_bytes vs ws }
  where
    told : area_image vs ≡ area_image ws → SameWritten vs ws
    told e =
        let v = written-again vs vs-fine in
        let w = written-again ws ws-fine in
        let same_gates : gates vs ≡ gates ws = sym v.read_back.gates ∙ ap image_gates e ∙ w.read_back.gates in
        let same_outputs : outputs vs ≡ outputs ws = sym v.read_back.outputs ∙ ap image_outputs e ∙ w.read_back.outputs in
        record {
          same_inputs = sym v.read_back.inputs ∙ ap image_inputs e ∙ w.read_back.inputs;
          same_gates = same_gates;
          same_outputs = same_outputs;
          same_gate = λ j here.
              let there : j < gates vs = omega (arith, same_gates) in
              let a = v.read_back.gate j there in
              let b = w.read_back.gate j here in
              record {
                same_count = sym a.count ∙ ap (λ (bs : List ℕ). record_count (middle bs) j) e ∙ b.count;
                same_table = sym a.table ∙ ap (λ (bs : List ℕ). record_table (middle bs) j) e ∙ b.table;
                same_pins = sym (four-pins vs j) ∙ sym a.pins ∙ ap (λ (bs : List ℕ). record_pins (middle bs) j) e ∙ b.pins ∙ four-pins ws j;
                same_flip = sym (v.units j there) ∙ ap (λ (bs : List ℕ). record_units (middle bs) j) e ∙ w.units j here;
              };
          same_output = λ k here.
              let there : k < outputs vs = omega (arith, same_outputs) in
              sym (v.read_back.output k there)
              ∙ ap₂ (λ (bs : List ℕ) (g : ℕ). output_at (middle bs) g k) e same_gates
              ∙ w.read_back.output k here;
        }
