-- `writing::write_gate` meets its contract. Assumes nothing.
use Prim.Native.Nat.{ℕ, ◌+◌, ◌*◌, ◌≤◌, ◌<◌}
use mathlib.Core.Path.{◌≡◌, ap, ap₂, sym, ◌∙◌}
use native.Mathlib.Omega.{arith}
use mathlib.Core.List.{List, map}
use lib.ListN.{length, get_or}
use lib.Seq.{sets}
use Rattle.area.specs.Layout.{most_pins, most_gates}
use Rattle.placing.specs.Placing.{entries}
use Rattle.model.specs.Model.{cover_of}
use Rattle.model.specs.Tables.{rest_at, lines_from}
use Rattle.model.proofs.Runs.{shorter}
use Rattle.covers.specs.Cover.{cover_table}
use Rattle.meaning.specs.Net.{source_of}
use Rattle.records.specs.Bytes.{record_of, no_field}
use Rattle.writing.specs.Written.{Pinned, Placeable}
use Rattle.records.proofs.Pins.{four_fit}
use Rattle.writing.proofs.Pins.{mapped-length, by-pins}
use Rattle.writing.proofs.write_gate.Goals as goal

-- the words of the line stand among n
pub overflow_add-from : goal.overflow_add-from
overflow_add-from c =
    let a = c.args in
    let e = c.entry-head in
    let low : c.entry-head.result < a.model.now.words.now.count = rw e.ensures c.requires.gate_in_bounds.1 in
    omega (arith, c.requires.words.few, shorter a.model.now.words.now.text.now a.model.now.words.now.starts.now a.model.now.words.now.lines.now a.model.now.words.now.count e.result c.line_rest.result low c.line_rest.ensures)

pub overflow_add-from-2 : goal.overflow_add-from-2
overflow_add-from-2 c =
    let a = c.args in
    let e = c.entry-head in
    let low : c.entry-head.result < a.model.now.words.now.count = rw e.ensures c.requires.gate_in_bounds.1 in
    omega (arith, c.requires.words.few, shorter a.model.now.words.now.text.now a.model.now.words.now.starts.now a.model.now.words.now.lines.now a.model.now.words.now.count e.result c.line_rest.result low c.line_rest.ensures)

pub table-table-requires : goal.table-table-requires
table-table-requires c =
    let a = c.args in
    let e = c.entry-head in
    let low : c.entry-head.result < a.model.now.words.now.count = rw e.ensures c.requires.gate_in_bounds.1 in (
      (c.requires.words.places, c.requires.words.numbered, c.requires.words.few),
      omega (arith, shorter a.model.now.words.now.text.now a.model.now.words.now.starts.now a.model.now.words.now.lines.now a.model.now.words.now.count e.result c.line_rest.result low c.line_rest.ensures),
      rw c.from-count.ensures (c.requires.placeable.0.counted _),
    )

-- what each pin asks
pin-known : {inputs gate count : ℕ} {pins counts place : List ℕ} → Placeable inputs pins counts place × (gate < most_gates) → count ≡ get_or counts gate 0
    → Pinned inputs pins place × (gate < most_gates) × (count ≤ most_pins)
pin-known {gate = gate} p e = (p.0.pinned, p.1, rw e (p.0.counted gate))

pub write_record-requires : goal.write_record-requires
write_record-requires c =
    let at_entry_lem = c.from-count in
    let few : at_entry_lem.result ≤ most_pins = rw at_entry_lem.ensures (c.requires.placeable.0.counted _) in record {
      record_bytes_in_bounds = c.requires.record_bytes_in_bounds;
      count_bound = (
        omega arith,
        c.table-table.ensures.upper_bound,
        four_fit c.pin.ensures.1 c.pin-2.ensures.1 c.pin-3.ensures.1 c.pin-4.ensures.1,
      );
    }

pub returns : goal.returns
returns c =
    let at-pin4 = c.pin-4 in
    let at-pin3 = c.pin-3 in
    let at-pin2 = c.pin-2 in
    let at_pin = c.pin in
    let a = c.args in
    let head = c.entry-head in
    let counted = c.from-count in
    let line = c.line_rest in
    let last = c.table-table in
    let h = get_or a.model.now.heads.now a.gate 0 in
    let rest : line.result ≡ rest_at a.model.now.words.now.lines.now a.model.now.words.now.count (get_or a.model.now.heads.now a.gate 0) =
    line.ensures ∙ ap (rest_at a.model.now.words.now.lines.now a.model.now.words.now.count) head.ensures in
    let past : head.result + line.result + 1
    ≡ get_or a.model.now.heads.now a.gate 0 + (rest_at a.model.now.words.now.lines.now a.model.now.words.now.count (get_or a.model.now.heads.now a.gate 0) + 1) = omega (arith, rest, head.ensures) in
    let table = last.ensures.value
    ∙ ap₂ (λ (m k : ℕ). cover_table m (cover_of (lines_from a.model.now.words.now.text.now a.model.now.words.now.starts.now a.model.now.words.now.lines.now a.model.now.words.now.count k))) counted.ensures past in
    let source = source_of a.model.now.sources.inputs a.place.now in
    let many = get_or a.model.now.sources.counts.now a.gate 0 in
    let ps = map source (entries a.model.now.sources.pins.now (most_pins * a.gate) many) in
    let count = counted.ensures ∙ sym (mapped-length source a.model.now.sources.pins.now (most_pins * a.gate) many) in
    c.write_record.ensures
    ∙ ap (sets a.image.now a.at)
    (by-pins ps counted.result last.result at_pin.result at-pin2.result at-pin3.result at-pin4.result count
    (rw counted.ensures at at_pin.ensures.0)
    (rw counted.ensures at at-pin2.ensures.0)
    (rw counted.ensures at at-pin3.ensures.0)
    (rw counted.ensures at at-pin4.ensures.0)
    ∙ ap (λ (x : ℕ). record_of (length ps) 0 x ps no_field) table)
