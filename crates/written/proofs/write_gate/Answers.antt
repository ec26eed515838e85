-- `written::write_gate` meets its contract. Assumes nothing.
use Prim.Native.Nat.{ℕ, ◌*◌, ◌<◌}
use mathlib.Core.Path.{◌≡◌, ap, ◌∙◌}
use mathlib.Core.List.{List, [], ◌∷◌}
use native.Mathlib.Omega.{arith}
use lib.Seq.{sets}
use Rattle.flips.specs.Written.{units_kind, units_field}
use Rattle.area.specs.Layout.{gates, pin_count, table, pin, flip}
use Rattle.area.proofs.Words.{pin_at}
use Rattle.area.specs.Rules.{Workable}
use Rattle.image.specs.Image.{record_bytes}
use Rattle.records.specs.Bytes.{record_of, contents_record}
use Rattle.records.proofs.Pins.{four_fit}
use Rattle.written.specs.Image.{area_contents}
use Rattle.written.proofs.Laws.{small-table, small-pin}
use Rattle.written.proofs.write_gate.Goals as goal

inside : (ws : List ℕ) (work : Workable ws) (j i x : ℕ) → j < gates ws → i < 4 → x ≡ pin ws j i → x < 65_536
inside ws work j i x here few e = omega (arith, e, pin_at ws j i few, small-pin ws work j here i)

-- the record of what was read
together : (ws : List ℕ) (j : ℕ) {count kind table' p q r s : ℕ} {field : List ℕ} → count ≡ pin_count ws j → kind ≡ units_kind (flip ws j) → table' ≡ table ws j
    → p ≡ pin ws j 0 → q ≡ pin ws j 1 → r ≡ pin ws j 2 → s ≡ pin ws j 3 → field ≡ units_field (flip ws j)
    → record_of count kind table' (p ∷ q ∷ r ∷ s ∷ []) field ≡ contents_record (area_contents ws) j
together ws j a b c d e f g h =
    rw (a, b, c, d ∙ pin_at ws j 0 (omega arith), e, f, g, h)

pub units_field-requires : goal.units_field-requires
units_field-requires c =
    let p = c.requires.workable in
    omega (arith, c.flip-units.ensures, p.0.figures.flip_fits _ p.1)

pub write_record-requires : goal.write_record-requires
write_record-requires c =
    let ws = c.args.area.now in
    let j = c.args.gate in
    let work = c.requires.workable.0 in
    let here = c.requires.workable.1 in
    let counted = c.pin_count-count.ensures in
    let tabled = c.index-table.ensures ∙ c.table.ensures in record {
      record_bytes_in_bounds = c.requires.record_bytes_in_bounds;
      count_bound = (
        omega (arith, counted, (work.net.gate j here).few_pins),
        omega (arith, tabled, small-table ws work j here),
        four_fit
            (inside ws work j 0 _ here (omega arith) c.pin.ensures)
            (inside ws work j 1 _ here (omega arith) c.pin-2.ensures)
            (inside ws work j 2 _ here (omega arith) c.pin-3.ensures)
            (inside ws work j 3 _ here (omega arith) c.pin-4.ensures),
      );
    }

pub returns : goal.returns
returns c =
    let a = c.args in
    let flipped = c.flip-units.ensures in
    c.write_record.ensures
    ∙ ap (sets a.image.now (record_bytes * a.gate))
    (together a.area.now a.gate
    c.pin_count-count.ensures
    (c.units_kind.ensures ∙ ap units_kind flipped)
    (c.index-table.ensures ∙ c.table.ensures)
    c.pin.ensures
    c.pin-2.ensures
    c.pin-3.ensures
    c.pin-4.ensures
    (c.units_field.ensures ∙ ap units_field flipped))
