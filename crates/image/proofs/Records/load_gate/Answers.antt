-- `image::Records::load_gate` meets its contract: the first of the tests that fails decides, and a gate that passes is stored. Assumes nothing.
use Prim.Native.Nat.{◌+◌}
use mathlib.Core.Path.{◌≡◌, refl, sym, ap₂, ◌∙◌}
use lib.Seq.{sets}
use Rattle.std.specs.Prelude.{Ok}
use Rattle.chance.specs.Flip.{flip_units}
use Rattle.area.specs.Rules.{gate_shape, used_below}
use Rattle.rules.proofs.Facts.{shape-holds}
use Rattle.refusal.specs.Judgement.{refuse_unless, otherwise, answer}
use Rattle.refusal.proofs.Laws.{refused-not-fine, never_both, passed-on, answer-told}
use Rattle.image.specs.Image.{record_count, record_kind, record_table, record_pins, record_field}
use Rattle.image.specs.Refusals.{flip_refusal, gate_refusal}
use Rattle.image.proofs.Middle.{record-stored}
use Rattle.image.proofs.Records.load_gate.Goals.{After-gate_shape, After-used_below, After-units_of_flip}
use Rattle.image.proofs.Records.load_gate.Goals as goal
use Rattle.refusal.specs.declared.Cause.TheVariants.{GateShape, GatePin, GateFlip, ChanceAboveHalf}

-- the first test as the code asked it
shape : (c : After-gate_shape) →
    let a = c.args in
    let m = a.self.now.bytes.now in
    gate_shape (record_count m a.j) (record_table m a.j) (record_pins m a.j) ≡ c.gate_shape.result
shape c = cc

pub returns-then-not-gate_shape : goal.returns-then-not-gate_shape
unfolding gate_refusal
returns-then-not-gate_shape c = record { value = simp (shape (goal.at.returns-then-not-gate_shape c).After-gate_shape, c.if-not-gate_shape.true); words_after = refused-not-fine GateShape _ }

pub used_below-requires : goal.used_below-requires
used_below-requires c =
    let passed = sym c.gate_shape.ensures ∙ c.if-not-gate_shape.false in
    (shape-holds _ c.two_bytes-table.result c.four_numbers-pins.result passed).few_pins

-- what is left once 5 is passed
left_over : (c : After-used_below) →
    let a = c.args in
    let m = a.self.now.bytes.now in
    gate_refusal m a.self.now.inputs a.j
    ≡ otherwise (refuse_unless c.used_below.result GatePin a.j) (flip_refusal GateFlip a.j (record_kind m a.j) (record_field m a.j))
unfolding gate_refusal
left_over c =
    let a = c.args in
    let m = a.self.now.bytes.now in
    let used : used_below (a.self.now.inputs + a.j) (record_count m a.j) (record_pins m a.j) ≡ c.used_below.result = cc in
    let first : gate_shape (record_count m a.j) (record_table m a.j) (record_pins m a.j) ≡ c.gate_shape.result = cc in
    simp (first, c.if-not-gate_shape.false, used)

pub returns-then-not-used_below : goal.returns-then-not-used_below
returns-then-not-used_below c = record { value = rw (left_over (goal.at.returns-then-not-used_below c).After-used_below, c.if-not-used_below.true); words_after = refused-not-fine GatePin _ }

-- what the field tells
told : (c : After-units_of_flip) →
    let a = c.args in
    let m = a.self.now.bytes.now in
    c.units_of_flip.result ≡ answer (flip_refusal GateFlip a.j (record_kind m a.j) (record_field m a.j)) (flip_units (record_kind m a.j) (record_field m a.j))
told c = cc

pub returns : goal.returns
returns c =
    let a = c.args in
    let m = a.self.now.bytes.now in
    let said = (answer-told _ _ _ (told (goal.at.returns c).After-units_of_flip)).0 c.in_ok-units.units c.in_ok-units.was in
    let count = c.from-count.ensures in
    let words = record-stored m a.j _ _ c.in_ok-units.units _ count c.two_bytes-table.ensures.0 c.four_numbers-pins.ensures (sym said.1) in
    record {
      value = sym (rw (left_over (goal.at.returns c).After-used_below, c.if-not-used_below.false, said.0) refl);
      words_after = λ e. c.store.ensures ∙ ap₂ (sets a.words.now) c.gate_index.ensures words;
    }

pub returns-in_err-units : goal.returns-in_err-units
returns-in_err-units c =
    let a = c.args in
    let m = a.self.now.bytes.now in
    let why = c.in_err-units.field-0.0 in
    let bad = (answer-told _ _ _ (told (goal.at.returns-in_err-units c).After-units_of_flip)).1 why c.in_err-units.was in
    let out = passed-on c.from_residual.result why c.from_residual.ensures.1 in
    record {
      value = out ∙ sym (rw (left_over (goal.at.returns-in_err-units c).After-used_below, c.if-not-used_below.false, bad) refl);
      words_after = λ e. never_both c.from_residual.result why.cause why.place e out;
    }
