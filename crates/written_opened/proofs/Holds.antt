-- What is written from an area holds the area's netlist, each chance as whole units. Assumes nothing.
use Prim.Native.Nat.{ℕ, zero, suc, ◌+◌, ◌≤◌, ◌<◌}
use mathlib.Core.List.{List, ◌∷◌, map}
use mathlib.Core.Path.{◌≡◌, refl, sym, ap₂, ◌∙◌}
use native.Mathlib.Nat.{div-eq_of_eq-mul_left}
use native.Mathlib.Omega.{arith}
use lib.ListN.{get_or}
use Rattle.rules.proofs.Sound.{sound}
use Rattle.rounding.specs.Rounding.{units_in_one}
use Rattle.chance.specs.Number.{chance_scale, whole_chance}
use Rattle.chance.specs.Flip.{flip_chance}
use Rattle.flips.specs.Written.{units_kind, units_field}
use Rattle.flips.proofs.Laws.{units-read-back}
use Rattle.area.specs.Layout.{gates, flip}
use Rattle.area.specs.Net.{gate_of, gates_from, net_of}
use Rattle.area.specs.Rules.{Sound}
use Rattle.image.specs.Image.{image_gates}
use Rattle.image.specs.Loading.{record_chance, image_kinds, image_chances}
use Rattle.image.specs.Netlist.{image_net}
use Rattle.image.proofs.Sound.{kind_at, chance-at}
use Rattle.fresh.specs.Fresh.{Converted}
use Rattle.written.specs.Image.{area_image}
use Rattle.written.proofs.Laws.{written-sound}
use Rattle.written_opened.specs.Statements.{gate_in_units, in_units, WrittenHolds}
use Rattle.written_opened.proofs.RoundTrip.{written-net}

-- a flip written from its units is a chance of units / U
chance-in-units : (units : ℕ) → units ≤ units_in_one → flip_chance (units_kind units) (units_field units) ≡ whole_chance units units_in_one
unfolding whole_chance
chance-in-units units most = sym (div-eq_of_eq-mul_left (omega arith) (sym (units-read-back units most).exact))

module _ (ws kinds chances : List ℕ) (s : Sound ws) (converted : Converted chance_scale ws chances) where
  abbrev bs : List ℕ
  bs = area_image ws

  gate-is : (j : ℕ) → j < gates ws → gate_of ws (image_kinds bs) (image_chances bs) j ≡ gate_in_units (gate_of ws kinds chances j)
  unfolding record_chance
  gate-is j here =
      let read = (written-sound ws s).read_back in
      let gate = read.gate j here in
      let there : j < image_gates bs = omega (arith, read.gates) in
      let units = converted.flips j here in
      let kind : get_or (image_kinds bs) j 0 ≡ units_kind (flip ws j) = kind_at bs j there ∙ gate.kind in
      let chance : get_or (image_chances bs) j 0 ≡ whole_chance (flip ws j) units_in_one
      = chance-at bs j there
      ∙ ap₂ flip_chance gate.kind gate.field
      ∙ chance-in-units (flip ws j) (omega (arith, s.workable.figures.flip_fits j here)) in
      rw (kind, chance, units)

  gates_are : (j k : ℕ) → j + k ≤ gates ws → gates_from ws (image_kinds bs) (image_chances bs) j k ≡ map gate_in_units (gates_from ws kinds chances j k)
  gates_are j zero l = refl
  gates_are j (suc k) l = ap₂ ◌∷◌ (gate-is j (omega arith)) (gates_are (suc j) k (omega arith))

  pub holds-sound : image_net bs ≡ in_units (net_of ws kinds chances)
  holds-sound = written-net ws s ∙ rw (gates_are 0 (gates ws) (omega arith))

pub written-holds : WrittenHolds
written-holds ws kinds chances fine converted = holds-sound ws kinds chances (sound ws fine) converted
