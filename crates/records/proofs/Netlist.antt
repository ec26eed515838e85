-- Opening reads from a written image the netlist that was written. Assumes nothing.
use Prim.Native.Nat.{ℕ, suc, ◌+◌, ◌<◌, ◌≤◌}
use mathlib.Core.Path.{◌≡◌, refl, ap, ap₂, sym, ◌∙◌}
use mathlib.Core.List.{List, [], ◌∷◌}
use native.Mathlib.Nat.{add-zero, zero-add}
use native.Mathlib.Omega.{arith}
use lib.ListN.{length, get_or, take}
use lib.Seq.{ext_get_or}
use Rattle.lists.proofs.Joined.{length-listed, listed_at}
use Rattle.chance.specs.Flip.{flip_of, chance_of, flip_chance}
use Rattle.netlist.specs.Netlist.{Gate, Netlist, gate_at, no_gate}
use Rattle.image.specs.Image.{record_field, output_at}
use Rattle.image.specs.Loading.{record_chance, output_list}
use Rattle.image.specs.Netlist.{record_gate, record_gates, image_net}
use Rattle.records.specs.Bytes.{Contents, middle_of, net_contents, image_of}
use Rattle.records.specs.Passes.{Fits, four, Holdable, WrittenReadBack}
use Rattle.records.proofs.Trailer.{inputs-again, gates-again, outputs-again, middle-again}
use Rattle.records.proofs.Passes.{holdable-fits, count-again, kind-again, table-again, pins-again, output-again}

-- the used ones of four pins
used : (ps : List ℕ) → length ps ≤ 4 → take (length ps) (four ps) ≡ ps
unfolding four
used [] h = refl
used (a ∷ []) h = refl
used (a ∷ b ∷ []) h = refl
used (a ∷ b ∷ c ∷ []) h = refl
used (a ∷ b ∷ c ∷ d ∷ []) h = refl
used (a ∷ b ∷ c ∷ d ∷ e ∷ ps) h = absurd (omega arith)

-- kind 0 is chance 0
no-chance : (field : List ℕ) → flip_chance 0 field ≡ 0
unfolding flip_chance flip_of chance_of
no-chance field = refl

same_gate : (g : Gate) {ps : List ℕ} {table kind chance : ℕ} → ps ≡ g.pins → table ≡ g.table → kind ≡ g.kind → chance ≡ g.chance
    → record { pins = ps; table = table; kind = kind; chance = chance } ≡ g
same_gate g p t k c = λ i. record { pins = p i; table = t i; kind = k i; chance = c i }

-- gates read from the records one by one
gates_are : (m : List ℕ) (gs : List Gate) (j : ℕ) → ((i : ℕ) → i < length gs → record_gate m (j + i) ≡ get_or gs i no_gate) → record_gates m j (length gs) ≡ gs
gates_are m [] j f = refl
gates_are m (g ∷ gs) j f =
    ap₂ ◌∷◌ (ap (record_gate m) (sym (add-zero j)) ∙ f 0 (omega arith))
    (gates_are m gs (suc j) (λ i h. let moved : suc j + i ≡ j + suc i = omega arith in ap (record_gate m) moved ∙ f (suc i) (omega arith)))

module _ (net : Netlist) (h : Holdable net) where
  abbrev w : Contents
  w = net_contents net

  fits : Fits w
  fits = holdable-fits net h

  gate-again : (j : ℕ) → j < length net.gates → record_gate (middle_of w) j ≡ gate_at net j
  unfolding record_chance
  gate-again j here =
      same_gate (gate_at net j)
      (ap₂ take (count-again w fits j here) (pins-again w fits j here) ∙ used (gate_at net j).pins (h.few_pins j here))
      (table-again w fits j here)
      (kind-again w fits j here ∙ sym (h.never_flips j here).0)
      (ap (λ (k : ℕ). flip_chance k (record_field (middle_of w) j)) (kind-again w fits j here)
      ∙ no-chance (record_field (middle_of w) j)
      ∙ sym (h.never_flips j here).1)

  outputs_are : output_list (middle_of w) (length net.gates) (length net.outputs) ≡ net.outputs
  outputs_are =
      let words = output_at (middle_of w) (length net.gates) in
      let long = length-listed words (length net.outputs) in
      ext_get_or 0 (output_list (middle_of w) (length net.gates) (length net.outputs)) net.outputs long
      (λ k l. let here : k < length net.outputs = omega arith in listed_at words (length net.outputs) k here ∙ output-again w fits k here)

  all-again : image_net (image_of net) ≡ net
  unfolding image_net
  all-again =
      rw (
        middle-again w fits,
        inputs-again w fits,
        gates-again w fits,
        outputs-again w fits,
        outputs_are,
        gates_are (middle_of w) net.gates 0 (λ i here. rw zero-add (gate-again i here)),
      )

pub written-read-back : WrittenReadBack
written-read-back net h = all-again net h
