-- The words of an image hold its netlist, whatever follows them; and how much of each it has. Assumes nothing.
use Prim.Native.Nat.{ℕ, zero, suc, ◌+◌, ◌≤◌, ◌<◌}
use mathlib.Core.List.{List, [], ◌∷◌, ◌++◌, append-nil}
use mathlib.Core.Path.{◌≡◌, refl, sym, ap, ap₂, subst, ◌∙◌}
use native.Mathlib.Omega.{arith}
use lib.ListN.{length}
use Rattle.rounding.specs.Rounding.{units_in_one}
use Rattle.chance.specs.Number.{chance_scale}
use Rattle.netlist.specs.Netlist.{Netlist}
use Rattle.netlist.specs.Sum.{raw_flip_sum}
use Rattle.area.specs.Net.{gate_of, gates_from, net_of}
use Rattle.area.specs.Sum.{flip_sum}
use Rattle.area.proofs.Net.{gate_count}
use Rattle.area.proofs.Sum.{sum-held}
use Rattle.image.specs.Image.{image_inputs, image_gates, image_outputs, middle}
use Rattle.image.specs.Loading.{image_words, image_kinds, image_chances}
use Rattle.image.specs.Netlist.{record_gate, record_gates, image_net}
use Rattle.image.proofs.Middle.{length-outputs}
use Rattle.image.proofs.Words.{head-inputs, head-gates, outputs-held, gate-held}
use Rattle.image.proofs.Sound.{kind_at, chance-at, flips-at}

module _ (bs rest : List ℕ) where
  gate-net : (j : ℕ) → j < image_gates bs → gate_of (image_words bs ++ rest) (image_kinds bs) (image_chances bs) j ≡ record_gate (middle bs) j
  gate-net j l =
      let held = gate-held bs rest j l in
      rw (held.same_count, held.same_table, held.same_pins, kind_at bs j l, chance-at bs j l)

  gates-net : (j k : ℕ) → j + k ≤ image_gates bs → gates_from (image_words bs ++ rest) (image_kinds bs) (image_chances bs) j k ≡ record_gates (middle bs) j k
  gates-net j zero l = refl
  gates-net j (suc k) l = ap₂ ◌∷◌ (gate-net j (omega arith)) (gates-net (suc j) k (omega arith))

  pub image-net : net_of (image_words bs ++ rest) (image_kinds bs) (image_chances bs) ≡ image_net bs
  unfolding image_net
  image-net = rw (outputs-held bs rest, head-inputs bs rest, head-gates bs rest, gates-net 0 (image_gates bs) (omega arith))

-- nothing follows them
pub plain-net : (bs : List ℕ) → net_of (image_words bs) (image_kinds bs) (image_chances bs) ≡ image_net bs
plain-net bs = subst (λ (ws : List ℕ). net_of ws (image_kinds bs) (image_chances bs) ≡ image_net bs) (append-nil (image_words bs)) (image-net bs [])

pub net-inputs : (bs : List ℕ) → (image_net bs).inputs ≡ image_inputs bs
unfolding image_net
net-inputs bs = refl

pub net-gates : (bs : List ℕ) → length (image_net bs).gates ≡ image_gates bs
net-gates bs =
    ap (λ (net : Netlist). length net.gates) (sym (image-net bs []))
    ∙ gate_count (image_words bs ++ []) (image_kinds bs) (image_chances bs) ∙ head-gates bs []

pub net-outputs : (bs : List ℕ) → length (image_net bs).outputs ≡ image_outputs bs
unfolding image_net
net-outputs bs = length-outputs (middle bs) (image_gates bs) (image_outputs bs)

-- the raw flip sum is that of the image's netlist
pub loaded-sum : (bs rest : List ℕ) → flip_sum (image_words bs ++ rest) ≡ raw_flip_sum units_in_one chance_scale (image_net bs)
loaded-sum bs rest =
    sum-held units_in_one chance_scale (image_words bs ++ rest) (image_kinds bs) (image_chances bs) (λ j l. flips-at bs rest j (omega (arith, head-gates bs rest)))
    ∙ ap (raw_flip_sum units_in_one chance_scale) (image-net bs rest)
