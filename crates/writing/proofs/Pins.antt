-- Pins that are used, and those that are not. Assumes nothing.
use Prim.Native.Nat.{ℕ, ◌+◌, ◌<◌, ◌≤◌}
use mathlib.Core.Path.{◌≡◌, sym, ◌∙◌}
use mathlib.Core.List.{List, [], ◌∷◌, map}
use native.Mathlib.Omega.{arith}
use lib.ListN.{length, get_or, length-map, get_or-eq_default}
use Rattle.netlist.specs.Netlist.{Gate}
use Rattle.placing.specs.Placing.{entries}
use Rattle.records.specs.Bytes.{record_of, no_field}
use Rattle.meaning.proofs.Meaning.{map-entry, entries-length}

pub used : (f : ℕ → ℕ) (pins : List ℕ) (b k p : ℕ) → p < k → f (get_or pins (b + p) 0) ≡ get_or (map f (entries pins b k)) p 0
used f pins b k p h = sym (map-entry f 0 pins b k p h)

pub mapped-length : (f : ℕ → ℕ) (pins : List ℕ) (b k : ℕ) → length (map f (entries pins b k)) ≡ k
mapped-length f pins b k = length-map (entries pins b k) f ∙ entries-length pins b k

pub unused : (f : ℕ → ℕ) (pins : List ℕ) (b k p : ℕ) → k ≤ p → 0 ≡ get_or (map f (entries pins b k)) p 0
unused f pins b k p h = sym (get_or-eq_default (map f (entries pins b k)) 0 (omega (arith, mapped-length f pins b k)))

-- a record by its four pins
pub by-pins : (ps : List ℕ) (count table p q r s : ℕ) → count ≡ length ps → p ≡ get_or ps 0 0 → q ≡ get_or ps 1 0 → r ≡ get_or ps 2 0 → s ≡ get_or ps 3 0
    → record_of count 0 table (p ∷ q ∷ r ∷ s ∷ []) no_field ≡ record_of (length ps) 0 table ps no_field
by-pins ps count table p q r s c e f g h = rw (c, e, f, g, h)

pub gates-length : (f : ℕ → Gate) (order : List ℕ) (b k : ℕ) → length (map f (entries order b k)) ≡ k
gates-length f order b k = length-map (entries order b k) f ∙ entries-length order b k
