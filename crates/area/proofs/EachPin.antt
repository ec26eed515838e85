-- A gate's used pins gone through one by one: one that cannot fail moves the index that the others start from, any other is kept in two arrays, as an entry
-- and a bit. `read` tells the word of a source and `held` that of an entry: an array holds words or sources. Assumes nothing.
use Prim.Native.Nat.{ℕ, ◌+◌, ◌*◌, ◌%◌, ◌≤◌, ◌<◌}
use mathlib.Core.List.{List, ◌++◌, map}
use mathlib.Core.Path.{◌≡◌, ap, sym, ◌∙◌}
use native.Mathlib.Omega.{arith}
use borrow.Author.Count.{below_none, below_more}
use lib.ListN.{length, get_or, drop, set, length-set, length-map}
use lib.Seq.{get_or-set_same, get_or-set_other}
use Rattle.figure.specs.Figure.{failure_of}
use Rattle.figure.specs.Steps.{Pin, pins_from, numbered, Split}
use Rattle.figure.proofs.Split.{split-first, split-room, split-without, split-kept, split-last, pins-more}
use Rattle.area.specs.Layout.{most_pins, gates, pin_count, pin, used_pins}
use Rattle.area.specs.Rules.{NetSound}
use Rattle.area.proofs.Words.{used-count, used-pin}

-- ---- the arrays after i pins: room for all, and P of each entry kept

pub record KeptPins (P : ℕ → Type 0) (kept : ℕ) (entries bits : List ℕ) (i : ℕ) : Type 0 where
  pub few : kept ≤ i
  pub entry_room : length entries ≡ most_pins
  pub bit_room : length bits ≡ most_pins
  pub each : (k : ℕ) → k < kept → P (get_or entries k 0)

module _ {P : ℕ → Type 0} {entries bits : List ℕ} where
  pub kept-none : length entries ≡ most_pins → length bits ≡ most_pins → KeptPins P 0 entries bits 0
  kept-none a b = record { few = omega arith; entry_room = a; bit_room = b; each = below_none _ }

  module _ {kept i : ℕ} (k : KeptPins P kept entries bits i) where
    pub kept_same : KeptPins P kept entries bits (i + 1)
    kept_same = record { few = omega (arith, k.few); entry_room = k.entry_room; bit_room = k.bit_room; each = k.each }

    pub kept_more : (entry bit : ℕ) → i < most_pins → P entry → KeptPins P (kept + 1) (set entries kept entry) (set bits kept bit) (i + 1)
    kept_more entry bit less p =
        let inside : kept < length entries = omega (arith, k.few, k.entry_room) in
        record {
          few = omega (arith, k.few);
          entry_room = length-set entries kept entry ∙ k.entry_room;
          bit_room = length-set bits kept bit ∙ k.bit_room;
          each =
              below_more _ _
              (λ m l. rw (get_or-set_other entries kept m entry 0 (λ e. omega arith)) (k.each m l))
              (rw (get_or-set_same entries kept entry 0 inside) p);
        }

-- ---- the word that the gate comes to

-- the first `kept` entries with their bits, as pins
abbrev pub pins_of : (ℕ → ℕ) → ℕ → List ℕ → List ℕ → List Pin
pins_of held kept entries bits = pins_from 0 kept (λ i. held (get_or entries i 0)) (λ i. get_or bits i 0)

-- before pin i of gate j the pins kept and those to come make, from this index, the gate's word
pub record Going (read held : ℕ → ℕ) (ws : List ℕ) (j start kept : ℕ) (entries bits : List ℕ) (bit i : ℕ) : Type 0 where
  pub split : Split (map read (used_pins ws j)) start (pins_of held kept entries bits ++ numbered bit (map read (drop i (used_pins ws j))))

module _ {read held : ℕ → ℕ} {ws : List ℕ} (net : NetSound ws) {j : ℕ} (below : j < gates ws) where
  pub going-first : {entries bits : List ℕ} → Going read held ws j 0 0 entries bits 1 0
  going-first =
      record {
        split =
            split-first (map read (used_pins ws j))
            (omega (arith, length-map (used_pins ws j) read, used-count ws net j below, (net.gate j below).few_pins));
      }

  module _ {start kept : ℕ} {entries bits : List ℕ} {bit i : ℕ} (before : Going read held ws j start kept entries bits bit i) where
    pub going-last : pin_count ws j ≤ i → Split (map read (used_pins ws j)) start (pins_of held kept entries bits)
    going-last l =
        split-last (map read (used_pins ws j)) read (used_pins ws j) i bit start (pins_of held kept entries bits)
        (omega (arith, used-count ws net j below))
        before.split

    module _ (turn : i < pin_count ws j) where
      inside : i < length (used_pins ws j)
      inside = omega (arith, used-count ws net j below)

      -- the index and the bit are small
      pub going-small : (bit ≤ 15) × (start ≤ 15)
      going-small = (
        split-room (map read (used_pins ws j)) read (used_pins ws j) i bit start (pins_of held kept entries bits) inside before.split,
        omega (arith, before.split.fits),
      )

      here : (word : ℕ) → word ≡ read (pin ws j i) → read (get_or (used_pins ws j) i 0) ≡ word
      here word has = ap read (sym (used-pin ws net j below i turn)) ∙ sym has

      pub going-without : (word : ℕ) → word ≡ read (pin ws j i) → failure_of word ≡ 0
          → Going read held ws j (start + word % 2 * bit) kept entries bits (bit * 2) (i + 1)
      going-without word has sure =
          record {
            split =
                rw (here word has) at
                (split-without (map read (used_pins ws j)) read (used_pins ws j) i bit start (pins_of held kept entries bits) inside before.split
                (ap failure_of (here word has) ∙ sure));
          }

      pub going-kept : {P : ℕ → Type 0} → KeptPins P kept entries bits i → (entry : ℕ) → held entry ≡ read (pin ws j i)
          → Going read held ws j start (kept + 1) (set entries kept entry) (set bits kept bit) (bit * 2) (i + 1)
      going-kept k entry has =
          let few = (net.gate j below).few_pins in
          record {
            split =
                rw (pins-more held kept entries bits entry bit (omega (arith, k.few, k.entry_room)) (omega (arith, k.few, k.bit_room)))
                (rw (here (held entry) has) at
                (split-kept (map read (used_pins ws j)) read (used_pins ws j) i bit start (pins_of held kept entries bits) inside before.split));
          }
