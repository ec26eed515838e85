-- The order in which gates are placed, and gates that depend on themselves: document 02, card 4.
-- S j lists the sources of gate j of the text, as numbers of definitions: below n an input, n + i gate i.
-- place has an entry for each gate: 0 while it is not placed, else 1 + its number in the image.
use Rattle.std.specs.Prelude.{ℕ, zero, suc, ◌+◌, ◌-◌, ◌*◌, ◌<◌, ◌≤◌, Bool, true, false, cond, not, ◌||◌, ◌&&◌, ◌≡◌, length, get_or, set, eqb, ltb}
use mathlib.Core.List.{List, [], ◌∷◌, Memᴰ}
use Rattle.area.specs.Layout.{most_pins, most_inputs, most_gates}
use Rattle.refusal.specs.Judgement.{Judgement}
use Rattle.refusal.specs.Judgement.{refuse_unless, lowest}
use Rattle.placing.specs.declared.Sources.{Sources}
use Rattle.refusal.specs.declared.Cause.TheVariants.{TextModel}

-- a source is placed: an input, or a placed gate
abbrev pub placed_source : ℕ → List ℕ → ℕ → Bool
placed_source n place d = cond (ltb d n) true (not (eqb (get_or place (d - n) 0) 0))

abbrev pub all_placed : ℕ → List ℕ → List ℕ → Bool
all_placed n place [] = true
all_placed n place (d ∷ ds) = cond (placed_source n place d) (all_placed n place ds) false

-- a gate that is not placed, and whose sources all are
unfoldable pub ready : (ℕ → List ℕ) → ℕ → List ℕ → ℕ → Bool
ready S n place j = cond (eqb (get_or place j 0) 0) (all_placed n place (S j)) false

-- how many of the k gates from gate j on stand before the first that is ready: k if none is
abbrev pub passed : (ℕ → List ℕ) → ℕ → List ℕ → ℕ → ℕ → ℕ
passed S n place j zero = 0
passed S n place j (suc k) = cond (ready S n place j) 0 (suc (passed S n place (suc j) k))

-- gates are placed one by one, each time the first in the text that is ready: q of them are placed, f at most are still to place
abbrev pub placing : (ℕ → List ℕ) → ℕ → ℕ → ℕ → ℕ → List ℕ → List ℕ
placing S n g zero q place = place
placing S n g (suc f) q place =
    cond (ltb (passed S n place 0 g) g) (placing S n g f (suc q) (set place (passed S n place 0 g) (suc q))) place

-- the gates in the order in which they are placed
abbrev pub placing_order : (ℕ → List ℕ) → ℕ → ℕ → ℕ → ℕ → List ℕ → List ℕ
placing_order S n g zero q place = []
placing_order S n g (suc f) q place =
    cond (ltb (passed S n place 0 g) g)
    (passed S n place 0 g ∷ placing_order S n g f (suc q) (set place (passed S n place 0 g) (suc q)))
    []

-- gate j reads gate i; dependence is what follows from reading, in one step or more
abbrev pub Reads : (ℕ → List ℕ) → ℕ → ℕ → ℕ → Type 0
Reads S n j i = Memᴰ (n + i) (S j)

pub data Depends (S : ℕ → List ℕ) (n : ℕ) : ℕ → ℕ → Type 0 where
  direct : {j i : ℕ} → Reads S n j i → Depends S n j i
  further : {j i k : ℕ} → Reads S n j i → Depends S n i k → Depends S n j k

-- What the order promises, in other words. After the first q gates of an order gate j can come next: it is none of them, and each gate that it reads is one.
pub record CanFollow (S : ℕ → List ℕ) (n g : ℕ) (order : List ℕ) (q j : ℕ) : Type 0 where
  pub gate : j < g
  pub fresh : (p : ℕ) → p < q → get_or order p 0 ≡ j → ⊥
  pub fed : (i : ℕ) → Reads S n j i → (p : ℕ) × ((p < q) × (get_or order p 0 ≡ i))

-- gate q of the order can come next, and is the earliest in the text that can
pub record Earliest (S : ℕ → List ℕ) (n g : ℕ) (order : List ℕ) (q : ℕ) : Type 0 where
  pub can : CanFollow S n g order q (get_or order q 0)
  pub least : (j : ℕ) → CanFollow S n g order q j → get_or order q 0 ≤ j

-- the same as a test: gate j reads gate i, or by way of gates below k what reads it
abbrev pub is_source : ℕ → List ℕ → Bool
is_source d [] = false
is_source d (x ∷ xs) = cond (eqb d x) true (is_source d xs)

abbrev pub via : (ℕ → List ℕ) → ℕ → ℕ → ℕ → ℕ → Bool
via S n zero j i = is_source (n + i) (S j)
via S n (suc k) j i = via S n k j i || (via S n k j k && via S n k k i)

-- refusal 19, its last test: the first gate that depends on itself, at its line
unfoldable pub loop_fault : (ℕ → List ℕ) → ℕ → ℕ → (ℕ → ℕ) → Judgement
loop_fault S n g line = lowest (λ (j : ℕ). refuse_unless (not (via S n g j j)) TextModel (line j)) g

-- k entries of a table from entry i on, and the sources of gate j: as many entries for each gate as it may have, of which its count are used
abbrev pub entries : List ℕ → ℕ → ℕ → List ℕ
entries pins i zero = []
entries pins i (suc k) = get_or pins i 0 ∷ entries pins (suc i) k

abbrev pub sources_of : List ℕ → List ℕ → ℕ → List ℕ
sources_of pins counts j = entries pins (most_pins * j) (get_or counts j 0)

-- how many of the first k gates are not placed
abbrev pub left : List ℕ → ℕ → ℕ
left place zero = 0
left place (suc k) = cond (eqb (get_or place k 0) 0) (suc (left place k)) (left place k)

-- q gates of g are placed: a gate's gate sources before it, and order is the other way round of place
pub record Kept (S : ℕ → List ℕ) (n g q : ℕ) (place order : List ℕ) : Type 0 where
  pub long : length place ≡ most_gates
  pub wide : length order ≡ most_gates
  pub low : (j : ℕ) → get_or place j 0 ≤ q
  pub after : (j i : ℕ) → 0 < get_or place j 0 → Reads S n j i → (0 < get_or place i 0) × (get_or place i 0 < get_or place j 0)
  pub back : (j : ℕ) → 0 < get_or place j 0 → (j < g) × (get_or order (get_or place j 0 - 1) 0 ≡ j)
  pub forth : (p : ℕ) → p < q → (get_or order p 0 < g) × (get_or place (get_or order p 0) 0 ≡ p + 1)
  pub count : q + left place g ≡ g

-- tables of sources: each entry an input or one of the most gates
pub record Tables (n : ℕ) (pins counts : List ℕ) : Type 0 where
  pub few : n ≤ most_inputs
  pub many : (j : ℕ) → get_or counts j 0 ≤ most_pins
  pub known : (k : ℕ) → get_or pins k 0 < n + most_gates

-- the same of tables that are lent
abbrev pub lent_sources : Sources → ℕ → List ℕ
lent_sources s = sources_of s.pins.now s.counts.now

abbrev pub LentTables : Sources → Type 0
LentTables s = Tables s.inputs s.pins.now s.counts.now

-- gates are placed until none is ready
pub record Placed (S : ℕ → List ℕ) (n g : ℕ) (start : List ℕ) (q : ℕ) (place order : List ℕ) : Type 0 where
  pub kept : Kept S n g q place order
  pub as_said : place ≡ placing S n g g 0 start
  pub over : passed S n place 0 g ≡ g
  pub ordered : entries order 0 q ≡ placing_order S n g g 0 start
