-- Values of the text's names that keep every gate's table are the right values of the image, and there are some. Assumes nothing.
use Prim.Native.Nat.{ℕ, zero, suc, ◌+◌, ◌-◌, ◌/◌, ◌^◌, ◌<◌, ◌≤◌}
use mathlib.Core.Path.{◌≡◌, refl, ap, ap₂, sym, subst, ◌∙◌}
use mathlib.Core.Bool.{Bool, true, false, cond}
use mathlib.Core.List.{List, [], ◌∷◌, map, map-map, Memᴰ}
use native.Mathlib.Nat.{zero-add}
use native.Mathlib.Omega.{arith}
use lib.ListN.{length, get_or, length-map}
use lib.Dec.{ltb}
use borrow.Author.Tests.{lt-ltb, le-ltb, ltb-true, ltb-false}
use Rattle.figure.specs.Figure.{is_odd, answer}
use Rattle.netlist.specs.Netlist.{Gate, Netlist, gate_at, no_gate, pin_values, right_values}
use Rattle.lists.specs.Lists.{Below}
use Rattle.netlist.specs.WellFormed.{PinsBelow}
use Rattle.netlist.proofs.Values.{right-input, right-gate, right_unique}
use Rattle.placing.specs.Placing.{entries, Kept}
use Rattle.placing.proofs.Placed.{left-none}
use Rattle.meaning.specs.Net.{source_of, placed_gate, placed_net}

-- a list by its entries
abbrev tab : (ℕ → Bool) → ℕ → ℕ → List Bool
tab f i zero = []
tab f i (suc k) = f i ∷ tab f (suc i) k

tab-length : (f : ℕ → Bool) (i k : ℕ) → length (tab f i k) ≡ k
tab-length f i zero = refl
tab-length f i (suc k) = ap suc (tab-length f (suc i) k)

tab-at : (f : ℕ → Bool) (i k j : ℕ) → j < k → get_or (tab f i k) j false ≡ f (i + j)
tab-at f i zero j h = absurd (omega arith)
tab-at f i (suc k) zero h = ap f (let e : i ≡ i + 0 = omega arith in e)
tab-at f i (suc k) (suc j) h = tab-at f (suc i) k j (omega arith) ∙ ap f (let e : suc i + j ≡ i + suc j = omega arith in e)

pub entries-length : (s : List ℕ) (i k : ℕ) → length (entries s i k) ≡ k
entries-length s i zero = refl
entries-length s i (suc k) = ap suc (entries-length s (suc i) k)

pub map-entry : {A : Type 0} (f : ℕ → A) (z : A) (s : List ℕ) (i k j : ℕ) → j < k → get_or (map f (entries s i k)) j z ≡ f (get_or s (i + j) 0)
map-entry f z s i zero j h = absurd (omega arith)
map-entry f z s i (suc k) zero h = ap (λ (x : ℕ). f (get_or s x 0)) (let e : i ≡ i + 0 = omega arith in e)
map-entry f z s i (suc k) (suc j) h =
    map-entry f z s (suc i) k j (omega arith) ∙ ap (λ (x : ℕ). f (get_or s x 0)) (let e : suc i + j ≡ i + suc j = omega arith in e)

map-agree : (f h : ℕ → Bool) (r : ℕ → ℕ) (ds : List ℕ) → ((d : ℕ) → Memᴰ d ds → f (r d) ≡ h d) → map f (map r ds) ≡ map h ds
map-agree f h r [] e = refl
map-agree f h r (d ∷ ds) e = ap₂ ◌∷◌ (e d (Memᴰ.head refl)) (map-agree f h r ds (λ x m. e x (Memᴰ.tail m)))

below-map : (b : ℕ) (r : ℕ → ℕ) (ds : List ℕ) → ((d : ℕ) → Memᴰ d ds → r d < b) → Below b (map r ds)
below-map b r [] e i h = absurd (omega arith)
below-map b r (d ∷ ds) e zero h = e d (Memᴰ.head refl)
below-map b r (d ∷ ds) e (suc i) h = below-map b r ds (λ x m. e x (Memᴰ.tail m)) i (omega arith)

module _ (S : ℕ → List ℕ) (T : ℕ → ℕ) (n g : ℕ) (place order outs : List ℕ)
    (kept : Kept S n g g place order)
    (known : (j d : ℕ) → j < g → Memᴰ d (S j) → d < n + g) where
  all : (j : ℕ) → j < g → 0 < get_or place j 0
  all = left-none place g (omega (arith, kept.count))

  -- the definition that a source of the image was
  abbrev origin : ℕ → ℕ
  origin s = cond (ltb s n) s (n + get_or order (s - n) 0)

  -- a definition's source goes back to it, and is one of the image's
  pub to-source : (d : ℕ) → d < n + g → (source_of n place d < n + g) × (origin (source_of n place d) ≡ d)
  to-source d h = go (ltb d n) refl
    where
      go : (b : Bool) → ltb d n ≡ b → (source_of n place d < n + g) × (origin (source_of n place d) ≡ d)
      go true l = rw (l, l) (h, refl)
      go false l =
          let least : n ≤ d = ltb-false d n l in
          let gate : d - n < g = omega arith in
          let pos : 0 < get_or place (d - n) 0 = all (d - n) gate in
          let low : get_or place (d - n) 0 ≤ g = kept.low (d - n) in
          let back : get_or order (get_or place (d - n) 0 - 1) 0 ≡ d - n = (kept.back (d - n) pos).1 in
          let past : ltb (n + (get_or place (d - n) 0 - 1)) n ≡ false = le-ltb (n + (get_or place (d - n) 0 - 1)) n (omega arith) in
          let off : n + (get_or place (d - n) 0 - 1) - n ≡ get_or place (d - n) 0 - 1 = omega arith in
          rw (l, past, off, back) (omega arith, omega arith)

  unfoldable pub net : Netlist
  net = placed_net S T n place (entries order 0 g) outs

  pub gate-at : (q : ℕ) → q < g → gate_at net q ≡ placed_gate S T n place (get_or order q 0)
  unfolding net
  gate-at q h = map-entry (placed_gate S T n place) no_gate order 0 g q h ∙ ap (λ (x : ℕ). placed_gate S T n place (get_or order x 0)) (zero-add q)

  pub count : length net.gates ≡ g
  unfolding net
  count = length-map (entries order 0 g) (placed_gate S T n place) ∙ entries-length order 0 g

  -- each gate reads inputs and earlier gates
  pub below : PinsBelow net
  unfolding net
  below q h = rw (gate-at q here) (below-map (n + q) (source_of n place) (S (get_or order q 0)) each)
    where
      here : q < g
      here = omega (arith, count)

      each : (d : ℕ) → Memᴰ d (S (get_or order q 0)) → source_of n place d < n + q
      each d m = go (ltb d n) refl
        where
          go : (b : Bool) → ltb d n ≡ b → source_of n place d < n + q
          go true l = rw l (omega (arith, ltb-true d n l))
          go false l =
              let least : n ≤ d = ltb-false d n l in
              let back : d ≡ n + (d - n) = omega arith in
              let own : get_or place (get_or order q 0) 0 ≡ q + 1 = (kept.forth q here).1 in
              let first = kept.after (get_or order q 0) (d - n) (omega arith) (subst (λ (x : ℕ). Memᴰ x (S (get_or order q 0))) back m) in
              rw l (omega (arith, first.0, first.1))

  -- the right values, each given to the definition behind its source, keep every gate's table
  module _ (p : ℕ) where
    abbrev pub given : ℕ → Bool
    given d = get_or (right_values net p) (source_of n place d) false

    pub given-inputs : (i : ℕ) → i < n → given i ≡ is_odd (p / 2 ^ i)
    unfolding net
    given-inputs i h = rw (lt-ltb i n h) (right-input net below p i h)

    pub given-gates : (j : ℕ) → j < g → given (n + j) ≡ answer (T j) (map given (S j))
    unfolding net
    given-gates j h =
        let pos : 0 < get_or place j 0 = all j h in
        let low : get_or place j 0 ≤ g = kept.low j in
        let here : get_or place j 0 - 1 < g = omega arith in
        let off : n + j - n ≡ j = omega arith in
        let own : gate_at net (get_or place j 0 - 1) ≡ placed_gate S T n place j =
        gate-at (get_or place j 0 - 1) here ∙ ap (placed_gate S T n place) (kept.back j pos).1 in
        rw (le-ltb (n + j) n (omega arith), off)
        (right-gate net below p (get_or place j 0 - 1) (omega (arith, count))
        ∙ ap (λ (x : Gate). answer x.table (pin_values (right_values net p) x.pins)) own
        ∙ ap (answer (T j)) (map-map (λ x. get_or (right_values net p) x false) (source_of n place) (S j)))

  -- values of the definitions that keep every gate's table, and the pattern of the inputs
  module _ (v : ℕ → Bool) (p : ℕ)
      (inputs : (i : ℕ) → i < n → v i ≡ is_odd (p / 2 ^ i))
      (keeps : (j : ℕ) → j < g → v (n + j) ≡ answer (T j) (map v (S j))) where
    abbrev vs : List Bool
    vs = tab (λ s. v (origin s)) 0 (n + g)

    at : (d : ℕ) → d < n + g → get_or vs (source_of n place d) false ≡ v d
    at d h =
        let t = to-source d h in
        tab-at (λ s. v (origin s)) 0 (n + g) (source_of n place d) t.0 ∙ ap (λ (x : ℕ). v (origin x)) (zero-add (source_of n place d)) ∙ ap v t.1

    settled : vs ≡ right_values net p
    unfolding net
    settled = right_unique net below p vs (tab-length _ 0 (n + g) ∙ ap (λ (x : ℕ). n + x) (sym count)) bits steps
      where
        bits : (i : ℕ) → i < n → get_or vs i false ≡ is_odd (p / 2 ^ i)
        bits i h =
            tab-at (λ s. v (origin s)) 0 (n + g) i (omega arith) ∙ ap (λ (x : ℕ). v (origin x)) (zero-add i) ∙ rw (lt-ltb i n h) (inputs i h)

        steps : (q : ℕ) → q < length net.gates → get_or vs (n + q) false ≡ answer (gate_at net q).table (pin_values vs (gate_at net q).pins)
        steps q h =
            let here : q < g = omega (arith, count) in
            let j = get_or order q 0 in
            let pins : map (λ (x : ℕ). get_or vs x false) (map (source_of n place) (S j)) ≡ map v (S j) =
            map-agree (λ x. get_or vs x false) v (source_of n place) (S j) (λ d m. at d (known j d (kept.forth q here).0 m)) in
            let past : ltb (n + q) n ≡ false = le-ltb (n + q) n (omega arith) in
            let off : n + q - n ≡ q = omega arith in
            tab-at (λ s. v (origin s)) 0 (n + g) (n + q) (omega arith)
            ∙ ap (λ (x : ℕ). v (origin x)) (zero-add (n + q))
            ∙ rw (past, off) (keeps j (kept.forth q here).0)
            ∙ ap (answer (T j)) (sym pins)
            ∙ sym (ap (λ (x : Gate). answer x.table (pin_values vs x.pins)) (gate-at q here))

    pub meaning : (d : ℕ) → d < n + g → get_or (right_values net p) (source_of n place d) false ≡ v d
    meaning d h = rw (← settled) (at d h)
