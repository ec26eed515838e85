-- A turn of each loop over outputs, gates and pins, and the steps of the calls put together. Assumes nothing.
use Prim.Native.Nat.{ℕ, suc, ◌+◌, ◌-◌, ◌<◌}
use mathlib.Core.Path.{◌≡◌, refl, sym, ap, ap₂, ◌∙◌}
use mathlib.Core.Bool.{Bool, true, false, ◌||◌}
use mathlib.Core.List.{List}
use native.Mathlib.Numerals.{add-one}
use native.Mathlib.Nat.{sub-zero}
use native.Mathlib.Omega.{arith}
use borrow.Author.Tests.{eq-eqb, ne_eqb}
use lib.ListN.{length, get_or, drop, set, length-set}
use lib.Seq.{drop-cons}
use Rattle.rounding.specs.Rounding.{units_in_one}
use Rattle.figure.specs.Figure.{output_step, failure_of}
use Rattle.area.specs.Layout.{inputs, gates, pattern_index, pattern, flip_index, used_pins}
use Rattle.area.specs.Figures.{product_from}
use Rattle.work.specs.Work.{work_gate, work_gates, work_reliability, reads_marked, work_if, mark_if, work_marked, mark_of, invert_bit, toggle_words, set_words}
use Rattle.work.proofs.Frame.{same_gates, same-work-gate, same-store-pattern, same-store-flip}

-- one output more
pub product-turn : (read : ℕ → ℕ) (os : List ℕ) (k r next : ℕ) {target : ℕ} → k < length os → next ≡ output_step units_in_one r (failure_of (read (get_or os k 0)))
    → product_from read r (drop k os) ≡ target → product_from read next (drop (k + 1) os) ≡ target
product-turn read os k r next l e t = rw (add-one, e) (ap (product_from read r) (sym (drop-cons os k 0 l)) ∙ t)

-- one gate more
pub gates-turn : (ws vs : List ℕ) (j m : ℕ) {target : List ℕ} → j < m → vs ≡ work_gate ws j
    → work_gates ws j (m - j) ≡ target → work_gates vs (j + 1) (m - (j + 1)) ≡ target
gates-turn ws vs j m l e t =
    let next : m - j ≡ suc (m - (j + 1)) = omega arith in
    rw (e, add-one j) (rw (next, add-one j) at t)

-- a pin that reads a marked source, and one that does not
pub marked-here : (marks ps : List ℕ) (i : ℕ) → i < length ps → get_or marks (get_or ps i 0) 0 ≡ 1 → reads_marked marks (drop i ps) ≡ true
marked-here marks ps i l e = rw (drop-cons ps i 0 l) (ap (λ (b : Bool). b || reads_marked marks (drop (suc i) ps)) (eq-eqb _ _ e))

pub not-marked-here : (marks ps : List ℕ) (i : ℕ) → i < length ps → (get_or marks (get_or ps i 0) 0 ≡ 1 → ⊥)
    → reads_marked marks (drop (i + 1) ps) ≡ reads_marked marks (drop i ps)
not-marked-here marks ps i l ne =
    rw (add-one, drop-cons ps i 0 l) (sym (ap (λ (b : Bool). b || reads_marked marks (drop (suc i) ps)) (ne_eqb _ _ ne)))

-- one gate more: worked out and marked where it reads a marked source
pub marked_turn : (ws vs marks marks' : List ℕ) (j m : ℕ) (b : Bool) {target : List ℕ} → j < m → reads_marked marks (used_pins ws j) ≡ b
    → vs ≡ work_if b ws j → marks' ≡ mark_if b marks (inputs ws + j)
    → work_marked ws marks j (m - j) ≡ target → work_marked vs marks' (j + 1) (m - (j + 1)) ≡ target
marked_turn ws vs marks marks' j m b l r e f t =
    let next : m - j ≡ suc (m - (j + 1)) = omega arith in
    rw (e, f, ← r, add-one j) (rw (next, add-one j) at t)

pub mark-if-length : (b : Bool) (marks : List ℕ) (s : ℕ) → length (mark_if b marks s) ≡ length marks
mark-if-length true marks s = length-set marks s 1
mark-if-length false marks s = refl

-- the steps of toggling an input, put together
pub toggle-is : (ws marks vs : List ℕ) (i q : ℕ) → q ≡ invert_bit (pattern ws) i → marks ≡ mark_of i
    → vs ≡ work_marked (set ws pattern_index q) marks 0 (gates (set ws pattern_index q) - 0) → work_reliability vs ≡ toggle_words ws i
unfolding toggle_words
toggle-is ws marks vs i q e m v =
    let count : gates (set ws pattern_index q) - 0 ≡ gates ws
    = sub-zero (gates (set ws pattern_index q)) ∙ same_gates ws (set ws pattern_index q) (same-store-pattern ws q) in
    ap work_reliability
    (v
    ∙ ap₂ (λ (xs : List ℕ) (k : ℕ). work_marked (set ws pattern_index q) xs 0 k) m count
    ∙ ap (λ (x : ℕ). work_marked (set ws pattern_index x) (mark_of i) 0 (gates ws)) e)

-- the steps of setting a flip, put together
pub set_is : (ws marks us vs : List ℕ) (g units s : ℕ) → g < gates ws → s ≡ inputs ws + g → marks ≡ mark_of s
    → us ≡ work_gate (set ws (flip_index g) units) g → vs ≡ work_marked us marks (g + 1) (gates us - (g + 1))
    → work_reliability vs ≡ set_words ws g units
unfolding set_words
set_is ws marks us vs g units s l e m u v =
    let flipped = set ws (flip_index g) units in
    let same = same-store-flip ws g units l in
    let count : gates us - (g + 1) ≡ gates ws - suc g =
    rw (u, same_gates flipped _ (same-work-gate flipped g (rw (same_gates ws flipped same) l)), same_gates ws flipped same, add-one g) refl in
    ap work_reliability
    (v
    ∙ ap (λ (k : ℕ). work_marked us marks (g + 1) k) count
    ∙ ap (λ (xs : List ℕ). work_marked xs marks (g + 1) (gates ws - suc g)) u
    ∙ ap₂ (λ (xs : List ℕ) (j : ℕ). work_marked (work_gate flipped g) xs j (gates ws - suc g)) (m ∙ ap mark_of e) (add-one g))
