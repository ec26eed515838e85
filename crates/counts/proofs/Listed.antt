-- The ones of a word whose lanes tell a test of listed patterns are the patterns that pass it. Assumes nothing.
use Prim.Native.Nat.{ℕ, zero, suc, ◌+◌, ◌/◌, ◌%◌, ◌^◌, ◌≤◌, ◌<◌}
use mathlib.Core.Bool.{Bool, true, false, ◌&&◌}
use mathlib.Core.List.{List, [], ◌∷◌}
use mathlib.Core.Path.{◌≡◌, refl, sym, ap, ◌∙◌}
use native.Mathlib.Nat.{div-one, pow-succ', div-div-eq-div-mul, mod-lt, zero-lt-suc}
use native.Mathlib.Omega.{arith}
use borrow.Author.Tests.{ltb-true, ltb-false, lt-ltb, le-ltb}
use lib.Count.{ones, ones_step}
use lib.Dec.{eqb, ltb}
use lib.ListN.{length, get_or, set}
use lib.Seq.{set-get_or}
use Rattle.lists.specs.Lists.{count_where}
use Rattle.figure.specs.Figure.{bit_of, is_odd}
use Rattle.signals.specs.Signals.{lane}
use Rattle.counts.specs.Counts.{in_list}

-- the lowest lane, and the others in the halved word
low-lane : (w : ℕ) → w % 2 ≡ bit_of (lane 0 w)
unfolding lane
low-lane w = go (w % 2) refl (mod-lt w (zero-lt-suc 1)) ∙ ap (λ (x : ℕ). bit_of (is_odd x)) (sym (div-one w))
  where
    go : (d : ℕ) → w % 2 ≡ d → d < 2 → w % 2 ≡ bit_of (eqb (w % 2) 1)
    go zero e h = e ∙ ap (λ (x : ℕ). bit_of (eqb x 1)) (sym e)
    go (suc zero) e h = e ∙ ap (λ (x : ℕ). bit_of (eqb x 1)) (sym e)
    go (suc (suc d)) e h = absurd (omega arith)

halved-lane : (l w : ℕ) → lane l (w / 2) ≡ lane (suc l) w
unfolding lane
halved-lane l w = ap is_odd (div-div-eq-div-mul w 2 (2 ^ l) ∙ ap (λ (k : ℕ). w / k) (sym (pow-succ' 2 l)))

-- one pattern fewer in the lanes one lower
ltb-suc : (l k : ℕ) → ltb (suc l) (suc k) ≡ ltb l k
ltb-suc l k = go (ltb l k) refl
  where
    go : (b : Bool) → ltb l k ≡ b → ltb (suc l) (suc k) ≡ b
    go true e = lt-ltb (suc l) (suc k) (omega (arith, ltb-true l k e))
    go false e = le-ltb (suc l) (suc k) (omega (arith, ltb-false l k e))

-- a word without a one adds nothing
pub ones-zero : (w : ℕ) → w ≡ 0 → ones w ≡ 0
unfolding ones
ones-zero w e = ap ones e

pub ones-listed : (t : ℕ → Bool) (k w : ℕ) (patterns : List ℕ) → w < 2 ^ k → length patterns ≤ k
    → ((l : ℕ) → l < k → lane l w ≡ in_list patterns t l) → ones w ≡ count_where t patterns
ones-listed t zero w [] small few lanes = ones-zero w (omega arith)
ones-listed t zero w (q ∷ patterns) small few lanes = absurd (omega arith)
ones-listed t (suc k) w [] small few lanes =
    omega (
      arith,
      ones_step w,
      low-lane w,
      ap bit_of (lanes 0 (omega arith) ∙ ap (λ (b : Bool). b && t 0) (le-ltb 0 0 (omega arith))),
      ones-listed t k (w / 2) [] (omega (arith, pow-succ' 2 k)) (omega arith)
          (λ l h.
          halved-lane l w
          ∙ lanes (suc l) (omega arith)
          ∙ ap (λ (b : Bool). b && t 0) (le-ltb (suc l) 0 (omega arith) ∙ sym (le-ltb l 0 (omega arith)))),
    )
ones-listed t (suc k) w (q ∷ patterns) small few lanes =
    omega (
      arith,
      ones_step w,
      low-lane w,
      ap bit_of (lanes 0 (omega arith) ∙ ap (λ (b : Bool). b && t q) (lt-ltb 0 (suc (length patterns)) (omega arith))),
      ones-listed t k (w / 2) patterns (omega (arith, pow-succ' 2 k)) (omega arith)
          (λ l h. halved-lane l w ∙ lanes (suc l) (omega arith) ∙ ap (λ (b : Bool). b && t (get_or patterns l 0)) (ltb-suc l (length patterns))),
    )

pub add_none : (counts : List ℕ) (j w : ℕ) → w ≡ 0 → counts ≡ set counts j (get_or counts j 0 + ones w)
add_none counts j w e =
    let same : get_or counts j 0 ≡ get_or counts j 0 + ones w = omega (arith, ones-zero w e) in
    sym (set-get_or counts j 0) ∙ ap (set counts j) same
