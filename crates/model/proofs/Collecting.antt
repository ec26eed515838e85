-- Names of lines put into tables, run by run. Assumes nothing.
use Rattle.statements.specs.declared.Keyword.{Keyword}
use Prim.Native.Nat.{ℕ, zero, suc, ◌+◌, ◌-◌, ◌<◌, ◌≤◌}
use mathlib.Core.Path.{◌≡◌, refl, ap, ap₂, sym, subst, ◌∙◌}
use mathlib.Core.List.{List, [], ◌++◌, append-nil, append_assoc}
use mathlib.Core.Logic.{by_cases}
use native.Mathlib.Decide.{dec_lt}
use native.Mathlib.Nat.{add-zero, zero-add}
use native.Mathlib.Omega.{arith}
use lib.ListN.{length, get_or, take, drop, length-append, length-drop}
use lib.Seq.{sets, length-sets, length-take-le}
use Rattle.lists.proofs.Parts.{sets-kept, sets-new, part_at}
use Rattle.texts.specs.Words.{held}
use Rattle.texts.proofs.Words.{held_same}
use Rattle.model.specs.Model.{listed}
use Rattle.model.specs.Tables.{key_at, run_start, run_many, rest_at, lines_from, Collected}
use Rattle.model.proofs.Runs.{held-length, listed-run, lines_end}

-- words in two parts, and words that other entries hold
pub held-split : (t s l : List ℕ) (i a b : ℕ) → held t s l i (a + b) ≡ held t s l i a ++ held t s l (i + a) b
held-split t s l i zero b = rw (zero-add, add-zero)
held-split t s l i (suc a) b =
    let one : suc a + b ≡ suc (a + b) = omega arith in
    let shift : suc i + a ≡ i + suc a = omega arith in
    rw (one, held-split t s l (suc i) a b, shift)

pub held_moved : (t s l s' l' : List ℕ) (i k m : ℕ)
    → ((j : ℕ) → j < m → get_or s' (k + j) 0 ≡ get_or s (i + j) 0)
    → ((j : ℕ) → j < m → get_or l' (k + j) 0 ≡ get_or l (i + j) 0)
    → held t s' l' k m ≡ held t s l i m
held_moved t s l s' l' i k zero hs hl = refl
held_moved t s l s' l' i k (suc m) hs hl =
    let first : get_or s' k 0 ≡ get_or s i 0 = rw (add-zero, add-zero) at (hs 0 (omega arith)) in
    let line : get_or l' k 0 ≡ get_or l i 0 = rw (add-zero, add-zero) at (hl 0 (omega arith)) in
    rw (
      held_moved t s l s' l' (suc i) (suc k) m
          (λ j h. rw (shift k j, shift i j) (hs (suc j) (omega arith)))
          (λ j h. rw (shift k j, shift i j) (hl (suc j) (omega arith))),
      first,
      line,
    )
  where
    shift : (x j : ℕ) → suc x + j ≡ x + suc j
    shift x j = omega arith

-- a run is put in after count others
module _ (t s l nm nl : List ℕ) (start many count : ℕ) (src : start + many ≤ length s) (src-l : start + many ≤ length l)
    (room : count + many ≤ length nm) (room-l : count + many ≤ length nl)
    (places : (i : ℕ) → i < many → get_or s (start + i) 0 < length t) where
  abbrev run : List ℕ → List ℕ
  run xs = take many (drop start xs)

  run_long : (xs : List ℕ) → start + many ≤ length xs → length (run xs) ≡ many
  run_long xs h = length-take-le many (drop start xs) (rw length-drop (omega arith))

  put : (xs ys : List ℕ) → start + many ≤ length xs → count + many ≤ length ys → (i : ℕ) → i < many
      → get_or (sets ys count (run xs)) (count + i) 0 ≡ get_or xs (start + i) 0
  put xs ys hx hy i m =
      sets-new (run xs) ys count i (rw (run_long xs hx) hy) (rw (run_long xs hx) m) ∙ part_at xs start many i m

  pub entered : Collected t nm nl count (held t s l start many) (sets nm count (run s)) (sets nl count (run l)) (count + many)
  entered =
      record {
        words =
            held-split t (sets nm count (run s)) (sets nl count (run l)) 0 count many
            ∙ ap₂ ◌++◌
            (held_same t nm nl (sets nm count (run s)) (sets nl count (run l)) 0 count
            (λ k h. sets-kept (run s) nm count k (omega arith))
            (λ k h. sets-kept (run l) nl count k (omega arith)))
            (rw zero-add (held_moved t s l (sets nm count (run s)) (sets nl count (run l)) start count many (put s nm src room) (put l nl src-l room-l)));
        counted = rw (held-length t s l start many);
        long = length-sets nm count (run s);
        wide = length-sets nl count (run l);
        inside = λ old k h. by_cases (dec_lt k count) (λ low. rw (sets-kept (run s) nm count k low) (old k low)) (λ high. new k h (omega arith));
      }
    where
      new : (k : ℕ) → k < count + many → count ≤ k → get_or (sets nm count (run s)) k 0 < length t
      new k h high =
          let sum : count + (k - count) ≡ k = omega arith in
          let own : k - count < many = omega arith in
          subst (λ (x : ℕ). get_or (sets nm count (run s)) x 0 < length t) sum (rw (put s nm src room (k - count) own) (places (k - count) own))

-- no run is put in
pub entered-none : (t s l nm nl : List ℕ) (start many count : ℕ) → many ≡ 0 → Collected t nm nl count (held t s l start many) nm nl count
entered-none t s l nm nl start many count e =
    rw e (record { words = sym (append-nil (held t nm nl 0 count)); counted = sym (add-zero count); long = refl; wide = refl; inside = λ old. old })

-- what is known while the lines from word k on are still to come
pub record Collecting (t s l : List ℕ) (n : ℕ) (wanted : Keyword) (nm₀ nl₀ : List ℕ) (from : ℕ) (nm nl : List ℕ) (count k : ℕ) : Type 0 where
  pub words : held t nm nl 0 count ++ listed wanted (lines_from t s l n k) ≡ held t nm₀ nl₀ 0 from ++ listed wanted (lines_from t s l n 0)
  pub counted : count + length (listed wanted (lines_from t s l n k)) ≡ from + length (listed wanted (lines_from t s l n 0))
  pub long : length nm ≡ length nm₀
  pub wide : length nl ≡ length nl₀
  pub inside : ((i : ℕ) → i < from → get_or nm₀ i 0 < length t) → (i : ℕ) → i < count → get_or nm i 0 < length t

pub begin : (t s l : List ℕ) (n : ℕ) (wanted : Keyword) (nm nl : List ℕ) (from : ℕ) → Collecting t s l n wanted nm nl from nm nl from 0
begin t s l n wanted nm nl from = record { words = refl; counted = refl; long = refl; wide = refl; inside = λ old. old }

module _ (t s l : List ℕ) (n : ℕ) (wanted : Keyword) (nm₀ nl₀ : List ℕ) (from : ℕ) (nm nl : List ℕ) (count k : ℕ)
    (c : Collecting t s l n wanted nm₀ nl₀ from nm nl count k) where
  module _ (r : ℕ) (here : k < n) (rest : r ≡ rest_at l n k) where
    abbrev many : ℕ
    many = run_many (key_at t s k) wanted r

    listed-length : length (listed wanted (lines_from t s l n k)) ≡ many + length (listed wanted (lines_from t s l n (k + (r + 1))))
    listed-length =
        ap length (listed-run t s l n k r here rest wanted)
        ∙ length-append (held t s l (run_start wanted k r) many) (listed wanted (lines_from t s l n (k + (r + 1))))
        ∙ ap (λ (x : ℕ). x + length (listed wanted (lines_from t s l n (k + (r + 1))))) (held-length t s l (run_start wanted k r) many)

    pub roomy : count + many ≤ from + length (listed wanted (lines_from t s l n 0))
    roomy = omega (arith, listed-length, c.counted)

    pub turn : (nm' nl' : List ℕ) (count' : ℕ) → Collected t nm nl count (held t s l (run_start wanted k r) many) nm' nl' count'
        → Collecting t s l n wanted nm₀ nl₀ from nm' nl' count' (k + (r + 1))
    turn nm' nl' count' e =
        record {
          words = rw (e.words, append_assoc, ← listed-run t s l n k r here rest wanted) c.words;
          counted = omega (arith, listed-length, c.counted, e.counted, held-length t s l (run_start wanted k r) many);
          long = e.long ∙ c.long;
          wide = e.wide ∙ c.wide;
          inside = λ old. e.inside (c.inside old);
        }

  pub finish : n ≤ k → Collected t nm₀ nl₀ from (listed wanted (lines_from t s l n 0)) nm nl count
  finish past =
      let none : listed wanted (lines_from t s l n k) ≡ [] = ap (listed wanted) (lines_end t s l n k past) in
      record {
        words = sym (append-nil (held t nm nl 0 count)) ∙ rw none at c.words;
        counted = omega (arith, ap length none, c.counted);
        long = c.long;
        wide = c.wide;
        inside = c.inside;
      }
