-- Gates entered by the word numbers of their lines. Assumes nothing.
use Rattle.statements.specs.declared.Keyword.{Keyword}
use Prim.Native.Nat.{ℕ, suc, ◌+◌, ◌<◌, ◌≤◌}
use mathlib.Core.Path.{◌≡◌, refl, ap, sym, subst, ◌∙◌}
use mathlib.Core.Bool.{Bool, true, false, cond}
use mathlib.Core.List.{List, [], ◌∷◌, ◌++◌}
use mathlib.Core.Logic.{◌⊎◌, ⊎_elim}
use native.Mathlib.Nat.{add-zero, eq-or-lt_of_le}
use native.Mathlib.Numerals.{add-one}
use native.Mathlib.Omega.{arith}
use lib.ListN.{length, get_or, drop, set, length-set, length-drop}
use lib.Seq.{get_or-set_same, get_or-set_other, get_or-drop, drop-drop}
use Rattle.statements.specs.Lines.{Line}
use Rattle.model.specs.Model.{key_of, gates_key, listed, GateText, gates_of, no_gate, same_key}
use Rattle.model.specs.Tables.{key_at, rest_at, lines_from, gate_from, Heads}
use Rattle.model.proofs.Runs.{parted, lines_end}

-- each gate's line lists one name
pub gates-listed : (ls : List Line) → length (listed gates_key ls) ≡ length (gates_of ls)
gates-listed [] = refl
gates-listed (l ∷ ls) = go (same_key (key_of l.words) gates_key) refl (gates-listed ls)
  where
    go : (b : Bool) → same_key (key_of l.words) gates_key ≡ b → length (listed gates_key ls) ≡ length (gates_of ls)
        → length (listed gates_key (l ∷ ls)) ≡ length (gates_of (l ∷ ls))
    go true e ih = rw e (ap suc ih)
    go false e ih = rw e ih

-- gates of the lines before word k are entered, and those from word k on are to come
pub record Heading (t s l : List ℕ) (n : ℕ) (heads : List ℕ) (count k : ℕ) : Type 0 where
  pub so_far : Heads t s l n heads count
  pub few : count ≤ k
  pub top : count ≤ length (gates_of (lines_from t s l n 0))
  pub rest : drop count (gates_of (lines_from t s l n 0)) ≡ gates_of (lines_from t s l n k)

pub begin : (t s l : List ℕ) (n : ℕ) (heads : List ℕ) → Heading t s l n heads 0 0
begin t s l n heads =
    record {
      so_far = record { inside = λ j h. absurd (omega arith); each = λ j h. absurd (omega arith) };
      few = omega arith;
      top = omega arith;
      rest = refl;
    }

module _ (t s l : List ℕ) (n : ℕ) (heads : List ℕ) (count k r : ℕ) (here : k < n) (rest : r ≡ rest_at l n k) (c : Heading t s l n heads count k) where
  abbrev whole : List GateText
  whole = gates_of (lines_from t s l n 0)

  abbrev later : List GateText
  later = gates_of (lines_from t s l n (k + (r + 1)))

  -- the line at k is a gate's, or none
  next : drop count (gates_of (lines_from t s l n 0)) ≡ cond (same_key (key_at t s k) gates_key) (gate_from t s l n k ∷ []) [] ++ gates_of (lines_from t s l n (k + (r + 1)))
  next = c.rest ∙ ap gates_of (parted t s l n k r here rest) ∙ rw (rest, add-one) refl

  pub passed-by : same_key (key_at t s k) gates_key ≡ false → Heading t s l n heads count (k + (r + 1))
  passed-by e = record { so_far = c.so_far; few = omega (arith, c.few); top = c.top; rest = rw e at next }

  module _ (e : same_key (key_at t s k) gates_key ≡ true) where
    front : drop count (gates_of (lines_from t s l n 0)) ≡ gate_from t s l n k ∷ gates_of (lines_from t s l n (k + (r + 1)))
    front = rw e at next

    pub more : count < length (gates_of (lines_from t s l n 0))
    more = omega (arith, c.top, ap length front, length-drop count (gates_of (lines_from t s l n 0)))

    pub entered : length (gates_of (lines_from t s l n 0)) ≤ length heads → Heading t s l n (set heads count k) (count + 1) (k + (r + 1))
    entered room =
        record {
          so_far =
              record {
                inside = λ j h. ⊎_elim (λ (q : j ≡ count). rw (q, own) here) (λ (q : j < count). rw (other j q) (c.so_far.inside j q)) (which j h);
                each = λ j h. ⊎_elim (newest j) (λ (q : j < count). rw (other j q) (c.so_far.each j q)) (which j h);
              };
          few = omega (arith, c.few);
          top = omega (arith, more);
          rest = rw (← drop-drop 1 count whole, front) refl;
        }
      where
        which : (j : ℕ) → j < count + 1 → (j ≡ count) ⊎ (j < count)
        which j h = eq-or-lt_of_le {n = j} {m = count} (omega arith)

        own : get_or (set heads count k) count 0 ≡ k
        own = get_or-set_same heads count k 0 (omega (arith, more))

        other : (j : ℕ) → j < count → get_or (set heads count k) j 0 ≡ get_or heads j 0
        other j q = get_or-set_other heads count j k 0 (λ p. omega arith)

        at_count : get_or (gates_of (lines_from t s l n 0)) count no_gate ≡ gate_from t s l n k
        at_count =
            subst (λ (i : ℕ). get_or whole i no_gate ≡ get_or (drop count whole) 0 no_gate) (add-zero count) (sym (get_or-drop count whole 0 no_gate))
            ∙ ap (λ (xs : List GateText). get_or xs 0 no_gate) front

        newest : (j : ℕ) → j ≡ count → gate_from t s l n (get_or (set heads count k) j 0) ≡ get_or (gates_of (lines_from t s l n 0)) j no_gate
        newest j q = rw (q, own) (sym at_count)

-- either way
module _ (t s l : List ℕ) (n : ℕ) (heads : List ℕ) (count k r : ℕ) (here : k < n) (rest : r ≡ rest_at l n k) (c : Heading t s l n heads count k)
    (room : length (gates_of (lines_from t s l n 0)) ≤ length heads) where
  pub turn : (key : Keyword) → key ≡ key_at t s k → (heads' : List ℕ) (count' : ℕ)
      → heads' ≡ cond (same_key key gates_key) (set heads count k) heads → count' ≡ count + cond (same_key key gates_key) 1 0
      → (length heads' ≡ length heads) × Heading t s l n heads' count' (k + (r + 1))
  turn key q heads' count' e f = go (same_key (key_at t s k) gates_key) refl
    where
      go : (b : Bool) → same_key (key_at t s k) gates_key ≡ b → (length heads' ≡ length heads) × Heading t s l n heads' count' (k + (r + 1))
      go true p =
          let own : heads' ≡ set heads count k = rw (q, p) at e in
          let one : count' ≡ count + 1 = rw (q, p) at f in
          rw (own, one) (length-set heads count k, entered t s l n heads count k r here rest c p room)
      go false p =
          let own : heads' ≡ heads = rw (q, p) at e in
          let one : count' ≡ count = rw (q, p, add-zero) at f in
          rw (own, one) (refl, passed-by t s l n heads count k r here rest c p)

pub finish : (t s l : List ℕ) (n : ℕ) (heads : List ℕ) (count k : ℕ) → n ≤ k → Heading t s l n heads count k
    → (count ≡ length (gates_of (lines_from t s l n 0))) × Heads t s l n heads count
finish t s l n heads count k past c =
    let over : drop count (gates_of (lines_from t s l n 0)) ≡ [] = c.rest ∙ ap gates_of (lines_end t s l n k past) in
    (omega (arith, c.top, ap length over, length-drop count (gates_of (lines_from t s l n 0))), c.so_far)
