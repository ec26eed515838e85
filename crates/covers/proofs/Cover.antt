-- The table made of a cover answers as the cover does, whatever the values. Assumes nothing.
use Rattle.statements.specs.declared.Keyword.{Keyword}
use Prim.Native.Nat.{ℕ, zero, suc, ◌+◌, ◌-◌, ◌*◌, ◌/◌, ◌^◌, ◌<◌}
use mathlib.Core.Path.{◌≡◌, refl, ap, ap₂, sym, ◌∙◌}
use mathlib.Core.Bool.{Bool, true, false, cond}
use mathlib.Core.List.{List, [], ◌∷◌}
use native.Mathlib.Nat.{pow-succ', div-one, div-div-eq-div-mul, zero-add}
use native.Mathlib.Omega.{arith}
use native.Mathlib.Numerals.{add-one}
use lib.Bits.{bit_or}
use lib.ListN.{length, get_or, drop}
use Rattle.model.proofs.Keys.{same-keys, other-keys}
use Rattle.figure.specs.Figure.{bit_of, is_odd, index_of, answer}
use Rattle.netlist.specs.Netlist.{input_values}
use Rattle.texts.specs.Words.{word_of}
use Rattle.statements.specs.Lines.{Line, line_of, bytes_from}
use Rattle.statements.specs.Fit.{value_of}
use Rattle.statements.proofs.Lines.{length-bytes, bytes-at}
use Rattle.model.specs.Model.{key_of, cover_key, cover_of, same_key}
use Rattle.model.specs.Tables.{key_at, rest_at, lines_from}
use Rattle.model.proofs.Runs.{parted}
use Rattle.covers.specs.Cover.{meets, some_meets, ending_of, table_from, table_of}
use Rattle.covers.proofs.Rows.{odd-bit, half-bit, or-three, rows-of-two}

-- bit j of a table
pub table-bit : (f : ℕ → Bool) (i k j : ℕ) → j < k → is_odd (table_from f i k / 2 ^ j) ≡ f (i + j)
table-bit f i zero j h = absurd (omega arith)
table-bit f i (suc k) zero h =
    ap is_odd (div-one (bit_of (f i) + 2 * table_from f (suc i) k)) ∙ odd-bit (f i) (table_from f (suc i) k) ∙ ap f (let e : i ≡ i + 0 = omega arith in e)
table-bit f i (suc k) (suc j) h =
    ap is_odd
    (ap (λ (m : ℕ). (bit_of (f i) + 2 * table_from f (suc i) k) / m) (pow-succ' 2 j)
    ∙ sym (div-div-eq-div-mul (bit_of (f i) + 2 * table_from f (suc i) k) 2 (2 ^ j))
    ∙ ap (λ (m : ℕ). m / 2 ^ j) (half-bit (f i) (table_from f (suc i) k)))
    ∙ table-bit f (suc i) k j (omega arith)
    ∙ ap f (let e : suc i + j ≡ i + suc j = omega arith in e)

-- values and their index
pub index-values : (vs : List Bool) → input_values (length vs) (index_of vs) ≡ vs
index-values [] = refl
index-values (v ∷ vs) = ap₂ ◌∷◌ (odd-bit v (index_of vs)) (ap (input_values (length vs)) (half-bit v (index_of vs)) ∙ index-values vs)

pub index_below : (vs : List Bool) → index_of vs < 2 ^ length vs
index_below [] = omega arith
index_below (v ∷ vs) = rw pow-succ' (go v (index_below vs))
  where
    go : (b : Bool) → index_of vs < 2 ^ length vs → bit_of b + 2 * index_of vs < 2 * 2 ^ length vs
    go true h = omega arith
    go false h = omega arith

-- the table's answer is the cover's value
pub table-answer : (F : List Bool → Bool) (vs : List Bool) → answer (table_of (length vs) F) vs ≡ F vs
unfolding answer table_of
table-answer F vs =
    table-bit (λ i. F (input_values (length vs) i)) 0 (2 ^ length vs) (index_of vs) (index_below vs)
    ∙ ap (λ (i : ℕ). F (input_values (length vs) i)) (zero-add (index_of vs))
    ∙ ap F (index-values vs)

-- a cover, line by line
module _ (t s l : List ℕ) (n k r : ℕ) (inside : k < n) (rest : r ≡ rest_at l n k) where
  abbrev cover : List Line
  cover = cover_of (lines_from t s l n k)

  first : get_or (bytes_from t s k (r + 1)) 0 [] ≡ word_of (drop (get_or s k 0) t)
  first = rw add-one refl

  key-of : key_of (bytes_from t s k (r + 1)) ≡ key_at t s k
  key-of = rw add-one refl

  split : cover_of (lines_from t s l n k)
      ≡ cond (same_key (key_at t s k) cover_key) (line_of (get_or l k 0) (bytes_from t s k (r + 1)) ∷ cover_of (lines_from t s l n (k + (r + 1)))) []
  split = ap cover_of (parted t s l n k r inside rest) ∙ ap (λ (x : Keyword). cond (same_key x cover_key) (line_of (get_or l k 0) (bytes_from t s k (r + 1)) ∷ cover_of (lines_from t s l n (k + (r + 1)))) []) key-of

  pub cover-over : (key_at t s k ≡ cover_key → ⊥) → cover_of (lines_from t s l n k) ≡ []
  cover-over e = split ∙ rw (other-keys _ _ e)

  pub cover_on : key_at t s k ≡ cover_key
      → cover_of (lines_from t s l n k) ≡ line_of (get_or l k 0) (bytes_from t s k (r + 1)) ∷ cover_of (lines_from t s l n (k + (r + 1)))
  cover_on e = split ∙ rw (same-keys _ _ e)

  rows_more : (width : ℕ) → key_at t s k ≡ cover_key
      → table_of width (some_meets (cover_of (lines_from t s l n k)))
      ≡ bit_or (table_of width (meets (word_of (drop (get_or s k 0) t)))) (table_of width (some_meets (cover_of (lines_from t s l n (k + (r + 1))))))
  rows_more width e =
      let later = cover_of (lines_from t s l n (k + (r + 1))) in
      ap (λ (ls : List Line). table_of width (some_meets ls)) (cover_on e)
      ∙ rows-of-two width (meets (get_or (bytes_from t s k (r + 1)) 0 [])) (some_meets later)
      ∙ ap (λ (w : List ℕ). bit_or (table_of width (meets w)) (table_of width (some_meets later))) first

  -- the rows of the lines read so far, with those of this line
  pub rows-turn : (width rows line whole : ℕ) → key_at t s k ≡ cover_key → line ≡ table_of width (meets (word_of (drop (get_or s k 0) t)))
      → bit_or rows (table_of width (some_meets (cover_of (lines_from t s l n k)))) ≡ whole
      → bit_or (bit_or rows line) (table_of width (some_meets (cover_of (lines_from t s l n (k + (r + 1)))))) ≡ whole
  rows-turn width rows line whole e q h = rw q (or-three rows _ _ ∙ ap (bit_or rows) (sym (rows_more width e)) ∙ h)

  pub ends-in : key_at t s k ≡ cover_key → ending_of (cover_of (lines_from t s l n k)) ≡ value_of (word_of (drop (get_or s (k + r) 0) t))
  ends-in e = rw (cover_on e) (ap value_of last)
    where
      last : get_or (bytes_from t s k (r + 1)) (length (bytes_from t s k (r + 1)) - 1) [] ≡ word_of (drop (get_or s (k + r) 0) t)
      last =
          let one : length (bytes_from t s k (r + 1)) - 1 ≡ r = omega (arith, length-bytes t s k (r + 1)) in
          rw one (bytes-at t s k (r + 1) r (omega arith))
