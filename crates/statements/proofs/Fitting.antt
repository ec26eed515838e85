-- Laws of fitting lines. Assumes nothing.
use Prim.Native.Nat.{ℕ, ◌+◌, ◌<◌}
use mathlib.Core.Path.{◌≡◌, refl}
use Rattle.std.specs.List.{list_all}
use Rattle.names.proofs.Names.{and-is}
use mathlib.Core.Bool.{Bool, true, false, cond}
use lib.Dec.{eqb}
use mathlib.Core.List.{List, [], ◌∷◌}
use native.Mathlib.Numerals.{add-one}
use lib.ListN.{length, get_or, drop}
use lib.Seq.{drop-cons}
use borrow.Author.Tests.{eq-eqb, ne_eqb}
use Rattle.std.specs.Prelude.{Option, Some, None}
use Rattle.names.specs.Names.{same}
use Rattle.statements.specs.declared.Phase.{Phase}
use Rattle.statements.specs.declared.Keyword.TheVariants.{Model, Inputs, Outputs, Names, End, Other}
use Rattle.statements.specs.Fit.{key_model, key_inputs, key_outputs, key_names, key_end, keyword_of, value_of, row_byte, row_bytes, is_row, after_value, after_line}

-- a row is read byte by byte
module _ (s : List ℕ) (i : ℕ) where
  pub row_more : i < length s → row_byte (get_or s i 0) ≡ true → row_bytes (drop i s) ≡ row_bytes (drop (i + 1) s)
  row_more h e = rw (drop-cons s i 0, e, add-one)

-- which keyword a word is
module _ (w : List ℕ) where
  pub is-model : same w key_model ≡ true → Model ≡ keyword_of w
  unfolding keyword_of
  is-model e0 = rw (e0)

  pub is-inputs : same w key_model ≡ false → same w key_inputs ≡ true → Inputs ≡ keyword_of w
  unfolding keyword_of
  is-inputs e0 e1 = rw (e0, e1)

  pub is-outputs : same w key_model ≡ false → same w key_inputs ≡ false → same w key_outputs ≡ true → Outputs ≡ keyword_of w
  unfolding keyword_of
  is-outputs e0 e1 e2 = rw (e0, e1, e2)

  pub is-names : same w key_model ≡ false → same w key_inputs ≡ false → same w key_outputs ≡ false → same w key_names ≡ true → Names ≡ keyword_of w
  unfolding keyword_of
  is-names e0 e1 e2 e3 = rw (e0, e1, e2, e3)

  pub is-end : same w key_model ≡ false → same w key_inputs ≡ false → same w key_outputs ≡ false → same w key_names ≡ false → same w key_end ≡ true → End ≡ keyword_of w
  unfolding keyword_of
  is-end e0 e1 e2 e3 e4 = rw (e0, e1, e2, e3, e4)

  pub is-other : same w key_model ≡ false → same w key_inputs ≡ false → same w key_outputs ≡ false → same w key_names ≡ false → same w key_end ≡ false → Other ≡ keyword_of w
  unfolding keyword_of
  is-other e0 e1 e2 e3 e4 = rw (e0, e1, e2, e3, e4)

-- what a cover line ends in
module _ (w : List ℕ) where
  pub is_zero : same w (48 ∷ []) ≡ true → Some false ≡ value_of w
  unfolding value_of
  is_zero e = simp e

  pub is_one : same w (48 ∷ []) ≡ false → same w (49 ∷ []) ≡ true → Some true ≡ value_of w
  unfolding value_of
  is_one e f = simp (e, f)

  pub is-neither : same w (48 ∷ []) ≡ false → same w (49 ∷ []) ≡ false → None ≡ value_of w
  unfolding value_of
  is-neither e f = simp (e, f)

-- the test of every byte as the library says it
pub row_bytes-is : (s : List ℕ) → row_bytes s ≡ list_all row_byte s
row_bytes-is [] = refl
row_bytes-is (b ∷ s) = and-is (row_byte b) (row_bytes s) (list_all row_byte s) (row_bytes-is s)

-- cover lines
module _ (width : ℕ) (ending : Option Bool) (ws : List (List ℕ)) where
  pub bare-many : width ≡ 0 → (length ws ≡ 1 → ⊥) → None ≡ after_line width ending ws
  unfolding after_line
  bare-many e n = simp (eq-eqb _ _ e, ne_eqb _ _ n)

  pub bare : width ≡ 0 → length ws ≡ 1 → after_value width ending (value_of (get_or ws 0 [])) ≡ after_line width ending ws
  unfolding after_line
  bare e n = simp (eq-eqb _ _ e, eq-eqb _ _ n)

  pub row-many : (width ≡ 0 → ⊥) → (length ws ≡ 2 → ⊥) → None ≡ after_line width ending ws
  unfolding after_line
  row-many e n = simp (ne_eqb _ _ e, ne_eqb _ _ n)

  pub row-right : (width ≡ 0 → ⊥) → length ws ≡ 2 → is_row width (get_or ws 0 []) ≡ true
      → after_value width ending (value_of (get_or ws 1 [])) ≡ after_line width ending ws
  unfolding after_line
  row-right e n r = simp (ne_eqb _ _ e, eq-eqb _ _ n, r)

  pub row-wrong : (width ≡ 0 → ⊥) → length ws ≡ 2 → is_row width (get_or ws 0 []) ≡ false → None ≡ after_line width ending ws
  unfolding after_line
  row-wrong e n r = simp (ne_eqb _ _ e, eq-eqb _ _ n, r)

  pub neither : (length ws ≡ 1 → ⊥) → (length ws ≡ 2 → ⊥) → None ≡ after_line width ending ws
  unfolding after_line
  neither n m = simp (ne_eqb _ _ n, ne_eqb _ _ m) (alike (eqb width 0))
    where
      alike : (q : Bool) → ◌≡◌ {A = Option Phase} None (cond q None None)
      alike true = refl
      alike false = refl
