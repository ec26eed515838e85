-- A list that grows at its end, one entry for each gate, each worked out from the entries before it: the entry of gate j is its step on the WHOLE list,
-- and no other list has that. Right values and failures are two such lists. Assumes nothing.
use Prim.Native.Nat.{ℕ, zero, suc, ◌+◌, ◌<◌}
use mathlib.Core.List.{List, [], ◌∷◌, ◌++◌}
use mathlib.Core.Path.{◌≡◌, sym, ap, subst, ◌∙◌, refl}
use mathlib.Core.Logic.{⊎_elim}
use native.Mathlib.Nat.{add-zero, eq-or-lt_of_le, le_of_suc-le-suc}
use native.Mathlib.Omega.{arith}
use lib.ListN.{length, get_or, length-append, get_or-append}
use lib.Seq.{get_or_at, ext_get_or}
use Rattle.lists.proofs.Every.{AllFrom, all_tail, snoc-all}
use Rattle.netlist.specs.Netlist.{Gate, no_gate}

-- two lists agree below b
abbrev pub Agree : {B : Type 0} → B → ℕ → List B → List B → Type 0
Agree z b xs ys = (i : ℕ) → i < b → get_or xs i z ≡ get_or ys i z

-- a step looks only at entries below its source: the first is n
abbrev pub LooksBelow : {B : Type 0} → B → (Gate → List B → B) → ℕ → Gate → Type 0
LooksBelow {B} z step t g = (xs ys : List B) → Agree z t xs ys → step g xs ≡ step g ys

abbrev pub Looks : {B : Type 0} → B → (Gate → List B → B) → ℕ → List Gate → Type 0
Looks z step n gs = AllFrom no_gate (LooksBelow z step) n gs

-- ys begins as xs, and has at each gate that gate's step on the whole of ys
pub record Solves {B : Type 0} (z : B) (step : Gate → List B → B) (n : ℕ) (gs : List Gate) (xs ys : List B) : Type 0 where
  pub size : length ys ≡ n + length gs
  pub start : Agree z n xs ys
  pub steps : (j : ℕ) → j < length gs → get_or ys (n + j) z ≡ step (get_or gs j no_gate) ys

module _ {B : Type 0} (z : B) (step : Gate → List B → B) where
  abbrev pub grow : List Gate → List B → List B
  grow [] xs = xs
  grow (g ∷ gs) xs = grow gs (xs ++ (step g xs ∷ []))

  grow-length : (gs : List Gate) (xs : List B) → length (grow gs xs) ≡ length xs + length gs
  grow-length [] xs = sym (add-zero (length xs))
  grow-length (g ∷ gs) xs = omega (arith, grow-length gs (xs ++ (step g xs ∷ [])), length-append xs (step g xs ∷ []))

  grow-keeps : (gs : List Gate) (xs : List B) (i : ℕ) → i < length xs → get_or xs i z ≡ get_or (grow gs xs) i z
  grow-keeps [] xs i l = refl
  grow-keeps (g ∷ gs) xs i l =
      sym (get_or-append xs (step g xs ∷ []) z i l) ∙ grow-keeps gs (xs ++ (step g xs ∷ [])) i (omega (arith, length-append xs (step g xs ∷ [])))

  grow-steps : (n : ℕ) (gs : List Gate) (xs : List B) → length xs ≡ n → Looks z step n gs
      → (j : ℕ) → j < length gs → get_or (grow gs xs) (n + j) z ≡ step (get_or gs j no_gate) (grow gs xs)
  grow-steps n [] xs e looks j l = absurd (omega arith)
  grow-steps n (g ∷ gs) xs e looks zero l =
      let longer = xs ++ (step g xs ∷ []) in
      let size : length longer ≡ suc n = omega (arith, length-append xs (step g xs ∷ [])) in
      ap (λ (i : ℕ). get_or (grow gs longer) i z) (add-zero n)
      ∙ sym (grow-keeps gs longer n (omega arith))
      ∙ get_or_at xs (step g xs) [] z n e
      ∙ looks 0 (omega arith) xs (grow gs longer) (λ i k. grow-keeps (g ∷ gs) xs i (omega arith))
  grow-steps n (g ∷ gs) xs e looks (suc j) l =
      let longer = xs ++ (step g xs ∷ []) in
      let size : length longer ≡ suc n = omega (arith, length-append xs (step g xs ∷ [])) in
      let at : n + suc j ≡ suc n + j = omega arith in
      ap (λ (i : ℕ). get_or (grow gs longer) i z) at ∙ grow-steps (suc n) gs longer size (all_tail no_gate (LooksBelow z step) n g gs looks) j (omega arith)

  pub grow-solves : (n : ℕ) (gs : List Gate) (xs : List B) → length xs ≡ n → Looks z step n gs → Solves z step n gs xs (grow gs xs)
  grow-solves n gs xs e looks =
      record {
        size = omega (arith, grow-length gs xs);
        start = λ i l. grow-keeps gs xs i (omega arith);
        steps = grow-steps n gs xs e looks;
      }

  pub grow-unique : (n : ℕ) (gs : List Gate) (xs ys : List B) → length xs ≡ n → Looks z step n gs → Solves z step n gs xs ys → ys ≡ grow gs xs
  grow-unique n [] xs ys e looks s = ext_get_or z ys xs (omega (arith, s.size)) (λ i l. sym (s.start i (omega (arith, s.size))))
  grow-unique n (g ∷ gs) xs ys e looks s =
      let longer = xs ++ (step g xs ∷ []) in
      let size : length longer ≡ suc n = omega (arith, length-append xs (step g xs ∷ [])) in
      let here : get_or longer n z ≡ get_or ys n z
      = get_or_at xs (step g xs) [] z n e
      ∙ looks 0 (omega arith) xs ys (λ i k. s.start i (omega arith))
      ∙ sym (s.steps 0 (omega arith))
      ∙ ap (λ (i : ℕ). get_or ys i z) (add-zero n) in
      grow-unique
      (suc n)
      gs
      longer
      ys
      size
      (all_tail no_gate (LooksBelow z step) n g gs looks)
      (record {
        size = omega (arith, s.size);
        start =
            λ i k.
            ⊎_elim
            (λ q. subst (λ (t : ℕ). get_or longer t z ≡ get_or ys t z) (sym q) here)
            (λ l. get_or-append xs (step g xs ∷ []) z i (omega arith) ∙ s.start i l)
            (eq-or-lt_of_le (le_of_suc-le-suc k));
        steps = λ j l. ap (λ (i : ℕ). get_or ys i z) (omega arith) ∙ s.steps (suc j) (omega arith);
      })

  -- a property that the start and each step have, every entry has
  module _ (Q : B → Type 0) (base : Q z) where
    pub grow-all : (gs : List Gate) (xs : List B) → ((i : ℕ) → Q (get_or xs i z))
        → ((j : ℕ) → j < length gs → (ys : List B) → ((i : ℕ) → Q (get_or ys i z)) → Q (step (get_or gs j no_gate) ys))
        → (i : ℕ) → Q (get_or (grow gs xs) i z)
    grow-all [] xs h steps i = h i
    grow-all (g ∷ gs) xs h steps i =
        grow-all gs (xs ++ (step g xs ∷ [])) (snoc-all z Q base xs h (step g xs) (steps 0 (omega arith) xs h)) (λ j l. steps (suc j) (omega arith)) i
