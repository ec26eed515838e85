-- The definitions of a text in tables. Assumes nothing.
use Prim.Native.Nat.{ℕ, ◌+◌, ◌<◌, ◌≤◌}
use mathlib.Core.Path.{◌≡◌, ap, sym, ◌∙◌}
use mathlib.Core.List.{List, ◌++◌}
use native.Mathlib.Nat.{zero-add}
use native.Mathlib.Omega.{arith}
use lib.ListN.{length, get_or, replicate, take}
use lib.Seq.{get_or-take, length-take-le}
use Rattle.texts.specs.Words.{Word, held}
use Rattle.statements.specs.Lines.{Places}
use Rattle.statements.proofs.Lines.{length-bytes}
use Rattle.model.specs.Model.{inputs_key, gates_key, listed, gates_of, defined, GateText, no_gate}
use Rattle.model.specs.Tables.{rest_at, lines_from, Collected, Heads}
use Rattle.model.proofs.Heading.{gates-listed}
use Rattle.writing.specs.Written.{Words}
use Rattle.blif.specs.Reading.{input_count, gate_count}
use Rattle.blif.specs.Stages.{Within, Fitting, Named}

module _ {t s l : List ℕ} {n : ℕ} (words : Words t s l n) (within : Within (lines_from t s l n 0)) (fitting : Fitting (lines_from t s l n 0))
    {names₁ numbers₁ : List ℕ} {inputs : ℕ}
    (c₁ : Collected t (replicate 1036 0) (replicate 1036 0) 0 (listed inputs_key (lines_from t s l n 0)) names₁ numbers₁ inputs) where
  pub inputs-count : inputs ≡ input_count (lines_from t s l n 0)
  inputs-count = c₁.counted ∙ zero-add (length (listed inputs_key (lines_from t s l n 0)))

  -- there is room for the gates' names after them
  pub gates-room : inputs + length (listed gates_key (lines_from t s l n 0)) ≤ length names₁
  gates-room =
      rw (c₁.long, gates-listed (lines_from t s l n 0)) (omega (arith, inputs-count, within.few_inputs, within.few_gates))

  pub same-room : length names₁ ≤ length numbers₁
  same-room = rw (c₁.long, c₁.wide) (omega arith)

  module _ {names numbers : List ℕ} {many : ℕ}
      (c₂ : Collected t names₁ numbers₁ inputs (listed gates_key (lines_from t s l n 0)) names numbers many) where
    pub all-defined : held t names numbers 0 many ≡ defined (lines_from t s l n 0)
    all-defined = c₂.words ∙ ap (λ (ws : List Word). ws ++ listed gates_key (lines_from t s l n 0)) c₁.words

    pub all-many : many ≡ inputs + gate_count (lines_from t s l n 0)
    all-many = c₂.counted ∙ ap (λ (k : ℕ). inputs + k) (gates-listed (lines_from t s l n 0))

    few-names : many ≤ 1036
    few-names = omega (arith, all-many, inputs-count, within.few_inputs, within.few_gates)

    pub names_in : Places t names many
    names_in =
        record {
          within = rw (c₂.long, c₁.long) few-names;
          inside = c₂.inside (c₁.inside (λ i low. absurd (omega arith)));
        }

    pub numbers_long : many ≤ length numbers
    numbers_long = rw (c₂.wide, c₁.wide) few-names

    named : {heads : List ℕ} {gates : ℕ} → gates ≡ gate_count (lines_from t s l n 0) → Heads t s l n heads gates → gates ≤ length heads
        → Named t s l n names numbers many heads inputs gates
    named {heads} {gates} e h long =
        record {
          words = words;
          within = within;
          inputs_are = inputs-count;
          gates_are = e;
          many_are = rw e all-many;
          defined_are = all-defined;
          names_in = names_in;
          numbers_long = numbers_long;
          headed = h;
          heads_long = long;
          fitting = record { inside = h.inside; fits = λ j low. fits j low };
        }
      where
        width : (j : ℕ) → j < gates → length (get_or (gates_of (lines_from t s l n 0)) j no_gate).head.words ≡ rest_at l n (get_or heads j 0) + 1
        width j low =
            ap (λ (g : GateText). length g.head.words) (sym (h.each j low))
            ∙ length-bytes t s (get_or heads j 0) (rest_at l n (get_or heads j 0) + 1)

        fits : (j : ℕ) → j < gates → (1 ≤ rest_at l n (get_or heads j 0)) × (rest_at l n (get_or heads j 0) ≤ 5)
        fits j low =
            let some = fitting.some j (rw (← e) low) in
            let few = fitting.few j (rw (← e) low) in
            (omega (arith, some, width j low), omega (arith, few, width j low))

    -- the same with the table of gates cut to their count
    pub named-cut : {heads : List ℕ} {gates : ℕ} → gates ≡ gate_count (lines_from t s l n 0) → Heads t s l n heads gates → gates ≤ length heads
        → Named t s l n names numbers many (take gates heads) inputs (length (take gates heads))
    named-cut {heads} {gates} e h long =
        rw (length-take-le gates heads long)
        (named e
        (record {
          inside = λ j low. rw (get_or-take gates heads j 0 low) (h.inside j low);
          each = λ j low. rw (get_or-take gates heads j 0 low) (h.each j low);
        })
        (omega (arith, length-take-le gates heads long)))
