-- The numbers that a text is refused with are above 0. Assumes nothing.
use Prim.Native.Nat.{ℕ, ◌+◌, ◌<◌}
use mathlib.Core.Bool.{Bool, true, false, cond, not}
use mathlib.Core.List.{List, [], ◌∷◌}
use native.Mathlib.Omega.{arith}
use lib.Dec.{leb, eqb, ltb}
use lib.ListN.{length, get_or}
use Rattle.refusal.specs.Judgement.{Judgement}
use Rattle.refusal.specs.Judgement.{Fine, refused}
use Rattle.refusal.proofs.Laws.{Only, only-unless, only-otherwise, only-lowest}
use Rattle.texts.specs.Words.{Word, line_feeds, most_bytes}
use Rattle.statements.specs.declared.Phase.{Phase}
use Rattle.statements.specs.declared.Phase.TheVariants.{Before}
use Rattle.statements.specs.Lines.{Line, last_line}
use Rattle.statements.specs.Fit.{fit, is_ended, if_fits, fault}
use Rattle.placing.specs.Placing.{via, loop_fault}
use Rattle.model.specs.Model.{inputs_key, outputs_key, gates_key, listed, defined, number, no_word}
use Rattle.area.specs.Layout.{most_inputs, most_gates, most_outputs}
use Rattle.model.specs.Counts.{earlier, line_at, over_fault, count_fault}
use Rattle.resolve.specs.Names.{again_fault, unknown_fault, names_fault, sources_in, source_numbers}
use Rattle.blif.specs.Reading.{text_lines, input_count, gate_count, model_length, blif_refusal}
use Rattle.refusal.specs.declared.Cause.TheVariants.{TextLine, TextModel, ImageSlice}
use Rattle.std.specs.Prelude.{Err, Option, Some, None}

abbrev Positive : ℕ → Type 0
Positive number = 0 < number

only-earlier : (v w : Judgement) → Only Positive v → Only Positive w → Only Positive (earlier v w)
only-earlier Fine w f g = g
only-earlier (Err why) Fine f g = f
only-earlier (Err why) (Err why2) f g = go (leb why.place why2.place)
  where
    go : (q : Bool) → Only Positive (cond {A = Judgement} q (Err why) (Err why2))
    go true = f
    go false = g

only-fault : (p : Phase) (ls : List Line) (last : ℕ) → Only Positive (fault p ls last)
only-fault p [] last = only-unless Positive (is_ended p) TextLine last (omega arith)
only-fault p (l ∷ ls) last = go (fit p l.words) (λ q. only-fault q ls last)
  where
    go : (o : Option Phase) → ((q : Phase) → Only Positive (fault q ls last)) → Only Positive (if_fits o (refused TextLine l.number) (λ q. fault q ls last))
    go None ih = only-unless Positive false TextLine l.number (omega arith)
    go (Some q) ih = ih q

only-over : (ws : List Word) (most : ℕ) → Only Positive (over_fault ws most)
only-over ws most = only-unless Positive (leb (length ws) most) TextModel (line_at ws most) (omega arith)

only-count : (ls : List Line) → Only Positive (count_fault ls)
unfolding count_fault
only-count ls =
    only-earlier _ _ (only-over (listed inputs_key ls) most_inputs)
    (only-earlier _ _ (only-over (listed outputs_key ls) most_outputs)
    (only-earlier _ _ (only-over (listed gates_key ls) most_gates) (only-unless Positive (leb 1 (length (listed outputs_key ls))) TextModel (last_line ls).number (omega arith))))

only-unknown : (ds us : List Word) → Only Positive (unknown_fault ds us)
unfolding unknown_fault
only-unknown ds us =
    only-lowest Positive _ (length us) (λ i. only-unless Positive (ltb (number ds (get_or us i no_word).bytes) (length ds)) TextModel (line_at us i) (omega arith))

only-names : (ls : List Line) → Only Positive (names_fault ls)
unfolding names_fault again_fault
only-names ls =
    only-otherwise Positive _ _
    (only-lowest Positive _ (length (defined ls))
    (λ i. only-unless Positive (eqb (number (defined ls) (get_or (defined ls) i no_word).bytes) i) TextModel (line_at (defined ls) i) (omega arith)))
    (only-otherwise Positive _ _ (only-unknown (defined ls) (listed outputs_key ls))
    (only-lowest Positive _ (gate_count ls) (λ j. only-unknown (defined ls) (sources_in ls j))))

only-loops : (S : ℕ → List ℕ) (n g : ℕ) (line : ℕ → ℕ) → Only Positive (loop_fault S n g line)
unfolding loop_fault
only-loops S n g line = only-lowest Positive _ g (λ j. only-unless Positive (not (via S n g j j)) TextModel (line j) (omega arith))

pub only-blif : (text : List ℕ) (room : ℕ) → Only (λ number. 0 < number) (blif_refusal text room)
unfolding blif_refusal
only-blif text room =
    let ls = text_lines text in
    only-otherwise Positive _ _ (only-unless Positive (leb (length text) most_bytes) TextLine 0 (omega arith))
    (only-otherwise Positive _ _ (only-fault Before (text_lines text) (1 + line_feeds text))
    (only-otherwise Positive _ _
    (only-otherwise Positive _ _ (only-count (text_lines text))
    (only-otherwise Positive _ _ (only-names (text_lines text))
    (only-loops (source_numbers (text_lines text)) (input_count (text_lines text)) (gate_count (text_lines text)) (λ (j : ℕ). line_at (defined (text_lines text)) (input_count (text_lines text) + j)))))
    (only-unless Positive (leb (model_length (text_lines text)) room) ImageSlice 0 (omega arith))))
