-- Counts of a model, and its last line. Assumes nothing.
use Prim.Native.Nat.{ℕ, zero, suc, ◌+◌, ◌-◌, ◌<◌, ◌≤◌}
use mathlib.Core.Path.{◌≡◌, refl, ap, sym, ◌∙◌}
use mathlib.Core.Bool.{Bool, true, false}
use mathlib.Core.List.{List, [], ◌∷◌}
use native.Mathlib.Nat.{add-zero, zero-add}
use native.Mathlib.Omega.{arith}
use lib.ListN.{length, get_or}
use lib.Dec.{eqb, leb}
use borrow.Author.Tests.{eqb-true, leb-true, leb-false, le-leb, lt-leb}
use Rattle.refusal.specs.Judgement.{Judgement}
use Rattle.refusal.specs.Judgement.{Fine, refused}
use Rattle.refusal.specs.Judgement.{otherwise}
use Rattle.refusal.proofs.Laws.{unless-fine, refused-not-fine}
use Rattle.texts.specs.Words.{Word, held, word_at}
use Rattle.statements.specs.Lines.{Line, joined, lines_of, last_line}
use Rattle.model.specs.Model.{inputs_key, outputs_key, gates_key, listed, defined}
use Rattle.area.specs.Layout.{most_inputs, most_gates, most_outputs}
use Rattle.model.specs.Counts.{earlier, over_fault, some_fault, count_fault}
use Rattle.model.specs.Tables.{lines_from}
use Rattle.model.proofs.Heading.{gates-listed}
use Rattle.resolve.specs.Names.{again_fault, unknown_fault, names_fault}
use Rattle.blif.specs.Reading.{output_count, room_fault, lines_refusal, loops_fault}
use Rattle.blif.specs.Stages.{Within, sources_fault, names_refusal}
use Rattle.blif.proofs.Chain.{flat}
use Rattle.refusal.specs.declared.Cause.{Cause}
use Rattle.refusal.specs.declared.Cause.TheVariants.{TextModel}
use Rattle.std.specs.Prelude.{Err}

earlier-fine : (v w : Judgement) → earlier v w ≡ Fine → (v ≡ Fine) × (w ≡ Fine)
earlier-fine Fine w e = (refl, e)
earlier-fine (Err why) Fine e = refused-not-fine why.cause why.place e
earlier-fine (Err why) (Err why2) e = go (leb why.place why2.place) refl
  where
    go : (q : Bool) → leb why.place why2.place ≡ q → (◌≡◌ {A = Judgement} (Err why) Fine) × (◌≡◌ {A = Judgement} (Err why2) Fine)
    go true p = refused-not-fine why.cause why.place (rw p at e)
    go false p = refused-not-fine why2.cause why2.place (rw p at e)

-- counts that are not refused
pub within : (ls : List Line) → count_fault ls ≡ Fine → Within ls
unfolding count_fault
within ls e =
    let one = earlier-fine _ _ e in
    let two = earlier-fine _ _ one.1 in
    let three = earlier-fine _ _ two.1 in
    record {
      few_inputs = leb-true _ _ (unless-fine _ TextModel _ one.0);
      few_gates = rw (← gates-listed ls) (leb-true _ _ (unless-fine _ TextModel _ three.0));
      few_outputs = leb-true _ _ (unless-fine _ TextModel _ two.0);
    }

pub some-there : (ls : List Line) → count_fault ls ≡ Fine → 1 ≤ output_count ls
unfolding count_fault
some-there ls e =
    let one = earlier-fine (over_fault (listed inputs_key ls) most_inputs) (earlier (over_fault (listed outputs_key ls) most_outputs) (earlier (over_fault (listed gates_key ls) most_gates) (some_fault ls))) e in
    let two = earlier-fine (over_fault (listed outputs_key ls) most_outputs) (earlier (over_fault (listed gates_key ls) most_gates) (some_fault ls)) one.1 in
    let three = earlier-fine (over_fault (listed gates_key ls) most_gates) (some_fault ls) two.1 in
    leb-true 1 (length (listed outputs_key ls)) (unless-fine (leb 1 (length (listed outputs_key ls))) TextModel (last_line ls).number three.1)

-- the last line is that of the last word
last-joined : (w : Word) (l : Line) (ls : List Line) → (last_line (joined w (l ∷ ls))).number ≡ (last_line (l ∷ ls)).number
last-joined w l ls = go (eqb w.line l.number) refl ls
  where
    go : (b : Bool) → eqb w.line l.number ≡ b → (ls : List Line) → (last_line (joined w (l ∷ ls))).number ≡ (last_line (l ∷ ls)).number
    go true e [] = rw e (eqb-true w.line l.number e)
    go true e (k ∷ ls) = rw e
    go false e ls = rw e

last_more : (w : Word) (ls : List Line) (x : ℕ) → (ls ≡ [] → ⊥) → (last_line ls).number ≡ x → (last_line (joined w ls)).number ≡ x
last_more w [] x n e = absurd (n refl)
last_more w (l ∷ ls) x n e = last-joined w l ls ∙ e

some-joined : (w : Word) (ls : List Line) → joined w ls ≡ [] → ⊥
some-joined w [] e = let z : ◌≡◌ {A = ℕ} 1 0 = ap length e in omega arith
some-joined w (l ∷ ls) e = go (eqb w.line l.number) refl
  where
    go : (b : Bool) → eqb w.line l.number ≡ b → ⊥
    go true p = let z : suc (length ls) ≡ 0 = ap length (rw p at e) in omega arith
    go false p = let z : suc (suc (length ls)) ≡ 0 = ap length (rw p at e) in omega arith

last_word : (t s l : List ℕ) (i k : ℕ) → (last_line (lines_of (held t s l i (suc k)))).number ≡ get_or l (i + k) 0
last_word t s l i zero = rw add-zero
last_word t s l i (suc k) =
    last_more (word_at t s l i) (lines_of (held t s l (suc i) (suc k))) (get_or l (i + suc k) 0)
    (some-joined (word_at t s l (suc i)) (lines_of (held t s l (suc (suc i)) k)))
    (last_word t s l (suc i) k ∙ ap (λ (x : ℕ). get_or l x 0) shift)
  where
    shift : suc i + k ≡ i + suc k
    shift = omega arith

pub last_line-number : (t s l : List ℕ) (n : ℕ) → 0 < n → (last_line (lines_from t s l n 0)).number ≡ get_or l (n - 1) 0
last_line-number t s l n h =
    let one : n - 0 ≡ suc (n - 1) = omega arith in
    ap (λ (k : ℕ). (last_line (lines_of (held t s l 0 k))).number) one ∙ last_word t s l 0 (n - 1) ∙ ap (λ (x : ℕ). get_or l x 0) (zero-add (n - 1))

-- without an output, and with one
pub no_output : (ls : List Line) → over_fault (listed outputs_key ls) 0 ≡ Fine → some_fault ls ≡ refused TextModel (last_line ls).number
no_output ls e =
    let none : length (listed outputs_key ls) ≤ 0 = leb-true _ _ (unless-fine _ TextModel _ e) in
    rw (lt-leb 1 (length (listed outputs_key ls)) (omega arith))

pub some_output : (ls : List Line) (a : Cause) (x : ℕ) → over_fault (listed outputs_key ls) 0 ≡ refused a x → some_fault ls ≡ Fine
some_output ls a x e = go (leb (length (listed outputs_key ls)) 0) refl
  where
    go : (b : Bool) → leb (length (listed outputs_key ls)) 0 ≡ b → some_fault ls ≡ Fine
    go true p = refused-not-fine a x (sym (rw p at e))
    go false p = rw (le-leb 1 (length (listed outputs_key ls)) (leb-false (length (listed outputs_key ls)) 0 p))

-- the tests in a row
pub in_a_row-refusal : (ls : List Line) (room : ℕ) → lines_refusal ls room ≡ otherwise (count_fault ls) (names_refusal ls room)
unfolding names_fault
in_a_row-refusal ls room =
    flat (count_fault ls) (again_fault (defined ls)) (unknown_fault (defined ls) (listed outputs_key ls)) (sources_fault ls) (loops_fault ls) (room_fault ls room)
