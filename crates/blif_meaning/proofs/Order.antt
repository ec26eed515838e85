-- Names stand in the order of the text: inputs and outputs before gates, by lines that do not go back. Assumes nothing.
use Prim.Native.Nat.{ℕ, zero, suc, ◌+◌, ◌<◌, ◌≤◌}
use mathlib.Core.Path.{◌≡◌, refl, sym, ◌∙◌}
use mathlib.Core.Bool.{Bool, true, false, cond, not}
use Rattle.std.specs.Prelude.{Option, Some, None}
use mathlib.Core.List.{List, [], ◌∷◌, ◌++◌, map, append_assoc}
use native.Mathlib.Nat.{le_refl, le_trans}
use native.Mathlib.Omega.{arith}
use lib.ListN.{length, get_or}
use lib.Dec.{eqb, leb}
use Rattle.refusal.specs.Judgement.{Fine}
use Rattle.area.specs.Layout.{most_pins}
use Rattle.texts.specs.Words.{Word, step_from, step, begins, begun, word_of, words_from, words_of, line_feeds}
use Rattle.texts.specs.declared.Place.{Place}
use Rattle.texts.specs.declared.Place.TheVariants.{Gap, Inside, Comment, Joint}
use Rattle.texts.specs.declared.State.{State}
use Rattle.statements.specs.Lines.{Line, joined, lines_of}
use Rattle.statements.specs.Fit.{keyword_of, all_names, is_row, value_of, after_gate, after_end, after_value, after_line, fit_as, fit, fault}
use Rattle.statements.specs.declared.Keyword.{Keyword}
use Rattle.statements.specs.declared.Keyword.TheVariants.{Model, Inputs, Outputs, Names, End, Other}
use Rattle.statements.specs.declared.Phase.{Phase}
use Rattle.statements.specs.declared.Phase.TheVariants.{Before, Heading, Cover, Ended}
use Rattle.statements.proofs.Ends.{never, fitted}
use Rattle.model.specs.Model.{inputs_key, outputs_key, gates_key, same_key, key_of, after, word_in, listed, gates_of, no_gate}
use Rattle.model.specs.Counts.{line_at}
use Rattle.model.proofs.Keys.{keys-same, other-keys}

-- numbers that do not go back, from b on
pub data Rising : ℕ → List ℕ → Type 0 where
  none : {b : ℕ} → Rising b []
  more : {b x : ℕ} {xs : List ℕ} → b ≤ x → Rising x xs → Rising b (x ∷ xs)

lower : {b c : ℕ} {xs : List ℕ} → b ≤ c → Rising c xs → Rising b xs
lower h none = none
lower h (more l r) = more (le_trans h l) r

at_least : {b : ℕ} {xs : List ℕ} → Rising b xs → (i : ℕ) → i < length xs → b ≤ get_or xs i 0
at_least none i h = absurd (omega arith)
at_least (more l r) zero h = l
at_least (more l r) (suc i) h = omega (arith, at_least r i (omega arith))

pub in_order : {b : ℕ} {xs : List ℕ} → Rising b xs → (i j : ℕ) → i ≤ j → j < length xs → get_or xs i 0 ≤ get_or xs j 0
in_order none i j h k = absurd (omega arith)
in_order (more l r) zero zero h k = omega arith
in_order (more l r) zero (suc j) h k = at_least r j (omega arith)
in_order (more l r) (suc i) zero h k = absurd (omega arith)
in_order (more l r) (suc i) (suc j) h k = in_order r i j (omega arith) (omega arith)

abbrev pub word_lines : List Word → List ℕ
word_lines ws = map (λ (w : Word). w.line) ws

abbrev pub numbers : List Line → List ℕ
numbers ls = map (λ (l : Line). l.number) ls

-- the words of a text
module _ (here line b next : ℕ) (h : line ≤ here) where
  abbrev Goes : State → Type 0
  Goes st = (line ≤ st.line) × (st.line ≤ st.here)

  one_of : (q : Bool) (s t : State) → Goes s → Goes t → Goes (cond q s t)
  one_of true s t e f = e
  one_of false s t e f = f

  step-goes : (p : Place) → Goes (step_from p here line b next)
  step-goes Gap = one_of (eqb b 10) _ _ (omega arith, omega arith) (omega arith, omega arith)
  step-goes Inside = one_of (eqb b 10) _ _ (omega arith, omega arith) (omega arith, omega arith)
  step-goes Comment = one_of (eqb b 10) _ _ (omega arith, omega arith) (omega arith, omega arith)
  step-goes Joint = one_of (eqb b 10) _ _ (omega arith, omega arith) (omega arith, omega arith)

begun-rising : (q : Bool) (line : ℕ) (bytes : List ℕ) (ws : List Word) → Rising line (word_lines ws) → Rising line (word_lines (begun q line bytes ++ ws))
begun-rising true line bytes ws r = more (le_refl line) r
begun-rising false line bytes ws r = r

words-rising : (s : List ℕ) (st : State) → st.line ≤ st.here → Rising st.line (word_lines (words_from st s))
words-rising [] st h = none
words-rising (b ∷ s) st h =
    let next = step st b (get_or s 0 0) in
    let goes = step-goes st.here st.line b (get_or s 0 0) h st.place in
    begun-rising (begins st.place next.place) st.line (word_of (b ∷ s)) (words_from next s) (lower goes.0 (words-rising s next goes.1))

-- its lines
joined-rising : (w : Word) (ls : List Line) {b : ℕ} → b ≤ w.line → Rising w.line (numbers ls) → Rising b (numbers (joined w ls))
joined-rising w [] h r = more h none
joined-rising w (k ∷ ls) {b} h (more l r) = go (eqb w.line k.number) refl
  where
    go : (q : Bool) → eqb w.line k.number ≡ q → Rising b (numbers (joined w (k ∷ ls)))
    go true e = rw e (more h (lower l r))
    go false e = rw e (more h (more l r))

lines-rising : (ws : List Word) {b : ℕ} → Rising b (word_lines ws) → Rising b (numbers (lines_of ws))
lines-rising [] r = none
lines-rising (w ∷ ws) (more l r) = joined-rising w (lines_of ws) l (lines-rising ws r)

pub text-rising : (text : List ℕ) → Rising 1 (numbers (lines_of (words_of text)))
text-rising text = lines-rising (words_of text) (words-rising text (record { place = Gap; here = 1; line = 1 }) (le_refl 1))

-- after a gate no list may follow; what does not fit counts as past too
abbrev past_phase : Phase → Bool
past_phase Before = false
past_phase Heading = false
past_phase (Cover width ending) = true
past_phase Ended = true

abbrev past : Option Phase → Bool
past None = true
past (Some p) = past_phase p

either : (q : Bool) (p r : Option Phase) → past p ≡ true → past r ≡ true → past (cond q p r) ≡ true
either true p r e f = e
either false p r e f = f

gate-past : (ws : List (List ℕ)) → past (after_gate ws) ≡ true
unfolding after_gate
gate-past ws = either (leb 1 (length ws)) _ _ (either (leb (length ws) (most_pins + 1)) _ _ (either (all_names ws) _ _ refl refl) refl) refl

end-past : (further : ℕ) → past (after_end further) ≡ true
unfolding after_end
end-past further = either (eqb further 0) _ _ refl refl

value-past : (width : ℕ) (ending value : Option Bool) → past (after_value width ending value) ≡ true
value-past width ending None = refl
value-past width None (Some x) = refl
value-past width (Some y) (Some x) = either (cond y x (not x)) _ _ refl refl

line-past : (width : ℕ) (ending : Option Bool) (ws : List (List ℕ)) → past (after_line width ending ws) ≡ true
unfolding after_line
line-past width ending ws =
    either (eqb width 0) _ _
    (either (eqb (length ws) 1) _ _ (value-past width ending (value_of (get_or ws 0 []))) refl)
    (either (eqb (length ws) 2) _ _ (either (is_row width (get_or ws 0 [])) _ _ (value-past width ending (value_of (get_or ws 1 []))) refl) refl)

stays-past : (p : Phase) (k : Keyword) (w : List ℕ) (ws : List (List ℕ)) → past_phase p ≡ true → past (fit_as p k w ws) ≡ true
stays-past Before k w ws e = never true refl (sym e)
stays-past Heading k w ws e = never true refl (sym e)
stays-past (Cover width ending) Model w ws e = refl
stays-past (Cover width ending) Inputs w ws e = refl
stays-past (Cover width ending) Outputs w ws e = refl
stays-past (Cover width ending) Names w ws e = gate-past ws
stays-past (Cover width ending) End w ws e = end-past (length ws)
stays-past (Cover width ending) Other w ws e = line-past width ending (w ∷ ws)
stays-past Ended k w ws e = refl

names-past : (p : Phase) (w : List ℕ) (ws : List (List ℕ)) → past (fit_as p Names w ws) ≡ true
names-past Before w ws = refl
names-past Heading w ws = gate-past ws
names-past (Cover width ending) w ws = gate-past ws
names-past Ended w ws = refl

names-line : (p : Phase) (ws : List (List ℕ)) → key_of ws ≡ gates_key → past (fit p ws) ≡ true
names-line p [] e = refl
names-line p (w ∷ ws) e = rw e (names-past p w ws)

-- a list that follows does not fit
inputs-misfit : (w : List ℕ) (ws : List (List ℕ)) (p : Phase) → past_phase p ≡ true → fit_as p Inputs w ws ≡ None
inputs-misfit w ws Before e = never true refl (sym e)
inputs-misfit w ws Heading e = never true refl (sym e)
inputs-misfit w ws (Cover width ending) e = refl
inputs-misfit w ws Ended e = refl

outputs-misfit : (w : List ℕ) (ws : List (List ℕ)) (p : Phase) → past_phase p ≡ true → fit_as p Outputs w ws ≡ None
outputs-misfit w ws Before e = never true refl (sym e)
outputs-misfit w ws Heading e = never true refl (sym e)
outputs-misfit w ws (Cover width ending) e = refl
outputs-misfit w ws Ended e = refl

-- the names of a line
names-rising : (x : ℕ) (ns : List (List ℕ)) (ws : List Word) {b : ℕ} → b ≤ x → Rising x (word_lines ws) → Rising b (word_lines (map (word_in x) ns ++ ws))
names-rising x [] ws h r = lower h r
names-rising x (n ∷ ns) ws h r = more h (names-rising x ns ws (le_refl x) r)

pub same_line : (x : ℕ) (ns : List (List ℕ)) → Rising x (word_lines (map (word_in x) ns))
same_line x [] = none
same_line x (n ∷ ns) = more (le_refl x) (same_line x ns)

-- lists of a keyword that may stand before gates only
module _ (key : Keyword) (heading : (w : List ℕ) (ws : List (List ℕ)) (p : Phase) → past_phase p ≡ true → fit_as p key w ws ≡ None)
    (no-gate : key ≡ gates_key → ⊥) where
  -- a line that fits after a gate is no such list, and what follows it still comes after a gate
  past-line : (p : Phase) (ws : List (List ℕ)) (q : Phase) → past_phase p ≡ true → fit p ws ≡ Some q → (key_of ws ≡ key → ⊥) × (past_phase q ≡ true)
  past-line p [] q e f = absurd (let y : ◌≡◌ {A = ℕ} 0 1 = cc in omega arith)
  past-line p (w ∷ ws) q e f = (λ k. no-list (rw k at f), rw f at (stays-past p (keyword_of w) w ws e))
    where
      no-list : fit_as p key w ws ≡ Some q → ⊥
      no-list g = let z : None ≡ Some q = rw (heading w ws p e) at g in let y : ◌≡◌ {A = ℕ} 0 1 = cc in omega arith

  none-past : (p : Phase) (ls : List Line) (last : ℕ) → past_phase p ≡ true → fault p ls last ≡ Fine → listed key ls ≡ []
  none-past p [] last e f = refl
  none-past p (l ∷ ls) last e f =
      let g = fitted p l ls last f in
      let on = past-line p l.words g.next e g.fits in
      rw (other-keys (key_of l.words) key on.0) (none-past g.next ls last on.1 g.later)

  pub order : (p : Phase) (ls : List Line) (last : ℕ) {b : ℕ} → Rising b (numbers ls) → fault p ls last ≡ Fine
      → Rising b (word_lines (listed key ls ++ listed gates_key ls))
  order p [] last r f = none
  order p (l ∷ ls) last {b} (more h r) f =
      let fit-line = fitted p l ls last f in
      go fit-line.next fit-line.fits fit-line.later (same_key (key_of l.words) key) refl (same_key (key_of l.words) gates_key) refl (order fit-line.next ls last r fit-line.later)
    where
      go : (q : Phase) → fit p l.words ≡ Some q → fault q ls last ≡ Fine
          → (d : Bool) → same_key (key_of l.words) key ≡ d → (g : Bool) → same_key (key_of l.words) gates_key ≡ g
          → Rising l.number (word_lines (listed key ls ++ listed gates_key ls)) → Rising b (word_lines (listed key (l ∷ ls) ++ listed gates_key (l ∷ ls)))
      go q fits later true e true g ih = absurd (no-gate (sym (keys-same (key_of l.words) key e) ∙ keys-same (key_of l.words) gates_key g))
      go q fits later true e false g ih =
          rw (e, g, other-keys key gates_key no-gate, append_assoc (map (word_in l.number) (after l.words)) (listed key ls) (listed gates_key ls))
          (names-rising l.number (after l.words) (listed key ls ++ listed gates_key ls) h ih)
      go q fits later false e true g ih =
          let gone : past_phase q ≡ true = rw fits at (names-line p l.words (keys-same (key_of l.words) gates_key g)) in
          let nothing = none-past q ls last gone later in
          rw (e, g, nothing) (more h (rw nothing at ih))
      go q fits later false e false g ih = rw (e, g) (lower h ih)

pub front-rising : (ws us : List Word) {b : ℕ} → Rising b (word_lines (ws ++ us)) → Rising b (word_lines ws)
front-rising [] us r = none
front-rising (w ∷ ws) us (more h r) = more h (front-rising ws us r)

-- a gate's own name stands in its line
pub gate-line : (ls : List Line) (j : ℕ) → j < length (gates_of ls) → line_at (listed gates_key ls) j ≡ (get_or (gates_of ls) j no_gate).head.number
gate-line [] j h = absurd (omega arith)
gate-line (l ∷ ls) j h = go (same_key (key_of l.words) gates_key) refl j h (gate-line ls)
  where
    go : (g : Bool) → same_key (key_of l.words) gates_key ≡ g → (j : ℕ) → j < length (gates_of (l ∷ ls))
        → ((j : ℕ) → j < length (gates_of ls) → line_at (listed gates_key ls) j ≡ (get_or (gates_of ls) j no_gate).head.number)
        → line_at (listed gates_key (l ∷ ls)) j ≡ (get_or (gates_of (l ∷ ls)) j no_gate).head.number
    go true g zero h ih = rw g
    go true g (suc j) h ih = rw g (ih j (less (rw g at h)))
      where
        less : suc j < suc (length (gates_of ls)) → j < length (gates_of ls)
        less x = omega arith
    go false g j h ih = rw g (ih j (rw g at h))

module _ (text : List ℕ) (f : fault Before (lines_of (words_of text)) (1 + line_feeds text) ≡ Fine) where
  abbrev ls : List Line
  ls = lines_of (words_of text)

  pub inputs-first : Rising 1 (word_lines (listed inputs_key (lines_of (words_of text)) ++ listed gates_key (lines_of (words_of text))))
  inputs-first = order inputs_key inputs-misfit (λ e. cc) Before (lines_of (words_of text)) (1 + line_feeds text) (text-rising text) f

  pub outputs-first : Rising 1 (word_lines (listed outputs_key (lines_of (words_of text)) ++ listed gates_key (lines_of (words_of text))))
  outputs-first = order outputs_key outputs-misfit (λ e. cc) Before (lines_of (words_of text)) (1 + line_feeds text) (text-rising text) f
