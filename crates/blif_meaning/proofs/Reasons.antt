-- Each test of refusal 19 refuses at the lowest line that does what document 02 says. Assumes nothing.
use Prim.Native.Nat.{ℕ, zero, suc, ◌+◌, ◌-◌, ◌<◌, ◌≤◌}
use mathlib.Core.Path.{◌≡◌, refl, ap, sym, subst, ◌∙◌}
use mathlib.Core.Bool.{Bool, true, false, not}
use mathlib.Core.List.{List, [], ◌∷◌, ◌++◌, map}
use mathlib.Core.Logic.{◌⊎◌, inl, inr, ⊎_elim}
use native.Mathlib.Nat.{eq-or-lt_of_le}
use native.Mathlib.Omega.{arith}
use lib.ListN.{length, get_or, take, length-map, length-append, get_or-append}
use lib.Seq.{get_or-append-add}
use lib.Dec.{eqb, ltb, leb}
use borrow.Author.Tests.{eqb-false, ne_eqb, ltb-true, ltb-false, leb-true, leb-false, lt-leb}
use Rattle.refusal.specs.Judgement.{Judgement}
use Rattle.refusal.specs.Judgement.{Fine}
use Rattle.refusal.specs.Judgement.{refuse_unless, otherwise, lowest}
use Rattle.area.specs.Layout.{most_inputs, most_gates, most_outputs}
use Rattle.texts.specs.Words.{Word}
use Rattle.names.specs.Names.{same}
use Rattle.names.proofs.Names.{same_refl}
use Rattle.statements.specs.Lines.{Line, last_line}
use Rattle.statements.proofs.Ends.{never}
use Rattle.model.specs.Model.{inputs_key, outputs_key, gates_key, listed, gates_of, defined, number, after, word_in, no_word, no_gate}
use Rattle.model.specs.Counts.{earlier, line_at, over_fault, some_fault, count_fault}
use Rattle.blif_meaning.specs.Reasons.{PassesCount, of_inputs, of_outputs, of_gates, no_output, DefinesAgain, again, UsesUndefined, as_output, as_source, HeadsLoop, on_itself}
use Rattle.blif_meaning.specs.Reasons.{name_of, Undefined, Says, RefusedAsSaid}
use Rattle.model.proofs.Heading.{gates-listed}
use Rattle.placing.specs.Placing.{via, loop_fault}
use Rattle.placing.proofs.Via.{via-depends, depends-via}
use Rattle.resolve.specs.Names.{again_fault, unknown_fault, names_fault, sources_in, source_numbers}
use Rattle.blif.specs.Reading.{text_lines, input_count, gate_count, loops_fault}
use Rattle.blif.specs.Stages.{sources_fault}
use Rattle.blif_meaning.proofs.Statements.{number-name, map_at, all-defined, gates_known}
use Rattle.blif_meaning.proofs.Order.{Rising, in_order, word_lines, same_line, front-rising, gate-line, inputs-first, outputs-first}
use Rattle.refusal.specs.declared.Cause.TheVariants.{TextModel}
use Rattle.std.specs.Prelude.{Err}

-- ---- what tests say, put together

-- the same lines under another description
says_same : (v : Judgement) (P Q : ℕ → Type 0) → ((y : ℕ) → P y → Q y) → ((y : ℕ) → Q y → P y) → Says v P → Says v Q
says_same Fine P Q there back s = λ y q. s y (back y q)
says_same (Err why) P Q there back s = (s.0, record { there = there why.place s.1.there; least = λ y q. s.1.least y (back y q) })

-- one test of one line
says-unless : (t : Bool) (line : ℕ) → Says (refuse_unless t TextModel line) (λ y. (t ≡ false) × (line ≡ y))
says-unless true line = λ y h. let z : ◌≡◌ {A = ℕ} 0 1 = cc h.0 in omega arith
says-unless false line = (refl, record { there = (refl, refl); least = λ y h. omega (arith, h.1) })

-- one test after another whose lines are not lower
says-otherwise : (v w : Judgement) (P Q : ℕ → Type 0) → Says v P → Says w Q → ((x y : ℕ) → P x → Q y → x ≤ y) → Says (otherwise v w) (λ y. P y ⊎ Q y)
says-otherwise Fine Fine P Q s t h = λ y c. ⊎_elim (s y) (t y) c
says-otherwise Fine (Err why) P Q s t h = (t.0, record { there = inr t.1.there; least = λ z c. ⊎_elim (λ p. absurd (s z p)) (t.1.least z) c })
says-otherwise (Err why) w P Q s t h = (s.0, record { there = inl s.1.there; least = λ z c. ⊎_elim (s.1.least z) (λ q. h why.place z s.1.there q) c })

-- the lower of two lines
says-earlier : (v w : Judgement) (P Q : ℕ → Type 0) → Says v P → Says w Q → Says (earlier v w) (λ y. P y ⊎ Q y)
says-earlier Fine Fine P Q s t = λ y c. ⊎_elim (s y) (t y) c
says-earlier Fine (Err why) P Q s t = (t.0, record { there = inr t.1.there; least = λ z c. ⊎_elim (λ p. absurd (s z p)) (t.1.least z) c })
says-earlier (Err why) Fine P Q s t = (s.0, record { there = inl s.1.there; least = λ z c. ⊎_elim (s.1.least z) (λ q. absurd (t z q)) c })
says-earlier (Err why) (Err why2) P Q s t = go (leb why.place why2.place) refl
  where
    go : (l : Bool) → leb why.place why2.place ≡ l → Says (earlier (Err why) (Err why2)) (λ z. P z ⊎ Q z)
    go true e =
        rw e
        (s.0, record { there = inl s.1.there; least = λ z c. ⊎_elim (s.1.least z) (λ q. omega (arith, leb-true why.place why2.place e, t.1.least z q)) c })
    go false e =
        rw e
        (t.0, record { there = inr t.1.there; least = λ z c. ⊎_elim (λ p. omega (arith, leb-false why.place why2.place e, s.1.least z p)) (t.1.least z) c })

-- tests in turn whose lines do not go back
module _ (v : ℕ → Judgement) (P : ℕ → ℕ → Type 0) where
  abbrev Some : ℕ → ℕ → Type 0
  Some k y = (j : ℕ) × (j < k) × P j y

  says-lowest : (k : ℕ) → ((j : ℕ) → j < k → Says (v j) (P j)) → ((i j x y : ℕ) → i < j → j < k → P i x → P j y → x ≤ y) → Says (lowest v k) (Some k)
  says-lowest zero each rising = λ y h. omega (arith, h.1)
  says-lowest (suc k) each rising =
      says_same (otherwise (lowest v k) (v k)) (λ y. Some k y ⊎ P k y) (Some (suc k)) join split
      (says-otherwise (lowest v k) (v k) (Some k) (P k) (says-lowest k (λ j h. each j (omega arith)) (λ i j x y h l. rising i j x y h (omega arith))) (each k (omega arith))
      (λ x y p q. rising p.0 k x y p.1 (omega arith) p.2 q))
    where
      join : (y : ℕ) → Some k y ⊎ P k y → Some (suc k) y
      join y c = ⊎_elim (λ (s : Some k y). (s.0, omega (arith, s.1), s.2)) (λ (p : P k y). (k, omega arith, p)) c

      split : (y : ℕ) → Some (suc k) y → Some k y ⊎ P k y
      split y s =
          ⊎_elim (λ (e : s.0 ≡ k). inr (subst (λ (j : ℕ). P j y) e s.2)) (λ (l : s.0 < k). inl (s.0, l, s.2))
          (eq-or-lt_of_le {n = s.0} {m = k} (omega (arith, s.1)))

-- ---- names and their first definitions

number-first : (ds : List Word) (w : List ℕ) (i : ℕ) → i < length ds → name_of ds i ≡ w → number ds w ≤ i
number-first [] w i h e = absurd (omega arith)
number-first (d ∷ ds) w i h e = go (same d.bytes w) refl i h e (number-first ds w)
  where
    go : (b : Bool) → same d.bytes w ≡ b → (i : ℕ) → i < length (d ∷ ds) → name_of (d ∷ ds) i ≡ w
        → ((i : ℕ) → i < length ds → name_of ds i ≡ w → number ds w ≤ i) → number (d ∷ ds) w ≤ i
    go true s i h e ih = rw s (omega arith)
    go false s zero h e ih = never true refl (sym (same_refl w) ∙ ap (λ (x : List ℕ). same x w) (sym e) ∙ s)
    go false s (suc i) h e ih = rw s (omega (arith, ih i (omega arith) e))

module _ (ls : List Line) where
  -- a name without a definition
  undefined-not : (w : List ℕ) → ltb (number (defined ls) w) (length (defined ls)) ≡ false → Undefined ls w
  undefined-not w e i h s = omega (arith, ltb-false (number (defined ls) w) (length (defined ls)) e, number-first (defined ls) w i h s)

  not-defined : (w : List ℕ) → Undefined ls w → ltb (number (defined ls) w) (length (defined ls)) ≡ false
  not-defined w u = go (ltb (number (defined ls) w) (length (defined ls))) refl
    where
      go : (b : Bool) → ltb (number (defined ls) w) (length (defined ls)) ≡ b → ltb (number (defined ls) w) (length (defined ls)) ≡ false
      go true e =
          let low : number (defined ls) w < length (defined ls) = ltb-true _ _ e in
          absurd (u (number (defined ls) w) low (number-name (defined ls) w low))
      go false e = e

-- ---- the four tests

-- counts
says-over : (ws : List Word) (most : ℕ) → Says (over_fault ws most) (λ y. (most < length ws) × (line_at ws most ≡ y))
says-over ws most =
    says_same (over_fault ws most) (λ y. (leb (length ws) most ≡ false) × (line_at ws most ≡ y)) (λ y. (most < length ws) × (line_at ws most ≡ y))
    (λ y h. (leb-false (length ws) most h.0, h.1))
    (λ y h. (lt-leb (length ws) most h.0, h.1))
    (says-unless (leb (length ws) most) (line_at ws most))

says_some : (ls : List Line) → Says (some_fault ls) (λ y. (length (listed outputs_key ls) ≡ 0) × ((last_line ls).number ≡ y))
says_some ls =
    let ws = listed outputs_key ls in
    says_same (some_fault ls) (λ y. (leb 1 (length ws) ≡ false) × ((last_line ls).number ≡ y)) (λ y. (length ws ≡ 0) × ((last_line ls).number ≡ y))
    (λ y h. (let few : length (listed outputs_key ls) < 1 = leb-false 1 (length (listed outputs_key ls)) h.0 in omega arith, h.1))
    (λ y h. (lt-leb 1 (length (listed outputs_key ls)) (omega (arith, h.0)), h.1))
    (says-unless (leb 1 (length ws)) (last_line ls).number)

pub says-counts : (ls : List Line) → Says (count_fault ls) (PassesCount ls)
unfolding count_fault
says-counts ls =
    let inputs = over_fault (listed inputs_key ls) most_inputs in
    let outputs = over_fault (listed outputs_key ls) most_outputs in
    let gates = over_fault (listed gates_key ls) most_gates in
    says_same (count_fault ls) All (PassesCount ls) there back
    (says-earlier inputs (earlier outputs (earlier gates (some_fault ls))) In (λ y. Out y ⊎ (Gates y ⊎ Nothing y)) (says-over (listed inputs_key ls) most_inputs)
    (says-earlier outputs (earlier gates (some_fault ls)) Out (λ y. Gates y ⊎ Nothing y) (says-over (listed outputs_key ls) most_outputs)
    (says-earlier gates (some_fault ls) Gates Nothing (says-over (listed gates_key ls) most_gates) (says_some ls))))
  where
    In : ℕ → Type 0
    In y = (most_inputs < length (listed inputs_key ls)) × (line_at (listed inputs_key ls) most_inputs ≡ y)

    Out : ℕ → Type 0
    Out y = (most_outputs < length (listed outputs_key ls)) × (line_at (listed outputs_key ls) most_outputs ≡ y)

    Gates : ℕ → Type 0
    Gates y = (most_gates < length (listed gates_key ls)) × (line_at (listed gates_key ls) most_gates ≡ y)

    Nothing : ℕ → Type 0
    Nothing y = (length (listed outputs_key ls) ≡ 0) × ((last_line ls).number ≡ y)

    All : ℕ → Type 0
    All y = In y ⊎ (Out y ⊎ (Gates y ⊎ Nothing y))

    there : (y : ℕ) → All y → PassesCount ls y
    there y c =
        ⊎_elim (λ (h : In y). subst (PassesCount ls) h.1 (of_inputs h.0))
        (λ c. ⊎_elim (λ (h : Out y). subst (PassesCount ls) h.1 (of_outputs h.0))
        (λ c. ⊎_elim (λ (h : Gates y). subst (PassesCount ls) h.1 (of_gates h.0))
        (λ (h : Nothing y). subst (PassesCount ls) h.1 (no_output h.0)) c) c) c

    back : (y : ℕ) → PassesCount ls y → All y
    back y (of_inputs h) = inl (h, refl)
    back y (of_outputs h) = inr (inl (h, refl))
    back y (of_gates h) = inr (inr (inl (h, refl)))
    back y (no_output h) = inr (inr (inr (h, refl)))

-- tests of a list's entries in turn, whose lines do not go back: one of them fails, in line y
abbrev Fails : List Word → (ℕ → Bool) → ℕ → Type 0
Fails ws t y = (i : ℕ) × (i < length ws) × ((t i ≡ false) × (line_at ws i ≡ y))

module _ (ws : List Word) {b : ℕ} (rising : Rising b (word_lines ws)) where
  line-at : (i : ℕ) → i < length ws → get_or (word_lines ws) i 0 ≡ line_at ws i
  line-at i h = map_at (λ (w : Word). w.line) no_word 0 ws i h

  lines-in-order : (i j : ℕ) → i ≤ j → j < length ws → line_at ws i ≤ line_at ws j
  lines-in-order i j l h =
      rw (← line-at i (omega arith), ← line-at j h) (in_order rising i j l (rw (length-map ws (λ (w : Word). w.line)) h))

  says-entries : (t : ℕ → Bool) → Says (lowest (λ (i : ℕ). refuse_unless (t i) TextModel (line_at ws i)) (length ws)) (Fails ws t)
  says-entries t =
      says-lowest (λ (i : ℕ). refuse_unless (t i) TextModel (line_at ws i)) (λ (i y : ℕ). (t i ≡ false) × (line_at ws i ≡ y)) (length ws)
      (λ i h. says-unless (t i) (line_at ws i))
      (λ i j x y h l p q. omega (arith, lines-in-order i j (omega arith) l, p.1, q.1))

-- names defined twice
first : List Word → ℕ → Bool
first ds i = eqb (number ds (name_of ds i)) i

pub says-again : (ls : List Line) {b : ℕ} → Rising b (word_lines (defined ls)) → Says (again_fault (defined ls)) (DefinesAgain ls)
unfolding again_fault first
says-again ls rising =
    says_same (again_fault (defined ls)) (Fails (defined ls) (first (defined ls))) (DefinesAgain ls) there back
    (says-entries (defined ls) rising (first (defined ls)))
  where
    there : (y : ℕ) → Fails (defined ls) (first (defined ls)) y → DefinesAgain ls y
    there y (k, h, e) =
        let name = name_of (defined ls) k in
        let own : number (defined ls) (name_of (defined ls) k) ≤ k = number-first (defined ls) (name_of (defined ls) k) k h refl in
        let low : number (defined ls) (name_of (defined ls) k) < k =
        ⊎_elim (λ (s : number (defined ls) (name_of (defined ls) k) ≡ k). absurd (eqb-false (number (defined ls) (name_of (defined ls) k)) k e.0 s)) (λ l. l) (eq-or-lt_of_le own) in
        subst (DefinesAgain ls) e.1 (again (number (defined ls) name) k low h (number-name (defined ls) name (omega arith)))

    back : (y : ℕ) → DefinesAgain ls y → Fails (defined ls) (first (defined ls)) y
    back y (again i k l h e) =
        let least = number-first (defined ls) (name_of (defined ls) k) i (omega arith) e in
        (k, h, (ne_eqb (number (defined ls) (name_of (defined ls) k)) k (λ s. omega arith), refl))

-- gates after the entries of a list that stands before them
line_of : (x : ℕ) (ns : List (List ℕ)) (i : ℕ) → i < length (map (word_in x) ns) → line_at (map (word_in x) ns) i ≡ x
line_of x [] i h = absurd (omega arith)
line_of x (n ∷ ns) zero h = refl
line_of x (n ∷ ns) (suc i) h = line_of x ns i (omega arith)

abbrev head_line : List Line → ℕ → ℕ
head_line ls j = (get_or (gates_of ls) j no_gate).head.number

module _ (ls : List Line) (ws : List Word) {b : ℕ} (rising : Rising b (word_lines (ws ++ listed gates_key ls))) where
  long : length (ws ++ listed gates_key ls) ≡ length ws + gate_count ls
  long = length-append ws (listed gates_key ls) ∙ ap (λ (k : ℕ). length ws + k) (gates-listed ls)

  head_at : (j : ℕ) → j < gate_count ls → line_at (ws ++ listed gates_key ls) (length ws + j) ≡ head_line ls j
  head_at j h = ap (λ (w : Word). w.line) (get_or-append-add ws (listed gates_key ls) j no_word) ∙ gate-line ls j h

  heads-in-order : (i j : ℕ) → i ≤ j → j < gate_count ls → head_line ls i ≤ head_line ls j
  heads-in-order i j l h =
      rw (← head_at i (omega arith), ← head_at j h)
      (lines-in-order (ws ++ listed gates_key ls) rising (length ws + i) (length ws + j) (omega arith) (omega (arith, long)))

  before-gates : (k j : ℕ) → k < length ws → j < gate_count ls → line_at ws k ≤ head_line ls j
  before-gates k j l h =
      rw (← head_at j h, ← ap (λ (w : Word). w.line) (get_or-append ws (listed gates_key ls) no_word k l))
      (lines-in-order (ws ++ listed gates_key ls) rising k (length ws + j) (omega arith) (omega (arith, long)))

-- names undefined
has : List Line → List Word → ℕ → Bool
has ls us i = ltb (number (defined ls) (name_of us i)) (length (defined ls))

says-unknown : (ls : List Line) (us : List Word) {b : ℕ} → Rising b (word_lines us) → Says (unknown_fault (defined ls) us) (Fails us (has ls us))
unfolding unknown_fault has
says-unknown ls us rising = says-entries us rising (has ls us)

pub says-undefined : (ls : List Line) {b : ℕ} → Rising b (word_lines (listed outputs_key ls ++ listed gates_key ls)) → {c : ℕ} → Rising c (word_lines (listed outputs_key ls))
    → Says (otherwise (unknown_fault (defined ls) (listed outputs_key ls)) (sources_fault ls)) (UsesUndefined ls)
unfolding has
says-undefined ls rising outputs =
    says_same (otherwise (unknown_fault (defined ls) (listed outputs_key ls)) (sources_fault ls)) (λ y. Outs y ⊎ Sources y) (UsesUndefined ls) there back
    (says-otherwise (unknown_fault (defined ls) (listed outputs_key ls)) (sources_fault ls) Outs Sources
    (says-unknown ls (listed outputs_key ls) outputs)
    (says-lowest (λ (j : ℕ). unknown_fault (defined ls) (sources_in ls j)) Source (gate_count ls)
    (λ j h. says-unknown ls (sources_in ls j) (same_line (head_line ls j) (names j)))
    (λ i j x y h l p q. rw (← in-line i x p, ← in-line j y q) (heads-in-order ls (listed outputs_key ls) rising i j (omega arith) l)))
    (λ x y p q. rw (← p.2.1, ← in-line q.0 y q.2) (before-gates ls (listed outputs_key ls) rising p.0 q.0 p.1 q.1)))
  where
    names : ℕ → List (List ℕ)
    names j = take (length (get_or (gates_of ls) j no_gate).head.words - 2) (after (get_or (gates_of ls) j no_gate).head.words)

    Outs : ℕ → Type 0
    Outs y = Fails (listed outputs_key ls) (has ls (listed outputs_key ls)) y

    Source : ℕ → ℕ → Type 0
    Source j y = Fails (sources_in ls j) (has ls (sources_in ls j)) y

    Sources : ℕ → Type 0
    Sources y = (j : ℕ) × (j < gate_count ls) × Source j y

    in-line : (j y : ℕ) → Source j y → head_line ls j ≡ y
    in-line j y p = sym (line_of (head_line ls j) (names j) p.0 p.1) ∙ p.2.1

    there : (y : ℕ) → Outs y ⊎ Sources y → UsesUndefined ls y
    there y c =
        ⊎_elim
        (λ (p : Outs y). subst (UsesUndefined ls) p.2.1 (as_output p.0 p.1 (undefined-not ls (name_of (listed outputs_key ls) p.0) p.2.0)))
        (λ (q : Sources y). let p = q.2 in subst (UsesUndefined ls) p.2.1 (as_source q.0 p.0 q.1 p.1 (undefined-not ls (name_of (sources_in ls q.0) p.0) p.2.0)))
        c

    back : (y : ℕ) → UsesUndefined ls y → Outs y ⊎ Sources y
    back y (as_output k h u) = inl (k, h, (not-defined ls (name_of (listed outputs_key ls) k) u, refl))
    back y (as_source j i h l u) = inr (j, h, (i, l, (not-defined ls (name_of (sources_in ls j) i) u, refl)))

-- loops
pub says-loops : (ls : List Line) {b : ℕ} → Rising b (word_lines (defined ls)) → names_fault ls ≡ Fine → Says (loops_fault ls) (HeadsLoop ls)
unfolding loop_fault
says-loops ls rising named =
    says_same (loops_fault ls) (λ y. (j : ℕ) × (j < gate_count ls) × Looped j y) (HeadsLoop ls) there back
    (says-lowest (λ (j : ℕ). refuse_unless (not (via (source_numbers ls) (input_count ls) (gate_count ls) j j)) TextModel (line_at (defined ls) (input_count ls + j))) Looped (gate_count ls)
    (λ j h. says-unless (not (via (source_numbers ls) (input_count ls) (gate_count ls) j j)) (line_at (defined ls) (input_count ls + j)))
    (λ i j x y h l p q. rw (← p.1, ← q.1)
    (lines-in-order (defined ls) rising (input_count ls + i) (input_count ls + j) (omega arith) (omega (arith, all-defined ls)))))
  where
    Looped : ℕ → ℕ → Type 0
    Looped j y = (not (via (source_numbers ls) (input_count ls) (gate_count ls) j j) ≡ false) × (line_at (defined ls) (input_count ls + j) ≡ y)

    yes_of : (b : Bool) → not b ≡ false → b ≡ true
    yes_of true e = refl
    yes_of false e = sym e

    there : (y : ℕ) → (j : ℕ) × (j < gate_count ls) × Looped j y → HeadsLoop ls y
    there y (j, h, p) =
        subst (HeadsLoop ls) (sym (head_at ls (listed inputs_key ls) rising j h) ∙ p.1)
        (on_itself j h (via-depends (source_numbers ls) (input_count ls) (gate_count ls) j j (yes_of (via (source_numbers ls) (input_count ls) (gate_count ls) j j) p.0)))

    back : (y : ℕ) → HeadsLoop ls y → (j : ℕ) × (j < gate_count ls) × Looped j y
    back y (on_itself j h d) =
        (j, h, (ap not (depends-via (source_numbers ls) (input_count ls) (gate_count ls) (gates_known ls named) j j h d), head_at ls (listed inputs_key ls) rising j h))

pub refused-as-said : RefusedAsSaid
refused-as-said text f =
    record {
      counts = says-counts (text_lines text);
      again = says-again (text_lines text) (inputs-first text f);
      undefined = says-undefined (text_lines text) (outputs-first text f) (front-rising (listed outputs_key (text_lines text)) (listed gates_key (text_lines text)) (outputs-first text f));
      loops = says-loops (text_lines text) (inputs-first text f);
    }
