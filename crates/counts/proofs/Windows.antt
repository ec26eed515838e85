-- A flip followed gate by gate: a gate that reads no changed source does not change, so gates may be passed over; a gate that does change is stored, and
-- its readers come into the window. Assumes nothing.
use Prim.Native.Nat.{ℕ, zero, suc, ◌+◌, ◌-◌, ◌≤◌, ◌<◌, max}
use mathlib.Core.Bool.{Bool, true, false, cond}
use mathlib.Core.List.{List}
use mathlib.Core.Logic.{◌≢◌, ⊎_elim}
use mathlib.Core.Path.{◌≡◌, refl, sym, ap, subst, ◌∙◌}
use native.Mathlib.Nat.{eq-or-lt_of_le, eq-zero-or-pos, le-max_left, le-max_right, max-le}
use native.Mathlib.Omega.{arith}
use borrow.Author.Tests.{eqb-true, eqb-false, ltb-true, ltb-false}
use lib.Dec.{eqb, ltb}
use lib.Bits.{bit_xor, xor_zero_r}
use lib.ListN.{length, get_or, set, length-set}
use lib.Seq.{get_or-set_same, get_or-set_other}
use Rattle.lists.proofs.Every.{map_same}
use Rattle.figure.specs.Figure.{answer}
use Rattle.netlist.specs.Seen.{differ}
use Rattle.netlist.proofs.Wrong.{differ_self}
use Rattle.area.specs.Layout.{inputs, gates, table, pin_count, pin, used_pins}
use Rattle.area.specs.Rules.{NetSound}
use Rattle.area.proofs.Words.{used-below, used-count, used-pin, few-sources}
use Rattle.signals.specs.Signals.{lane_count, lane, InEachLane}
use Rattle.signals.proofs.Lanes.{lane-zero}
use Rattle.counts.specs.declared.Span.{Span}
use Rattle.counts.specs.Counts.{span_at, Reads, right_answer, changed_answer, Unchanged, Settled, Flipped, Following}

-- values that are equal do not differ
pub same-differ : (x y : Bool) → x ≡ y → differ x y ≡ false
same-differ x y e = ap (λ (z : Bool). differ z y) e ∙ differ_self y

-- equal or not
pub is-or-not : {A : Type 0} (s t : ℕ) → (s ≡ t → A) → (s ≢ t → A) → A
is-or-not {A} s t here other = go (eqb s t) refl
  where
    go : (b : Bool) → eqb s t ≡ b → A
    go true e = here (eqb-true s t e)
    go false e = other (eqb-false s t e)

-- below or not
pub by_order : {A : Type 0} (x y : ℕ) → (x < y → A) → (y ≤ x → A) → A
by_order {A} x y below other = go (ltb x y) refl
  where
    go : (b : Bool) → ltb x y ≡ b → A
    go true e = below (ltb-true x y e)
    go false e = other (ltb-false x y e)

below-max : (x y m : ℕ) → x ≤ m → m < max x y → m < y
below-max x y m h less = go (ltb m y) refl
  where
    go : (b : Bool) → ltb m y ≡ b → m < y
    go true e = ltb-true m y e
    go false e = absurd (omega (arith, max-le {a = x} {b = y} {k = m} h (ltb-false m y e)))

-- the gate looked at next is a later one
pub next-later : (gate stop reader : ℕ) → gate < cond (eqb (gate + 1) stop) (max (gate + 1) reader) (gate + 1)
next-later gate stop reader = go (eqb (gate + 1) stop)
  where
    go : (b : Bool) → gate < cond b (max (gate + 1) reader) (gate + 1)
    go true = omega (arith, le-max_left (gate + 1) reader)
    go false = omega arith

module _ (ws words : List ℕ) (sound : NetSound ws) where
  -- what a gate's answer changes to is told by the sources before it
  pub changed-agree : (a b : List ℕ) (m : ℕ) → m < gates ws → ((s : ℕ) → s < inputs ws + m → get_or a s 0 ≡ get_or b s 0)
      → (l : ℕ) → changed_answer ws words a m l ≡ changed_answer ws words b m l
  changed-agree a b m inside agree l =
      ap (answer (table ws m))
      (map_same (λ p. lane l (bit_xor (get_or words p 0) (get_or a p 0))) (λ p. lane l (bit_xor (get_or words p 0) (get_or b p 0))) (used_pins ws m)
      (λ i h.
      let p = get_or (used_pins ws m) i 0 in
      ap (λ (x : ℕ). lane l (bit_xor (get_or words p 0) x)) (agree p (used-below ws sound m inside i h))))

  -- a gate that reads no changed source answers as before
  pub no_change : (changed : List ℕ) (m : ℕ) → m < gates ws → ((i : ℕ) → i < pin_count ws m → get_or changed (pin ws m i) 0 ≡ 0)
      → (l : ℕ) → differ (changed_answer ws words changed m l) (right_answer ws words m l) ≡ false
  no_change changed m inside none l =
      same-differ (changed_answer ws words changed m l) (right_answer ws words m l)
      (ap (answer (table ws m))
      (map_same (λ p. lane l (bit_xor (get_or words p 0) (get_or changed p 0))) (λ p. lane l (get_or words p 0)) (used_pins ws m)
      (λ i h.
      let used : i < pin_count ws m = omega (arith, used-count ws sound m inside) in
      ap (lane l)
      (ap (bit_xor (get_or words (get_or (used_pins ws m) i 0) 0))
      (ap (λ (p : ℕ). get_or changed p 0) (sym (used-pin ws sound m inside i used)) ∙ none i used)
      ∙ xor_zero_r (get_or words (get_or (used_pins ws m) i 0) 0)))))

  -- a word that is 0 settles a gate that does not change
  settled-zero : (changed : List ℕ) (m : ℕ) → get_or changed (inputs ws + m) 0 ≡ 0
      → ((l : ℕ) → l < lane_count → differ (changed_answer ws words changed m l) (right_answer ws words m l) ≡ false) → Settled ws words changed m
  settled-zero changed m e none l less = ap (lane l) e ∙ lane-zero l ∙ sym (none l less)

  module _ (j : ℕ) where
    -- gates that read no changed source are passed over, one by one
    pass-one : (gate stop : ℕ) (changed : List ℕ) → Following ws words j gate stop changed
        → (gate < gates ws → (l : ℕ) → l < lane_count → differ (changed_answer ws words changed gate l) (right_answer ws words gate l) ≡ false)
        → Following ws words j (gate + 1) stop changed
    pass-one gate stop changed f none =
        record {
          long = f.long;
          before = f.before;
          settled =
              λ m after less inside.
              ⊎_elim
              (λ e.
              settled-zero changed m (f.later (inputs ws + m) (omega arith))
              (λ l h.
              subst (λ (g : ℕ). differ (changed_answer ws words changed g l) (right_answer ws words g l) ≡ false) (sym e) (none (omega arith) l h)))
              (λ earlier. f.settled m after earlier inside)
              (eq-or-lt_of_le {n = m} {m = gate} (omega arith));
          later = λ s h. f.later s (omega arith);
          stopped = f.stopped;
          reached = λ m i h inside used some. f.reached m i (omega arith) inside used some;
          after = (omega (arith, f.after.0), f.after.1, f.after.2);
        }

    pub pass-over : (k gate stop : ℕ) (changed : List ℕ) → Following ws words j gate stop changed
        → ((m i : ℕ) → gate ≤ m → m < gate + k → m < gates ws → i < pin_count ws m → get_or changed (pin ws m i) 0 ≡ 0)
        → Following ws words j (gate + k) stop changed
    pass-over zero gate stop changed f none = subst (λ (g : ℕ). Following ws words j g stop changed) (omega arith) f
    pass-over (suc k) gate stop changed f none =
        subst (λ (g : ℕ). Following ws words j g stop changed) (omega arith)
        (pass-over k (gate + 1) stop changed
        (pass-one gate stop changed f (λ inside l h. no_change changed gate inside (λ i used. none gate i (omega arith) (omega arith) inside used) l))
        (λ m i h less inside used. none m i (omega arith) (omega arith) inside used))

    pub pass-to : (gate to stop : ℕ) (changed : List ℕ) → Following ws words j gate stop changed
        → ((m i : ℕ) → gate ≤ m → m < to → m < gates ws → i < pin_count ws m → get_or changed (pin ws m i) 0 ≡ 0)
        → Following ws words j (max gate to) stop changed
    pass-to gate to stop changed f none =
        let e : gate + (max gate to - gate) ≡ max gate to = omega (arith, le-max_left gate to) in
        subst (λ (g : ℕ). Following ws words j g stop changed) e
        (pass-over (max gate to - gate) gate stop changed f
        (λ m i h less here used. none m i h (below-max gate to m h (omega (arith, le-max_left gate to))) here used))

    -- a gate of the window that does not change
    pub pass-unchanged : (gate stop : ℕ) (changed : List ℕ) (word : ℕ) → Following ws words j gate stop changed → word ≡ 0
        → InEachLane word (λ l. differ (changed_answer ws words changed gate l) (right_answer ws words gate l))
        → Following ws words j (gate + 1) stop changed
    pass-unchanged gate stop changed word f e lanes =
        pass-one gate stop changed f (λ inside l h. sym (lanes l h) ∙ ap (lane l) e ∙ lane-zero l)

    -- and one that does: its readers come into the window
    module _ (spans : List Span) (reads : Reads ws (gates ws) spans) (gate stop word : ℕ) (changed : List ℕ) (f : Following ws words j gate stop changed)
        (inside : gate < gates ws) (in_window : gate < stop)
        (lanes : InEachLane word (λ l. differ (changed_answer ws words changed gate l) (right_answer ws words gate l))) where
      abbrev source : ℕ
      source = inputs ws + gate

      abbrev stored : List ℕ
      stored = set changed source word

      source-inside : source < length changed
      source-inside = omega (arith, f.long, few-sources ws sound)

      pub elsewhere : (s : ℕ) → s ≢ source → get_or stored s 0 ≡ get_or changed s 0
      elsewhere s other = get_or-set_other changed source s word 0 other

      settled-stored : (m : ℕ) → m < gates ws → m ≤ gate → (l : ℕ) → changed_answer ws words stored m l ≡ changed_answer ws words changed m l
      settled-stored m here few = changed-agree stored changed m here (λ s h. elsewhere s (λ e. omega arith))

      pub follow-changed : Following ws words j (gate + 1) (max stop (span_at spans source).end) stored
      follow-changed =
          record {
            long = length-set changed source word ∙ f.long;
            before = λ s h. elsewhere s (λ e. omega (arith, f.after.0)) ∙ f.before s h;
            settled =
                λ m after less here.
                ⊎_elim
                (λ e l h. ap (λ (g : ℕ). lane l (get_or stored (inputs ws + g) 0)) e ∙ ap (lane l) (get_or-set_same changed source word 0 source-inside) ∙ lanes l h
                ∙ ap (λ (x : Bool). differ x (right_answer ws words gate l)) (sym (settled-stored gate inside (omega arith) l))
                ∙ ap (λ (g : ℕ). differ (changed_answer ws words stored g l) (right_answer ws words g l)) (sym e))
                (λ earlier l h. ap (lane l) (elsewhere (inputs ws + m) (λ e. omega arith)) ∙ f.settled m after earlier here l h
                ∙ ap (λ (x : Bool). differ x (right_answer ws words m l)) (sym (settled-stored m here (omega arith) l)))
                (eq-or-lt_of_le {n = m} {m = gate} (omega arith));
            later = λ s h. elsewhere s (λ e. omega arith) ∙ f.later s (omega arith);
            stopped =
                λ s h.
                elsewhere s (λ e. omega (arith, le-max_left stop (span_at spans source).end))
                ∙ f.stopped s (omega (arith, le-max_left stop (span_at spans source).end));
            reached =
                λ m i h here used some.
                is-or-not (pin ws m i) source
                (λ e. omega (arith, (reads.within m i here used).1, ap (λ (s : ℕ). (span_at spans s).end) e, le-max_right stop (span_at spans source).end))
                (λ other.
                omega (
                  arith,
                  f.reached m i (omega arith) here used (λ z. some (elsewhere (pin ws m i) other ∙ z)),
                  le-max_left stop (span_at spans source).end,
                ));
            after = (
              omega (arith, f.after.0),
              omega (arith, f.after.1, le-max_left stop (span_at spans source).end),
              max-le f.after.2 (reads.few source),
            );
          }

      -- where the window ends with it, the gates before its first reader are passed over
      pub follow-next :
          Following ws words j (cond (eqb (gate + 1) stop) (max (gate + 1) (span_at spans source).first) (gate + 1)) (max stop (span_at spans source).end) stored
      follow-next = go (eqb (gate + 1) stop) refl
        where
          none : gate + 1 ≡ stop → (m i : ℕ) → gate + 1 ≤ m → m < (span_at spans source).first → m < gates ws → i < pin_count ws m → get_or stored (pin ws m i) 0 ≡ 0
          none e m i h less here used =
              is-or-not (pin ws m i) source
              (λ q. absurd (omega (arith, (reads.within m i here used).0, ap (λ (s : ℕ). (span_at spans s).first) q)))
              (λ other.
              elsewhere (pin ws m i) other
              ∙ ⊎_elim
              (λ z. z)
              (λ some. absurd (omega (arith, f.reached m i (omega arith) here used (λ z. omega arith))))
              (eq-zero-or-pos (get_or changed (pin ws m i) 0)))

          go : (b : Bool) → eqb (gate + 1) stop ≡ b
              → Following ws words j (cond b (max (gate + 1) (span_at spans source).first) (gate + 1)) (max stop (span_at spans source).end) stored
          go true e = pass-to (gate + 1) (span_at spans source).first (max stop (span_at spans source).end) stored follow-changed (none (eqb-true (gate + 1) stop e))
          go false e = follow-changed

    -- the flip itself, and the gates before its first reader
    pub follow-first : (spans : List Span) → Reads ws (gates ws) spans → j < gates ws → (changed : List ℕ) (by : ℕ) → Unchanged changed
        → Following ws words j (max (j + 1) (span_at spans (inputs ws + j)).first) (max (j + 1) (span_at spans (inputs ws + j)).end) (set changed (inputs ws + j) by)
    follow-first spans reads inside changed by none =
        pass-to (j + 1) (span_at spans source).first (max (j + 1) (span_at spans source).end) stored
        (record {
          long = length-set changed source by ∙ none.long;
          before = λ s h. elsewhere s (λ e. omega arith);
          settled = λ m after less here. absurd (omega arith);
          later = λ s h. elsewhere s (λ e. omega arith);
          stopped = λ s h. elsewhere s (λ e. omega (arith, le-max_left (j + 1) (span_at spans source).end));
          reached =
              λ m i h here used some.
              is-or-not (pin ws m i) source
              (λ e. omega (arith, (reads.within m i here used).1, ap (λ (s : ℕ). (span_at spans s).end) e, le-max_right (j + 1) (span_at spans source).end))
              (λ other. absurd (some (elsewhere (pin ws m i) other)));
          after = (omega arith, omega (arith, le-max_left (j + 1) (span_at spans source).end), max-le {k = gates ws} (omega arith) (reads.few source));
        })
        (λ m i h less here used.
        is-or-not (pin ws m i) source
        (λ e. absurd (omega (arith, (reads.within m i here used).0, ap (λ (s : ℕ). (span_at spans s).first) e)))
        (λ other. elsewhere (pin ws m i) other))
      where
        source : ℕ
        source = inputs ws + j

        stored : List ℕ
        stored = set changed source by

        elsewhere : (s : ℕ) → s ≢ source → get_or stored s 0 ≡ 0
        elsewhere s other = get_or-set_other changed source s by 0 other ∙ none.none s

    -- the window is empty: every gate is settled
    pub followed : (gate stop : ℕ) (changed : List ℕ) → stop ≤ gate → Following ws words j gate stop changed
        → Flipped ws words j (get_or changed (inputs ws + j) 0) changed
    followed gate stop changed empty f =
        let all =
        pass-over (gates ws) gate stop changed f
        (λ m i h less here used.
        ⊎_elim
        (λ z. z)
        (λ some. absurd (omega (arith, f.reached m i h here used (λ z. omega arith))))
        (eq-zero-or-pos (get_or changed (pin ws m i) 0))) in
        record { long = f.long; before = f.before; start = refl; settled = λ m after inside. all.settled m after (omega arith) inside }
