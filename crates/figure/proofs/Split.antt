-- Pins that cannot fail need no fold: they only move the index that the others start from. Assumes nothing.
use Prim.Native.Nat.{ℕ, zero, suc, ◌+◌, ◌-◌, ◌*◌, ◌/◌, ◌%◌, ◌^◌, ◌≤◌, ◌<◌}
use mathlib.Core.List.{List, [], ◌∷◌, ◌++◌, map, append_assoc}
use mathlib.Core.Path.{◌≡◌, refl, sym, ap, ap₂, subst, ◌∙◌, fun_ext}
use native.Mathlib.Numerals.{add-one}
use native.Mathlib.Omega.{arith}
use lib.ListN.{length, get_or, drop, set, drop_of_length-le}
use lib.Seq.{drop-cons, get_or-set_same, get_or-set_other}
use Rattle.rounding.specs.Rounding.{units_in_one, blend}
use Rattle.rounding.proofs.Laws.{blend-none}
use Rattle.figure.specs.Figure.{failure_of, fold_step, fold_pins, gate_step}
use Rattle.figure.specs.Steps.{Pin, pins_from, numbered, first_pins, room, spread_step, spread_pins, differs, last_value}
use Rattle.figure.specs.Steps.{right_index, right_bit, pins_word, Split}
use Rattle.figure.proofs.Under.{added}
use Rattle.figure.proofs.Laws.{word-is}

-- what a pin adds to an index where it is right, and where it is wrong
abbrev right_adds : Pin → ℕ
right_adds p = p.word % 2 * p.bit

abbrev wrong_adds : Pin → ℕ
wrong_adds p = p.bit - p.word % 2 * p.bit

-- one pin folded, on a function of the index
abbrev folded : ℕ → (ℕ → ℕ) → Pin → ℕ → ℕ
folded u D p x = blend u (D (x + right_adds p)) (D (x + wrong_adds p)) (failure_of p.word)

-- the pins in turn, on a function of the index
abbrev fold_from : ℕ → (ℕ → ℕ) → List Pin → ℕ → ℕ
fold_from u D [] x = D x
fold_from u D (p ∷ ps) x = fold_from u (folded u D p) ps x

step : (u : ℕ) (D : ℕ → ℕ) (p : Pin) (xs : List ℕ)
    → fold_step u (failure_of p.word) (map D (spread_step (right_adds p) (wrong_adds p) xs)) ≡ map (folded u D p) xs
step u D p [] = refl
step u D p (x ∷ xs) = ap (λ (ys : List ℕ). folded u D p x ∷ ys) (step u D p xs)

-- the fold on lists is the fold on functions
fold-from : (u : ℕ) (D : ℕ → ℕ) (ps : List Pin) (x : ℕ)
    → fold_pins u (map (λ (p : Pin). failure_of p.word) ps) (map D (spread_pins ps (x ∷ []))) ≡ fold_from u D ps x
fold-from u D [] x = refl
fold-from u D (p ∷ ps) x =
    ap (fold_pins u (map (λ (q : Pin). failure_of q.word) ps)) (step u D p (spread_pins ps (x ∷ []))) ∙ fold-from u (folded u D p) ps x

-- a function of a moved index
moved : (u : ℕ) (D : ℕ → ℕ) (r : ℕ) (ps : List Pin) (x : ℕ) → fold_from u (λ y. D (y + r)) ps x ≡ fold_from u D ps (x + r)
moved u D r [] x = refl
moved u D r (p ∷ ps) x =
    ap (λ (F : ℕ → ℕ). fold_from u F ps x)
    (fun_ext
    (λ y.
    let right : y + right_adds p + r ≡ y + r + right_adds p = omega arith in
    let wrong : y + wrong_adds p + r ≡ y + r + wrong_adds p = omega arith in
    ap₂ (λ (a b : ℕ). blend u (D a) (D b) (failure_of p.word)) right wrong))
    ∙ moved u (folded u D p) r ps x

module _ (u : ℕ) (pos : 0 < u) (p : Pin) (sure : failure_of p.word ≡ 0) where
  fold-without : (D : ℕ → ℕ) (front back : List Pin) (x : ℕ) → fold_from u D (front ++ (p ∷ back)) x ≡ fold_from u D (front ++ back) (x + right_adds p)
  fold-without D [] back x =
      ap (λ (F : ℕ → ℕ). fold_from u F back x)
      (fun_ext (λ y. ap (blend u (D (y + right_adds p)) (D (y + wrong_adds p))) sure ∙ blend-none u (D (y + right_adds p)) (D (y + wrong_adds p)) pos))
      ∙ moved u D (right_adds p) back x
  fold-without D (q ∷ front) back x = fold-without (folded u D q) front back x

  index-without : (front back : List Pin) (x : ℕ) → right_index x (front ++ (p ∷ back)) ≡ right_index (x + right_adds p) (front ++ back)
  index-without [] back x = index-moved back x
    where
      index-moved : (ps : List Pin) (x : ℕ) → right_index x ps + right_adds p ≡ right_index (x + right_adds p) ps
      index-moved [] x = refl
      index-moved (q ∷ ps) x = omega (arith, index-moved ps x)
  index-without (q ∷ front) back x = ap (λ (i : ℕ). i + right_adds q) (index-without front back x)

  -- a pin that cannot fail, left out
  pub without : (table start flip : ℕ) (front back : List Pin)
      → pins_word u table start (front ++ (p ∷ back)) flip ≡ pins_word u table (start + p.word % 2 * p.bit) (front ++ back) flip
  unfolding pins_word last_value
  without table start flip front back =
      let old = front ++ (p ∷ back) in
      let new = front ++ back in
      let at = start + right_adds p in
      let bit : right_bit table start old ≡ right_bit table at new = ap (λ (i : ℕ). table / 2 ^ i % 2) (index-without front back start) in
      ap₂ (λ (m b : ℕ). 2 * gate_step u m flip + b)
      (fold-from u (differs u table (right_bit table start old)) old start
      ∙ fold-without (differs u table (right_bit table start old)) front back start
      ∙ ap (λ (b : ℕ). fold_from u (differs u table b) new at) bit
      ∙ sym (fold-from u (differs u table (right_bit table at new)) new at))
      bit

-- the first index that pins spread to is the one where every pin is right
spread-first : (ps : List Pin) (x : ℕ) → (xs : List ℕ) × (spread_pins ps (x ∷ []) ≡ right_index x ps ∷ xs)
spread-first [] x = ([], refl)
spread-first (p ∷ ps) x =
    let before = spread-first ps x in
    ((right_index x ps + wrong_adds p) ∷ spread_step (right_adds p) (wrong_adds p) before.0, ap (spread_step (right_adds p) (wrong_adds p)) before.1)

pub first-index : (ps : List Pin) (x : ℕ) → get_or (spread_pins ps (x ∷ [])) 0 0 ≡ right_index x ps
first-index ps x = ap (λ (xs : List ℕ). get_or xs 0 0) (spread-first ps x).1

-- ---- a gate's pins gone through one by one: those kept so far, and then those to come

room-append : (ps qs : List Pin) → room (ps ++ qs) ≡ room ps + room qs
room-append [] qs = omega arith
room-append (p ∷ ps) qs = omega (arith, room-append ps qs)

-- all pins of a gate leave the index below 16
pub numbered-room : (words : List ℕ) → length words ≤ 4 → room (numbered 1 words) ≤ 15
numbered-room [] l = omega arith
numbered-room (a ∷ []) l = omega arith
numbered-room (a ∷ b ∷ []) l = omega arith
numbered-room (a ∷ b ∷ c ∷ []) l = omega arith
numbered-room (a ∷ b ∷ c ∷ d ∷ []) l = omega arith
numbered-room (a ∷ b ∷ c ∷ d ∷ e ∷ words) l = absurd (omega arith)

-- before the first pin
pub split-first : (words : List ℕ) → length words ≤ 4 → Split words 0 (numbered 1 words)
split-first words l =
    record { fits = omega (arith, numbered-room words l); word = λ table flip. word-is units_in_one table flip words }

-- the next pin to come
numbered_next : (R : ℕ → ℕ) (sources : List ℕ) (i bit : ℕ) → i < length sources
    → numbered bit (map R (drop i sources))
    ≡ record { word = R (get_or sources i 0); bit = bit } ∷ numbered (2 * bit) (map R (drop (i + 1) sources))
numbered_next R sources i bit l = rw (add-one i) (ap (λ (xs : List ℕ). numbered bit (map R xs)) (drop-cons sources i 0 l))

module _ (words : List ℕ) (R : ℕ → ℕ) (sources : List ℕ) (i bit start : ℕ) (kept : List Pin) (l : i < length sources)
    (before : Split words start (kept ++ numbered bit (map R (drop i sources)))) where
  next : Pin
  next = record { word = R (get_or sources i 0); bit = bit }

  others : List Pin
  others = numbered (2 * bit) (map R (drop (i + 1) sources))

  now : Split words start (kept ++ (next ∷ others))
  unfolding next others
  now = subst (λ (ps : List Pin). Split words start (kept ++ ps)) (numbered_next R sources i bit l) before

  -- it has room for what is to come
  pub split-room : bit ≤ 15
  unfolding next others
  split-room = omega (arith, now.fits, room-append kept (next ∷ others))

  -- a pin that cannot fail is left out
  pub split-without : failure_of (R (get_or sources i 0)) ≡ 0
      → Split words (start + R (get_or sources i 0) % 2 * bit) (kept ++ numbered (bit * 2) (map R (drop (i + 1) sources)))
  unfolding next others
  split-without sure =
      let twice : 2 * bit ≡ bit * 2 = omega arith in
      subst (λ (a : ℕ). Split words (start + R (get_or sources i 0) % 2 * bit) (kept ++ numbered a (map R (drop (i + 1) sources)))) twice
      (record {
        fits = omega (arith, now.fits, room-append kept (next ∷ others), room-append kept others, added (R (get_or sources i 0)) bit);
        word = λ table flip. sym (without units_in_one (omega arith) next sure table start flip kept others) ∙ now.word table flip;
      })

  -- any other is kept
  pub split-kept : Split words start ((kept ++ (record { word = R (get_or sources i 0); bit = bit } ∷ [])) ++ numbered (bit * 2) (map R (drop (i + 1) sources)))
  unfolding next others
  split-kept =
      let twice : 2 * bit ≡ bit * 2 = omega arith in
      subst (λ (a : ℕ). Split words start ((kept ++ (next ∷ [])) ++ numbered a (map R (drop (i + 1) sources)))) twice
      (subst (Split words start) (sym (append_assoc kept (next ∷ []) others)) now)

append-none : (ps : List Pin) → ps ++ [] ≡ ps
append-none [] = refl
append-none (p ∷ ps) = ap (λ (qs : List Pin). p ∷ qs) (append-none ps)

-- after the last
pub split-last : (words : List ℕ) (R : ℕ → ℕ) (sources : List ℕ) (i bit start : ℕ) (kept : List Pin) → length sources ≤ i
    → Split words start (kept ++ numbered bit (map R (drop i sources))) → Split words start kept
split-last words R sources i bit start kept l before =
    subst (Split words start)
    (ap (λ (xs : List ℕ). kept ++ numbered bit (map R xs)) (drop_of_length-le sources l) ∙ append-none kept)
    before

-- pins whose words and bits are the same
pub pins-same : (k n : ℕ) (word new bit fresh : ℕ → ℕ) → ((i : ℕ) → i < k + n → new i ≡ word i) → ((i : ℕ) → i < k + n → fresh i ≡ bit i)
    → pins_from k n new fresh ≡ pins_from k n word bit
pins-same k zero word new bit fresh e f = refl
pins-same k (suc n) word new bit fresh e f =
    ap₂ ◌∷◌ (ap₂ pin (e k (omega arith)) (f k (omega arith)))
    (pins-same (suc k) n word new bit fresh (λ i l. e i (omega arith)) (λ i l. f i (omega arith)))
  where
    pin : ℕ → ℕ → Pin
    pin w b = record { word = w; bit = b }

-- the last pin apart
pins-last : (k n : ℕ) (word bit : ℕ → ℕ)
    → pins_from k (suc n) word bit ≡ pins_from k n word bit ++ (record { word = word (k + n); bit = bit (k + n) } ∷ [])
pins-last k zero word bit =
    let here : k ≡ k + 0 = omega arith in
    ap (λ (i : ℕ). record { word = word i; bit = bit i } ∷ []) here
pins-last k (suc n) word bit =
    let next : suc k + n ≡ k + suc n = omega arith in
    ap (λ (ps : List Pin). record { word = word k; bit = bit k } ∷ ps)
    (pins-last (suc k) n word bit
    ∙ ap (λ (i : ℕ). pins_from (suc k) n word bit ++ (record { word = word i; bit = bit i } ∷ [])) next)

-- a pin more in two arrays, of sources whose words R tells and of bits
pub pins-more : (R : ℕ → ℕ) (k : ℕ) (sources bits : List ℕ) (s b : ℕ) → k < length sources → k < length bits
    → pins_from 0 (k + 1) (λ i. R (get_or (set sources k s) i 0)) (λ i. get_or (set bits k b) i 0)
    ≡ pins_from 0 k (λ i. R (get_or sources i 0)) (λ i. get_or bits i 0) ++ (record { word = R s; bit = b } ∷ [])
pins-more R k sources bits s b l m =
    let here : 0 + k ≡ k = omega arith in
    rw (add-one k)
    (pins-last 0 k _ _
    ∙ ap₂ ◌++◌
    (pins-same 0 k _ _ _ _ (λ i h. ap R (get_or-set_other sources k i s 0 (λ e. omega arith))) (λ i h. get_or-set_other bits k i b 0 (λ e. omega arith)))
    (ap (λ (i : ℕ). record { word = R (get_or (set sources k s) i 0); bit = get_or (set bits k b) i 0 } ∷ []) here
    ∙ ap₂ (λ (x y : ℕ). record { word = R x; bit = y } ∷ []) (get_or-set_same sources k s 0 l) (get_or-set_same bits k b 0 m)))

pub first_more : (k : ℕ) (words bits : List ℕ) (w b : ℕ) → k < length words → k < length bits
    → first_pins (k + 1) (set words k w) (set bits k b) ≡ first_pins k words bits ++ (record { word = w; bit = b } ∷ [])
first_more k words bits w b l m = pins-more (λ x. x) k words bits w b l m
