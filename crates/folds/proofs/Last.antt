-- The last value of the fold in each lane: the lowest pin that may fail, one pin more, a pin that drops out, and the gate's failure. Assumes nothing.
use Prim.Native.Nat.{ℕ, zero, suc, ◌+◌, ◌-◌, ◌≤◌, ◌<◌}
use mathlib.Core.Bool.{Bool, true, false}
use mathlib.Core.List.{List, [], ◌∷◌, map}
use mathlib.Core.Logic.{by_cases}
use mathlib.Core.Path.{◌≡◌, refl, sym, ap, ap₂, ◌∙◌}
use native.Mathlib.Decide.{dec_lt}
use native.Mathlib.Omega.{arith}
use lib.ListN.{length, get_or, length-map}
use Rattle.rounding.specs.Rounding.{units_in_one, blend}
use Rattle.figure.specs.Figure.{answer, inverted, gate_step, gate_failure}
use Rattle.netlist.specs.Seen.{alone, differ, sensitive}
use Rattle.area.specs.Layout.{most_sources, most_pins, inputs, pin_count, table, pin, pins, flip, used_pins}
use Rattle.area.proofs.Words.{used-count, used-pin, pin-below, few-sources}
use Rattle.signals.specs.Signals.{lane, pin_lanes}
use Rattle.signals.proofs.Lanes.{lane-zero}
use Rattle.signals.proofs.Held.{pins-lanes}
use Rattle.rows.specs.Rows.{row_length, row_at, EachEntry, RowFits}
use Rattle.folds.specs.Gates.{RowsReady, value_in, RightHere, failure_from}
use Rattle.rows.specs.Rows.{value_if}
use Rattle.folds.specs.Failing.{fold_first, wrong_in, InvertedAt, InputsBelow, FailingEnd, RightFor, sensitive_failure, last_in}
use Rattle.rows.proofs.Exact.{one-mean, flip-alone}
use Rattle.folds.proofs.Fold.{drop-last, drop_all, drop-end, first-at-most, first-same, value-fits, fold-all}

-- an entry of a mapped list
get_or-map-inside : (F : ℕ → ℕ) (xs : List ℕ) (k : ℕ) → k < length xs → get_or (map F xs) k 0 ≡ F (get_or xs k 0)
get_or-map-inside F [] k h = absurd (omega arith)
get_or-map-inside F (x ∷ xs) zero h = refl
get_or-map-inside F (x ∷ xs) (suc k) h = get_or-map-inside F xs k (omega arith)

differ_same : (b : Bool) → differ b b ≡ false
differ_same true = refl
differ_same false = refl

module _ (ws rows : List ℕ) (j : ℕ) (ready : RowsReady ws rows j) (right shift : ℕ) (low : shift ≤ 32) (words : List ℕ) where
  abbrev start : ℕ → List Bool → ℕ
  start l vs = value_if (wrong_in ws j right (shift + l) vs)

  abbrev failing : ℕ → ℕ → ℕ
  failing l i = row_at rows (pin ws j i) l

  abbrev values : ℕ → List ℕ → List Bool
  values l pin-words = pin_lanes (shift + l) (pin_count ws j) pin-words

  -- no value passes U, and no failure that is read
  pub last_fits : (k : ℕ) → k ≤ pin_count ws j → (row : List ℕ) → EachEntry row (last_in ws rows j right shift words k) → RowFits row
  last_fits k few row each l less =
      let fits : (us : List Bool) → start l us ≤ units_in_one = λ us. value-fits (wrong_in ws j right (shift + l) us) in
      rw (each l less) (first-at-most (start l) (failing l) k (values l words) fits (λ i h. ready.fits i (omega arith) l less))

  pub pin-fits : (i : ℕ) → i < pin_count ws j → (row : List ℕ) → EachEntry row (row_at rows (pin ws j i)) → RowFits row
  pin-fits i used row each l less = rw (each l less) (ready.fits i used l less)

  module _ (k : ℕ) (used : k < pin_count ws j) (wrong : List ℕ) (turned : InvertedAt k words wrong) (l : ℕ) (less : l < row_length) where
    other : values l wrong ≡ inverted (values l words) (alone k)
    other = turned (shift + l) (pin_count ws j) (omega arith) used

    -- the lowest pin that may fail, from two words of wrong lanes
    pub lowest-made : InputsBelow ws j k → (m n f : ℕ) → lane l m ≡ wrong_in ws j right (shift + l) (values l words)
        → lane l n ≡ wrong_in ws j right (shift + l) (values l wrong) → f ≡ row_at rows (pin ws j k) l
        → blend units_in_one (value_if (lane l m)) (value_if (lane l n)) f ≡ last_in ws rows j right shift words (suc k) l
    lowest-made below m n f h g e =
        let none : (i : ℕ) → i < k → failing l i ≡ 0 = λ i small. ready.sure (pin ws j i) l (below i small) less in
        ap₂ (λ (x y : Bool). blend units_in_one (value_if x) (value_if y) f) h (g ∙ ap (wrong_in ws j right (shift + l)) other)
        ∙ ap (blend units_in_one (start l (values l words)) (start l (inverted (values l words) (alone k)))) e
        ∙ sym
        (ap₂ (λ (x y : ℕ). blend units_in_one x y (failing l k))
        (drop_all (start l) (failing l) k (values l words) none)
        (drop_all (start l) (failing l) k (inverted (values l words) (alone k)) none))

    -- one pin more
    more-made : (r w f : ℕ) → r ≡ last_in ws rows j right shift words k l → w ≡ last_in ws rows j right shift wrong k l → f ≡ row_at rows (pin ws j k) l
        → blend units_in_one r w f ≡ last_in ws rows j right shift words (suc k) l
    more-made r w f h g e =
        ap₂ (λ (x y : ℕ). blend units_in_one x y f) h (g ∙ ap (fold_first (start l) (failing l) k) other)
        ∙ ap (blend units_in_one (last_in ws rows j right shift words k l) (fold_first (start l) (failing l) k (inverted (values l words) (alone k)))) e

  -- with every pin right no answer is wrong
  pub none-wrong : RightFor ws j right shift words → (l : ℕ) → l < row_length → lane l 0 ≡ wrong_in ws j right (shift + l) (values l words)
  none-wrong here l less =
      lane-zero l ∙ sym (ap (differ (answer (table ws j) (values l words))) (here l less) ∙ differ_same (answer (table ws j) (values l words)))

  -- ---- one pin alone may fail

  module _ (here : RightFor ws j right shift words) (k : ℕ) (l : ℕ) (less : l < row_length) where
    alone-wrong : wrong_in ws j right (shift + l) (inverted (values l words) (alone k)) ≡ sensitive (table ws j) (values l words) k
    unfolding sensitive
    alone-wrong = ap (differ (answer (table ws j) (inverted (values l words) (alone k)))) (here l less)

    -- its start values are 0 and, where the gate is sensitive to it, U
    pub single-made : (used : k < pin_count ws j) (wrong : List ℕ) → InvertedAt k words wrong → (n f : ℕ)
        → lane l n ≡ wrong_in ws j right (shift + l) (values l wrong) → f ≡ row_at rows (pin ws j k) l
        → blend units_in_one (value_if (lane l 0)) (value_if (lane l n)) f ≡ sensitive_failure ws rows j shift words k l
    single-made used wrong turned n f g e =
        ap₂ (λ (x y : Bool). blend units_in_one (value_if x) (value_if y) f) (lane-zero l)
        (g ∙ ap (wrong_in ws j right (shift + l)) (other k used wrong turned l less) ∙ alone-wrong)
        ∙ ap (blend units_in_one 0 (value_if (sensitive (table ws j) (values l words) k))) e
        ∙ one-mean (row_at rows (pin ws j k) l) (ready.fits k used l less) (sensitive (table ws j) (values l words) k)

    -- and that is the last value, if the pins below cannot fail
    pub single-last : k < pin_count ws j → InputsBelow ws j k → sensitive_failure ws rows j shift words k l ≡ last_in ws rows j right shift words (suc k) l
    single-last used below =
        let none : (i : ℕ) → i < k → failing l i ≡ 0 = λ i small. ready.sure (pin ws j i) l (below i small) less in
        sym (one-mean (row_at rows (pin ws j k) l) (ready.fits k used l less) (sensitive (table ws j) (values l words) k))
        ∙ ap₂ (λ (x y : Bool). blend units_in_one (value_if x) (value_if y) (failing l k)) (sym (lane-zero l) ∙ none-wrong here l less) (sym alone-wrong)
        ∙ sym
        (ap₂ (λ (x y : ℕ). blend units_in_one x y (failing l k))
        (drop_all (start l) (failing l) k (values l words) none)
        (drop_all (start l) (failing l) k (inverted (values l words) (alone k)) none))

-- ---- one pin more, from the rows over the pins before it

module _ (ws rows : List ℕ) (j : ℕ) (ready : RowsReady ws rows j) (right shift : ℕ) (low : shift ≤ 32) (words : List ℕ) (k : ℕ) (used : k < pin_count ws j) where
  abbrev Lasts : List ℕ → List ℕ → ℕ → Type 0
  Lasts pin-words row n = EachEntry row (last_in ws rows j right shift pin-words n)

  -- a pin that reads an input drops out
  pub input-drops : (row : List ℕ) → pin ws j k < inputs ws → Lasts words row k → Lasts words row (suc k)
  input-drops row reads each l less =
      each l less
      ∙ sym
      (drop-last (start ws rows j ready right shift low words l) (failing ws rows j ready right shift low words l) k
      (values ws rows j ready right shift low words l words)
      (ready.sure (pin ws j k) l reads less))

  module _ (wrong a b f : List ℕ) (source : ℕ) (at_pin : source ≡ pin ws j k) (h : Lasts words a k) (g : Lasts wrong b k)
      (e : EachEntry f (row_at rows source)) where
    pub fold-ready : RowFits a × RowFits b × RowFits f
    fold-ready = (
      last_fits ws rows j ready right shift low words k (omega arith) a h,
      last_fits ws rows j ready right shift low wrong k (omega arith) b g,
      pin-fits ws rows j ready right shift low words k used f (rw at_pin at e),
    )

    pub fold-made : (row : List ℕ) → InvertedAt k words wrong
        → EachEntry row (λ l. blend units_in_one (get_or a l 0) (get_or b l 0) (get_or f l 0)) → Lasts words row (suc k)
    fold-made row turned each l less =
        each l less
        ∙ more-made ws rows j ready right shift low words k used wrong turned l less _ _ _ (h l less) (g l less)
        (e l less ∙ ap (λ (s : ℕ). row_at rows s l) at_pin)

-- ---- a used pin is one of four, and its source has a row

module _ (ws rows : List ℕ) (j : ℕ) (ready : RowsReady ws rows j) (i : ℕ) (used : i < pin_count ws j) where
  pub pin-few : i < most_pins
  pin-few = omega (arith, (ready.net.gate j ready.inside).few_pins)

  pub pin-inside : pin ws j i < most_sources
  pin-inside = omega (arith, pin-below ws ready.net j ready.inside i used, ready.inside, few-sources ws ready.net)

-- a pin that may fail is no lower than the lowest
pub lowest-before : (ws : List ℕ) (j lowest end : ℕ) → InputsBelow ws j lowest → FailingEnd ws j end → 0 < end → lowest < end
lowest-before ws j lowest end below failing some =
    by_cases (dec_lt lowest end) (λ less. less)
    (λ past. absurd (omega (arith, below (end - 1) (omega arith), failing.last some)))

-- ---- the gate's failure

module _ (ws rows words : List ℕ) (j : ℕ) (ready : RowsReady ws rows j) (shift : ℕ) (low : shift ≤ 32) (there : RightHere ws words shift j) where
  abbrev right : ℕ
  right = get_or words (inputs ws + j) 0

  abbrev pin_words : List ℕ
  pin_words = map (λ p. get_or words p 0) (pins ws j)

  pub right-for : RightFor ws j right shift pin_words
  right-for l less =
      there l less
      ∙ ap (answer (table ws j)) (sym (pins-lanes (shift + l) (λ p. get_or words p 0) ws j))

  module _ (end l : ℕ) (less : l < row_length) (failing : FailingEnd ws j end) where
    abbrev reads : List ℕ
    reads = used_pins ws j

    abbrev fs : List ℕ
    fs = map (λ s. row_at rows s l) reads

    abbrev vs : List Bool
    vs = map (value_in words (shift + l)) reads

    abbrev begin : List Bool → ℕ
    begin us = value_if (differ (answer (table ws j) us) (answer (table ws j) vs))

    abbrev failure : ℕ → ℕ
    failure i = row_at rows (pin ws j i) l

    count : length fs ≡ end + (pin_count ws j - end)
    count = omega (arith, length-map reads (λ s. row_at rows s l), used-count ws ready.net j ready.inside, failing.used)

    read : (i : ℕ) → i < end + (pin_count ws j - end) → get_or fs i 0 ≡ failure i
    read i h =
        let inside : i < length reads = omega (arith, used-count ws ready.net j ready.inside, failing.used) in
        get_or-map-inside (λ s. row_at rows s l) reads i inside
        ∙ ap (λ (s : ℕ). row_at rows s l) (sym (used-pin ws ready.net j ready.inside i (omega (arith, failing.used))))

    pub failure-made : gate_step units_in_one (last_in ws rows j right shift pin_words end l) (flip ws j) ≡ failure_from ws words rows shift j l
    unfolding failure_from gate_failure
    failure-made =
        ap (λ (m : ℕ). gate_step units_in_one m (flip ws j))
        (sym
        (fold-all (table ws j) vs fs (length-map reads (λ s. row_at rows s l) ∙ sym (length-map reads (value_in words (shift + l))))
        ∙ ap (λ (n : ℕ). fold_first begin (λ i. get_or fs i 0) n vs) count
        ∙ first-same begin (λ us. value_if (wrong_in ws j right (shift + l) us)) (λ i. get_or fs i 0) failure (end + (pin_count ws j - end)) vs
        (λ us. ap (λ (b : Bool). value_if (differ (answer (table ws j) us) b)) (sym (there l less)))
        read
        ∙ drop-end (λ us. value_if (wrong_in ws j right (shift + l) us)) failure end (pin_count ws j - end) vs
        (λ i from to. ready.sure (pin ws j i) l (failing.after i from (omega (arith, failing.used))) less)
        ∙ ap (fold_first (λ us. value_if (wrong_in ws j right (shift + l) us)) failure end) (sym (pins-lanes (shift + l) (λ p. get_or words p 0) ws j))))

  -- where no pin may fail it is the flip
  pub flip-made : (l : ℕ) → l < row_length → flip ws j ≤ units_in_one → FailingEnd ws j 0 → flip ws j ≡ failure_from ws words rows shift j l
  flip-made l less fits none =
      sym (flip-alone (flip ws j) fits)
      ∙ ap (λ (b : Bool). gate_step units_in_one (value_if b) (flip ws j))
      (sym (lane-zero l) ∙ none-wrong ws rows j ready right shift low pin_words right-for l less)
      ∙ failure-made 0 l less none
