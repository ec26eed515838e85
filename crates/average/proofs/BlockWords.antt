-- Words and rows of a block: what is worked out for a pattern, what live gates read, and the rows gate by gate up to the outputs. Assumes nothing.
use Prim.Native.Nat.{ℕ, zero, suc, ◌+◌, ◌-◌, ◌*◌, ◌/◌, ◌%◌, ◌^◌, ◌≤◌, ◌<◌}
use mathlib.Core.Bool.{Bool, true, false}
use mathlib.Core.List.{List, [], ◌∷◌, map, map-map}
use mathlib.Core.Logic.{⊎_elim}
use mathlib.Core.Path.{◌≡◌, refl, sym, ap, ap₂, subst, ◌∙◌}
use native.Mathlib.Nat.{mod-lt, mod-mod, mod-eq_of_lt, eq-or-lt_of_le}
use native.Mathlib.Omega.{arith}
use borrow.Author.Count.{below_more}
use lib.Dec.{eqb}
use lib.ListN.{length, get_or, set}
use lib.Pow.{pow_pos}
use lib.Seq.{get_or-set_same, get_or-set_other}
use Rattle.lists.proofs.Every.{map_same}
use Rattle.rounding.specs.Rounding.{units_in_one}
use Rattle.figure.specs.Figure.{bit_of, answer, gate_failure, output_step, right_of, failure_of, gate_word}
use Rattle.netlist.specs.Netlist.{Gate, pin_values, right_values}
use Rattle.netlist.proofs.Values.{right-input, right-gate}
use Rattle.area.specs.Layout.{inputs, gates, pattern_index, table, flip_index, flip, used_pins, output_words, source_word}
use Rattle.area.specs.Rules.{NetSound, Workable}
use Rattle.area.specs.Figures.{gate_word_from, product_from}
use Rattle.area.specs.Net.{net_of}
use Rattle.area.proofs.Words.{used-count, used-pin, used-below, output-below}
use Rattle.area.proofs.Net.{gate-at, gate_count, sound-pins}
use Rattle.signals.specs.Signals.{lane_count, lane, right_in, WordStored}
use Rattle.signals.proofs.Held.{gate-right}
use Rattle.rows.specs.Rows.{row_length, row_words, row_at, RowStored}
use Rattle.folds.specs.Gates.{RowsReady, value_in, RightHere, failure_from}
use Rattle.plan.specs.Plan.{IsLive, LiveFrom}
use Rattle.plan.proofs.Laws.{live-pin, live-output, live-passed}
use Rattle.work.specs.Work.{gate_figure, reliability_now, work_all}
use Rattle.work.proofs.Frame.{SameFrame, same_inputs, same_gates, same_table, same-trans, same-used-pins, same-output-words, same-store-pattern}
use Rattle.work.proofs.Frame.{same-work-all, work-all-pattern, work-all-flip}
use Rattle.work.proofs.Sound.{net-same, workable-store-pattern, workable-work-all, source-word-fits}
use Rattle.fresh.specs.Fresh.{Fresh}
use Rattle.fresh.proofs.Sources.{source-input, source-gate, source-cases}
use Rattle.fresh.proofs.Bridge.{right-of-word}
use Rattle.fresh.proofs.WorkAll.{work-all-fresh}
use Rattle.calls.specs.Calls.{reliability_for}
use Rattle.average.specs.Blocks.{word_for, row_pattern, LiveWords, ValuesFrom, HasFailure, RowsKept, Block}
use Rattle.average.specs.Blocks.{HeldFrom, row_word, OutputsFit}

-- products over the same failures
product-by : (f h : ℕ → ℕ) (s : ℕ) (os : List ℕ) → ((i : ℕ) → i < length os → failure_of (f (get_or os i 0)) ≡ failure_of (h (get_or os i 0)))
    → product_from f s os ≡ product_from h s os
product-by f h s [] e = refl
product-by f h s (o ∷ os) e =
    ap (λ (x : ℕ). product_from f (output_step units_in_one s x) os) (e 0 (omega arith))
    ∙ product-by f h (output_step units_in_one s (failure_of (h o))) os (λ i l. e (suc i) (omega arith))

-- ---- the words worked out for pattern q

module _ (ws : List ℕ) (net : NetSound ws) (q : ℕ) where
  abbrev afresh : List ℕ
  afresh = work_all (set ws pattern_index q)

  frame : SameFrame ws afresh
  frame = same-trans ws (set ws pattern_index q) afresh (same-store-pattern ws q) (same-work-all (set ws pattern_index q))

  current : Fresh afresh
  current = work-all-fresh (set ws pattern_index q) (net-same ws (set ws pattern_index q) net (same-store-pattern ws q))

  -- an input's word is its bit of the pattern
  pub word-input : (s : ℕ) → s < inputs ws → word_for ws q s ≡ q / 2 ^ s % 2
  unfolding word_for
  word-input s l =
      source-input afresh s (omega (arith, same_inputs ws afresh frame))
      ∙ ap (λ (x : ℕ). x / 2 ^ s % 2) (work-all-pattern (set ws pattern_index q) ∙ get_or-set_same ws pattern_index q 0 (omega (arith, net.long)))

  -- a gate's word comes of its pins' words
  pub word-gate : (j : ℕ) → j < gates ws → word_for ws q (inputs ws + j) ≡ gate_word_from (word_for ws q) ws j
  unfolding word_for gate_figure gate_word_from
  word-gate j l =
      let flips : flip afresh j ≡ flip ws j
      = work-all-flip (set ws pattern_index q) j ∙ get_or-set_other ws pattern_index (flip_index j) q 0 (λ e. omega arith) in
      ap (λ (n : ℕ). source_word afresh (n + j)) (sym (same_inputs ws afresh frame))
      ∙ source-gate afresh j
      ∙ current.figures j (omega (arith, same_gates ws afresh frame))
      ∙ rw (same_table ws afresh frame j, flips, same-used-pins ws afresh frame j)

  -- the outputs' failures make the reliability
  product-for : (read : ℕ → ℕ)
      → ((k : ℕ) → k < length (output_words ws) → failure_of (read (get_or (output_words ws) k 0)) ≡ failure_of (word_for ws q (get_or (output_words ws) k 0)))
      → product_from read units_in_one (output_words ws) ≡ reliability_for ws q
  unfolding word_for reliability_for reliability_now
  product-for read h =
      product-by read (source_word afresh) units_in_one (output_words ws) h
      ∙ ap (product_from (source_word afresh) units_in_one) (sym (same-output-words ws afresh frame))
      ∙ sym current.product

-- no failure passes U
word_fits : (ws : List ℕ) (q s : ℕ) → Workable ws → q < 2 ^ inputs ws → s < inputs ws + gates ws → word_for ws q s / 2 ≤ units_in_one
unfolding word_for
word_fits ws q s workable fits l =
    let same = frame ws workable.net q in
    omega (
      arith,
      source-word-fits (afresh ws workable.net q) (workable-work-all (set ws pattern_index q) (workable-store-pattern ws q workable fits)) s
          (omega (arith, same_inputs ws _ same, same_gates ws _ same)),
    )

-- ---- right values

failure-of-word : (f : ℕ) (b : Bool) → failure_of (2 * f + bit_of b) ≡ f
failure-of-word f true = omega arith
failure-of-word f false = omega arith

module _ (ws : List ℕ) (net : NetSound ws) (q : ℕ) where
  abbrev right : ℕ → Bool
  right s = right_of (word_for ws q s)

  abbrev failure : ℕ → ℕ
  failure s = failure_of (word_for ws q s)

  -- a gate's right value and failure come of its pins'
  word-right : (j : ℕ) → j < gates ws → right (inputs ws + j) ≡ answer (table ws j) (map right (used_pins ws j))
  unfolding gate_word_from gate_word
  word-right j l =
      let used = map (word_for ws q) (used_pins ws j) in
      ap right_of (word-gate ws net q j l)
      ∙ right-of-word (gate_failure units_in_one (table ws j) (map right_of used) (map failure_of used) (flip ws j)) (answer (table ws j) (map right_of used))
      ∙ ap (answer (table ws j)) (map-map right_of (word_for ws q) (used_pins ws j))

  gate-failure : (j : ℕ) → j < gates ws
      → failure (inputs ws + j) ≡ gate_failure units_in_one (table ws j) (map right (used_pins ws j)) (map failure (used_pins ws j)) (flip ws j)
  unfolding gate_word_from gate_word
  gate-failure j l =
      let used = map (word_for ws q) (used_pins ws j) in
      ap failure_of (word-gate ws net q j l)
      ∙ failure-of-word (gate_failure units_in_one (table ws j) (map right_of used) (map failure_of used) (flip ws j)) (answer (table ws j) (map right_of used))
      ∙ ap₂ (λ (vs : List Bool) (fs : List ℕ). gate_failure units_in_one (table ws j) vs fs (flip ws j))
      (map-map right_of (word_for ws q) (used_pins ws j))
      (map-map failure_of (word_for ws q) (used_pins ws j))

  -- they are those of the netlist
  abbrev IsRight : ℕ → Type 0
  IsRight s = right s ≡ get_or (right_values (net_of ws [] []) q) s false

  first-right : (b : ℕ) → b ≤ gates ws → (s : ℕ) → s < inputs ws + b → IsRight s
  first-right zero few s l =
      let input : s < inputs ws = omega arith in
      ap right_of (word-input ws net q s input)
      ∙ ap (λ (x : ℕ). eqb x 1) (mod-mod (q / 2 ^ s) 2)
      ∙ sym (right-input (net_of ws [] []) (sound-pins ws [] [] net) q s input)
  first-right (suc b) few s l =
      ⊎_elim
      (λ e. subst IsRight (sym e)
      (word-right b (omega arith)
      ∙ ap (answer (table ws b))
      (map_same right (λ p. get_or (right_values (net_of ws [] []) q) p false) (used_pins ws b)
      (λ i h. first-right b (omega arith) (get_or (used_pins ws b) i 0) (used-below ws net b (omega arith) i h)))
      ∙ ap (λ (g : Gate). answer g.table (pin_values (right_values (net_of ws [] []) q) g.pins)) (sym (gate-at ws [] [] b (omega arith)))
      ∙ sym (right-gate (net_of ws [] []) (sound-pins ws [] [] net) q b (omega (arith, gate_count ws [] [])))))
      (λ before. first-right b (omega arith) s before)
      (eq-or-lt_of_le {n = s} {m = inputs ws + b} (omega arith))

pattern_fits : (ws : List ℕ) (start l : ℕ) → row_pattern ws start l < 2 ^ inputs ws
pattern_fits ws start l = mod-lt (start + l) (pow_pos (inputs ws))

-- ---- the words of a block, gate by gate

module _ (ws patterns : List ℕ) (net : NetSound ws) where
  abbrev truth : ℕ → List Bool
  truth l = right_in (net_of ws [] []) patterns l

  abbrev HasValue : List ℕ → ℕ → ℕ → Type 0
  HasValue words l s = value_in words l s ≡ get_or (truth l) s false

  -- each live source before gate b has its right values
  words-source : (words : List ℕ) (b : ℕ) → LiveWords ws patterns words b
      → (s l : ℕ) → s < inputs ws + b → IsLive ws s → l < lane_count → HasValue words l s
  words-source words b held s l below live few =
      source-cases (inputs ws) s
      (λ input. held.input_words.held l s few input)
      (λ j e. subst (HasValue words l) (sym e) (held.gate_words j (omega arith) (subst (IsLive ws) e live) l few))

  -- gates that are not live are passed over
  pub words-next : (words : List ℕ) (b x : ℕ) → LiveFrom ws b x → LiveWords ws patterns words b → LiveWords ws patterns words x
  words-next words b x found held =
      record {
        input_words = held.input_words;
        gate_words = live-passed ws b x found (λ (m : ℕ). (l : ℕ) → l < lane_count → HasValue words l (inputs ws + m)) held.gate_words;
      }

  pub words-live : (words : List ℕ) (j : ℕ) → j < gates ws → LiveWords ws patterns words j → (new : List ℕ) → IsLive ws (inputs ws + j)
      → WordStored ws words new j → LiveWords ws patterns new (j + 1)
  words-live words j inside held new live stored =
      record {
        input_words =
            record {
              long = stored.long;
              held = λ l s few input. ap (lane l) (stored.other s (λ e. omega arith)) ∙ held.input_words.held l s few input;
            };
        gate_words =
            below_more (λ (m : ℕ). IsLive ws (inputs ws + m) → (l : ℕ) → l < lane_count → HasValue new l (inputs ws + m)) j
            (λ m less alive l few. ap (lane l) (stored.other (inputs ws + m) (λ e. omega arith)) ∙ held.gate_words m less alive l few)
            (λ _ l few.
            gate-right ws patterns net words new j inside stored l few
            (λ i used.
            words-source words j held (get_or (used_pins ws j) i 0) l (used-below ws net j inside i used) (live-pin ws net j i inside live used) few));
      }

  -- they have the right values of each row of the block
  pub values-from : (words : List ℕ) (first start : ℕ) → first % lane_count ≡ 0 → first ≤ start → start ≤ first + row_length
      → ((l : ℕ) → l < lane_count → get_or patterns l 0 ≡ (first + l) % 2 ^ inputs ws) → LiveWords ws patterns words (gates ws)
      → ValuesFrom ws words start
  values-from words first start whole from to each held s l inside live few =
      let shift = start % lane_count in
      let lower : shift ≡ start - first = omega arith in
      let place : first + (shift + l) ≡ start + l = omega arith in
      words-source words (gates ws) held s (shift + l) inside live (omega arith)
      ∙ ap (λ (q : ℕ). get_or (right_values (net_of ws [] []) q) s false) (each (shift + l) (omega arith) ∙ ap (λ (x : ℕ). x % 2 ^ inputs ws) place)
      ∙ sym (first-right ws net (row_pattern ws start l) (gates ws) (omega arith) s inside)

-- ---- a block gate by gate

module _ (ws : List ℕ) (workable : Workable ws) (start : ℕ) where
  abbrev net : NetSound ws
  net = workable.net

  module _ (rows : List ℕ) (kept : RowsKept ws rows) (b : ℕ) (few : b ≤ gates ws) (block : Block ws rows start b) where
    -- the failure of each live source before gate b is there; no input fails
    block-source : (s l : ℕ) → s < inputs ws + b → IsLive ws s → l < row_length → HasFailure ws rows start s l
    block-source s l below live less =
        source-cases (inputs ws) s
        (λ input.
        let q = row_pattern ws start l in
        let bit : q / 2 ^ s % 2 / 2 ≡ 0 = omega arith in
        kept.sure s l input less ∙ sym (ap failure_of (word-input ws net q s input) ∙ bit))
        (λ j e.
        subst (λ (t : ℕ). HasFailure ws rows start t l) (sym e)
        (block j (omega arith) (subst (IsLive ws) e live) l less))

    block-fits : (s l : ℕ) → s < inputs ws + b → IsLive ws s → l < row_length → row_at rows s l ≤ units_in_one
    block-fits s l below live less =
        rw (block-source s l below live less) (word_fits ws (row_pattern ws start l) s workable (pattern_fits ws start l) (omega arith))

  module _ (rows : List ℕ) (kept : RowsKept ws rows) (j : ℕ) (inside : j < gates ws) (block : Block ws rows start j) where
    -- a gate that keeps its row
    pub block_held : (unseen : List ℕ) (held number : ℕ) → start ≡ row_length * number → HeldFrom ws unseen rows held number j
        → held / 2 ^ get_or unseen (inputs ws + j) 0 ≡ number / 2 ^ get_or unseen (inputs ws + j) 0 → Block ws rows start (j + 1)
    block_held unseen held number whole kept-rows same =
        below_more (λ (m : ℕ). IsLive ws (inputs ws + m) → (l : ℕ) → l < row_length → HasFailure ws rows start (inputs ws + m) l) j
        block
        (λ live l few. rw whole (kept-rows j (omega arith) inside live same l few))

    module _ (live : IsLive ws (inputs ws + j)) where
      live-read : (i : ℕ) → i < length (used_pins ws j) → IsLive ws (get_or (used_pins ws j) i 0)
      live-read i used = live-pin ws net j i inside live used

      -- what a live gate's pins read can be read
      pub block-ready : RowsReady ws rows j
      block-ready =
          record {
            net = net;
            inside = inside;
            sure = kept.sure;
            fits =
                λ i less l few.
                let used : i < length (used_pins ws j) = omega (arith, used-count ws net j inside) in
                rw (used-pin ws net j inside i less)
                (block-fits rows kept j (omega arith) block (get_or (used_pins ws j) i 0) l (used-below ws net j inside i used) (live-read i used) few);
          }

      module _ (words : List ℕ) (values : ValuesFrom ws words start) where
        pins-right : (l : ℕ) → l < row_length
            → map (value_in words (start % lane_count + l)) (used_pins ws j) ≡ map (right ws net (row_pattern ws start l)) (used_pins ws j)
        pins-right l few =
            map_same (value_in words (start % lane_count + l)) (right ws net (row_pattern ws start l)) (used_pins ws j)
            (λ i used. values (get_or (used_pins ws j) i 0) l (omega (arith, used-below ws net j inside i used)) (live-read i used) few)

        -- its word has its answer
        pub block-right : RightHere ws words (start % lane_count) j
        block-right l few =
            values (inputs ws + j) l (omega arith) live few
            ∙ word-right ws net (row_pattern ws start l) j inside
            ∙ ap (answer (table ws j)) (sym (pins-right l few))

        -- its row stored
        pub block-live : (new : List ℕ) → RowStored rows new (inputs ws + j) (failure_from ws words rows (start % lane_count) j)
            → Block ws new start (j + 1)
        unfolding failure_from
        block-live new stored =
            below_more (λ (m : ℕ). IsLive ws (inputs ws + m) → (l : ℕ) → l < row_length → HasFailure ws new start (inputs ws + m) l) j
            (λ m less alive l few. stored.other (inputs ws + m) l (λ e. omega arith) few ∙ block m less alive l few)
            (λ _ l few.
            stored.here l few
            ∙ ap₂ (λ (vs : List Bool) (fs : List ℕ). gate_failure units_in_one (table ws j) vs fs (flip ws j))
            (pins-right l few)
            (map_same (λ s. row_at rows s l) (failure ws net (row_pattern ws start l)) (used_pins ws j)
            (λ i used. block-source rows kept j (omega arith) block (get_or (used_pins ws j) i 0) l (used-below ws net j inside i used) (live-read i used) few))
            ∙ sym (gate-failure ws net (row_pattern ws start l) j inside))

  -- gates that are not live are passed over
  pub block-next : (rows : List ℕ) (b x : ℕ) → LiveFrom ws b x → Block ws rows start b → Block ws rows start x
  block-next rows b x found block =
      live-passed ws b x found (λ (m : ℕ). (l : ℕ) → l < row_length → HasFailure ws rows start (inputs ws + m) l) block

  -- rows of gates leave those of inputs
  pub kept-live : (rows new : List ℕ) (j : ℕ) (row : ℕ → ℕ) → RowsKept ws rows → RowStored rows new (inputs ws + j) row → length new ≡ row_words
      → RowsKept ws new
  kept-live rows new j row kept stored long =
      record { long = long; sure = λ s l input few. stored.other s l (λ e. omega arith) few ∙ kept.sure s l input few }

  -- ---- after the last gate the outputs' failures are there

  module _ (rows : List ℕ) (kept : RowsKept ws rows) (block : Block ws rows start (gates ws)) where
    pub outputs_fit : OutputsFit ws rows
    outputs_fit k l inside few =
        block-fits rows kept (gates ws) (omega arith) block (get_or (output_words ws) k 0) l (output-below ws net k inside)
        (live-output ws net k inside)
        few

    -- their product is the reliability for the entry's pattern
    pub row-product : (l : ℕ) → l < row_length → start + l < 2 ^ inputs ws
        → product_from (row_word rows l) units_in_one (output_words ws) ≡ reliability_for ws (start + l)
    row-product l few small =
        product-for ws net (row_pattern ws start l) (row_word rows l)
        (λ k inside.
        let half : 2 * row_at rows (get_or (output_words ws) k 0) l / 2 ≡ row_at rows (get_or (output_words ws) k 0) l = omega arith in
        half
        ∙ block-source rows kept (gates ws) (omega arith) block (get_or (output_words ws) k 0) l (output-below ws net k inside)
        (live-output ws net k inside)
        few)
        ∙ ap (reliability_for ws) (mod-eq_of_lt small)

-- ---- rows that are held for the gates to come

-- a gate's row stored leaves those after it
pub held-live : (ws unseen rows new : List ℕ) (held number j : ℕ) (row : ℕ → ℕ) → RowStored rows new (inputs ws + j) row
    → HeldFrom ws unseen rows held number j → HeldFrom ws unseen new held number (j + 1)
held-live ws unseen rows new held number j row stored rest k from inside live same l few =
    stored.other (inputs ws + k) l (λ e. omega arith) few ∙ rest k (omega arith) inside live same l few
