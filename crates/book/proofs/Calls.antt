-- What must be shown of a call, for each of them. Assumes nothing.
use Prim.Native.Nat.{ℕ, ◌≤◌, ◌<◌}
use mathlib.Core.Bool.{true}
use mathlib.Core.List.{List, []}
use mathlib.Core.Logic.{by_cases}
use mathlib.Core.Path.{◌≡◌, refl, sym, ap, subst, ◌∙◌}
use native.Mathlib.Decide.{ℕ_discrete}
use native.Mathlib.Omega.{arith}
use lib.ListN.{get_or, set, length-set}
use lib.Seq.{get_or-set_same, get_or-set_other}
use Rattle.chance.specs.Number.{chance_scale, at_most_half}
use Rattle.chance.specs.Flip.{flip_accepted, flip_chance}
use Rattle.chance.proofs.Laws.{flip-chance-at-most, low-units, never-chance}
use Rattle.netlist.specs.Netlist.{Netlist}
use Rattle.netlist.specs.declared.Method.{Method}
use Rattle.netlist.specs.declared.Method.TheVariants.{Flip}
use Rattle.netlist.specs.Live.{SingleReaders}
use Rattle.netlist.specs.Seen.{seen_counts}
use Rattle.netlist.proofs.Seen.{agreeing-counts}
use Rattle.area.specs.Layout.{inputs, gates, outputs}
use Rattle.work.specs.Work.{invert_bit, toggle_words, set_words}
use Rattle.area.specs.Sum.{with_sum}
use Rattle.work.proofs.Frame.{same_gates, same-trans, same-toggle, same_set}
use Rattle.work.proofs.Sound.{net-same, sound-toggle, sound-set}
use Rattle.area.specs.Net.{net_of}
use Rattle.area.proofs.Net.{sound-pins, same-single-readers, same-flip-counts}
use Rattle.fresh.proofs.Calls.{toggle-net, toggle-pattern, toggle-fresh, toggle-converted, set-net, set-pattern, set-fresh, set-converted}
use Rattle.fresh.proofs.Calls.{same-with-sum, with-sum-net, with-sum-pattern, with-sum-fresh, with-sum-converted}
use Rattle.fresh.proofs.Unique.{fresh-fixed}
use Rattle.calls.specs.Judgements.{open_image, toggle_input, set_flip, read_netlist, read_gate, take_average, count_seen, write_image}
use Rattle.chance.specs.Flip.{flip_units}
use Rattle.calls.specs.Calls.{open_words, work}
use Rattle.book.specs.Book.{Book, with_flip, entered, image_book}
use Rattle.book.proofs.Agree.{Agree}
use Rattle.book.proofs.Shown.{Shown, Lent, shown-lent}
use Rattle.book.proofs.Flip.{flip-net}
use Rattle.book.proofs.Average.{average-within, average-sharp}
use Rattle.book.proofs.Open.{opened}
use Rattle.book.proofs.Written.{image-kept}
use Rattle.book.specs.Statement.{AnswerKept}
use Rattle.calls.specs.Judgements.{Call, argument_judgement, open_judgement}
use Rattle.calls.proofs.Judgements.{only-open, set-fine, weights-fine, toggle-fine}

pub shown-open : (bs : List ℕ) → Shown (open_image bs)
shown-open bs =
    record {
      judged = λ size ws b agree. ap (open_judgement bs) agree.long;
      only = λ b size. only-open bs size;
      agrees =
          λ size ws b agree e.
          subst (λ (n : ℕ). Agree n (open_words bs ws) (image_book bs)) agree.long (opened bs ws (ap (open_judgement bs) agree.long ∙ e));
      answers = λ size ws b agree e. tt;
    }

-- ---- toggling an input

toggled : (i : ℕ) (size : ℕ) (ws : List ℕ) (b : Book) → Agree size ws b → i < inputs ws → Agree size (toggle_words ws i) (entered b (toggle_input i))
toggled i size ws b agree l =
    let count : gates (toggle_words ws i) ≡ gates ws = same_gates ws (toggle_words ws i) (same-toggle ws i) in
    record {
      long = (same-toggle ws i).size ∙ agree.long;
      kinds = agree.kinds;
      chances = agree.chances;
      kind_each = omega (arith, agree.kind_each);
      chance_each = omega (arith, agree.chance_each);
      sound = sound-toggle ws i agree.sound l;
      fresh = toggle-fresh ws i agree.sound.workable.net agree.fresh l;
      held = toggle-net ws i agree.kinds agree.chances ∙ agree.held;
      converted = toggle-converted chance_scale ws agree.chances i agree.converted;
      chances_fit = λ j k. agree.chances_fit j (omega arith);
      honest = λ j k. agree.honest j (omega arith);
      same_pattern = toggle-pattern ws i agree.sound.workable.net ∙ ap (λ (q : ℕ). invert_bit q i) agree.same_pattern;
      single = agree.single;
    }

pub shown-toggle : (i : ℕ) → Shown (toggle_input i)
shown-toggle i =
    shown-lent (toggle_input i) (λ ws. refl) (λ b size. refl)
    (record {
      agrees = λ size ws b agree e. toggled i size ws b agree (toggle-fine (inputs ws) (gates ws) (outputs ws) i e);
      answers = λ size ws b agree e. tt;
    })

-- ---- setting a flip

flip-set : (g kind : ℕ) (field : List ℕ) (size : ℕ) (ws : List ℕ) (b : Book) → Agree size ws b → g < gates ws → flip_accepted kind field ≡ true
    → at_most_half (flip_chance kind field) ≡ true → Agree size (with_sum (set_words ws g (flip_units kind field))) (entered b (set_flip g kind field))
unfolding flip_units
flip-set g kind field size ws b agree l accepted low =
    let units = flip_units kind field in
    let chance = flip_chance kind field in
    let worked = set_words ws g units in
    let after = with_sum worked in
    let same = same-trans ws worked after (same_set ws g units l) (same-with-sum worked) in
    let net = net-same ws worked agree.sound.workable.net (same_set ws g units l) in
    let kinds = set agree.kinds g kind in
    let chances = set agree.chances g chance in
    let fits = low-units kind field low in
    let count : gates after ≡ gates ws = same_gates ws after same in
    let kind_each = agree.kind_each in
    let chance_each = agree.chance_each in
    let entry : net_of ws kinds chances ≡ with_flip b.net g kind chance
    = flip-net ws agree.kinds agree.chances g kind chance l kind_each chance_each
    ∙ ap (λ (net : Netlist). with_flip net g kind chance) agree.held in
    record {
      long = same.size ∙ agree.long;
      kinds = kinds;
      chances = chances;
      kind_each = omega (arith, length-set agree.kinds g kind);
      chance_each = omega (arith, length-set agree.chances g chance);
      sound = sound-set ws g units agree.sound l fits;
      fresh = with-sum-fresh worked net (set-fresh ws g units l agree.sound.workable.net agree.fresh);
      held = with-sum-net worked kinds chances ∙ set-net ws g units l kinds chances ∙ entry;
      converted =
          with-sum-converted worked chance_scale chances
          (set-converted chance_scale ws agree.chances g chance agree.sound.workable.net l (omega arith) agree.converted);
      chances_fit =
          λ j k.
          by_cases (ℕ_discrete j g)
          (λ e.
          subst (λ (t : ℕ). get_or chances t 0 ≤ chance_scale) (sym e)
          (subst (λ (c : ℕ). c ≤ chance_scale) (sym (get_or-set_same agree.chances g chance 0 (omega arith))) (flip-chance-at-most kind field accepted)))
          (λ other.
          subst (λ (c : ℕ). c ≤ chance_scale) (sym (get_or-set_other agree.chances g j chance 0 other)) (agree.chances_fit j (omega arith)));
      honest =
          λ j k.
          by_cases (ℕ_discrete j g)
          (λ e.
          subst (λ (t : ℕ). get_or kinds t 0 ≡ 0 → get_or chances t 0 ≡ 0) (sym e)
          (λ none.
          get_or-set_same agree.chances g chance 0 (omega arith)
          ∙ never-chance kind field (sym (get_or-set_same agree.kinds g kind 0 (omega arith)) ∙ none)))
          (λ other none.
          get_or-set_other agree.chances g j chance 0 other
          ∙ agree.honest j (omega arith) (sym (get_or-set_other agree.kinds g j kind 0 other) ∙ none));
      same_pattern = with-sum-pattern worked ∙ set-pattern ws g units l ∙ agree.same_pattern;
      single =
          subst SingleReaders entry
          (same-single-readers ws agree.kinds agree.chances kinds chances (subst SingleReaders (sym agree.held) agree.single));
    }

pub shown-set : (g kind : ℕ) (field : List ℕ) → Shown (set_flip g kind field)
shown-set g kind field =
    shown-lent (set_flip g kind field) (λ ws. refl) (λ b size. refl)
    (record {
      agrees =
          λ size ws b agree e.
          let both = set-fine (inputs ws) (gates ws) (outputs ws) g kind field e in
          flip-set g kind field size ws b agree both.0 both.1 both.2;
      answers = λ size ws b agree e. tt;
    })

-- ---- reads

untouched : {call : Call} → ((ws : List ℕ) (b : Book) → (work ws call ≡ ws) × (entered b call ≡ b))
    → ((size : ℕ) (ws : List ℕ) (b : Book) → Agree size ws b → AnswerKept ws b call) → Lent call
untouched same answer =
    record {
      agrees = λ size ws b agree e. let s = same ws b in rw (s.0, s.1) agree;
      answers = λ size ws b agree e. answer size ws b agree;
    }

pub shown_read : Shown read_netlist
shown_read = shown-lent read_netlist (λ ws. refl) (λ b size. refl) (untouched (λ ws b. (refl, refl)) (λ size ws b agree. tt))

pub shown-read-gate : (g : ℕ) → Shown (read_gate g)
shown-read-gate g = shown-lent (read_gate g) (λ ws. refl) (λ b size. refl) (untouched (λ ws b. (refl, refl)) (λ size ws b agree. tt))

-- no live gate of the book's netlist is shared, so either method has the counts of its flips
counted : (method : Method) (patterns : List ℕ) (size : ℕ) (ws : List ℕ) (b : Book) → Agree size ws b
    → seen_counts method (net_of ws [] []) patterns ≡ seen_counts Flip b.net patterns
counted method patterns size ws b agree =
    let kinds = agree.kinds in
    let chances = agree.chances in
    let single = same-single-readers ws kinds chances [] [] (subst SingleReaders (sym agree.held) agree.single) in
    agreeing-counts (net_of ws [] []) (sound-pins ws [] [] agree.sound.workable.net) single method patterns
    ∙ same-flip-counts ws [] [] kinds chances patterns
    ∙ ap (λ (net : Netlist). seen_counts Flip net patterns) agree.held

pub shown-counts : (method : Method) (patterns : List ℕ) (slots : ℕ) → Shown (count_seen method patterns slots)
shown-counts method patterns slots =
    shown-lent (count_seen method patterns slots) (λ ws. refl) (λ b size. refl) (untouched (λ ws b. (refl, refl)) (counted method patterns))

pub shown-write : (room : ℕ) → Shown (write_image room)
shown-write room = shown-lent (write_image room) (λ ws. refl) (λ b size. refl) (untouched (λ ws b. (refl, refl)) image-kept)

-- ---- the average: the figure words were worked out before it, and are again

pub shown-average : (weights : List ℕ) → Shown (take_average weights)
unfolding argument_judgement
shown-average weights =
    shown-lent (take_average weights) (λ ws. refl) (λ b size. refl)
    (record {
      agrees =
          λ size ws b agree e. subst (λ (vs : List ℕ). Agree size vs b) (sym (fresh-fixed ws agree.sound.workable.net agree.fresh)) agree;
      answers =
          λ size ws b agree e.
          let fit = weights-fine (inputs ws) weights e in
          (average-within size ws b agree weights fit, average-sharp size ws b agree weights fit);
    })
