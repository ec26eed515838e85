-- Opening what was written from an area gives its words at pattern 0, and writing them again the same bytes. Assumes nothing.
use Prim.Native.Nat.{ℕ, ◌+◌, ◌-◌, ◌≤◌, ◌<◌}
use mathlib.Core.List.{List, [], ◌++◌}
use mathlib.Core.Path.{◌≡◌, sym, ap, ap₂, ◌∙◌}
use native.Mathlib.Omega.{arith}
use lib.ListN.{length, get_or, take, drop, set, length-append, length-take, length-drop, get_or-append}
use lib.Pow.{pow_pos}
use lib.Seq.{get_or-append-add, get_or-take, get_or-drop, get_or-set_same, get_or-set_other}
use Rattle.rules.proofs.Sound.{sound, sound-passes}
use Rattle.area.specs.Layout.{inputs, gates, pattern_index, pattern, flip_index, flip}
use Rattle.area.specs.Net.{net_of}
use Rattle.area.specs.Rules.{NetSound, Sound}
use Rattle.area.proofs.Net.{same-net}
use Rattle.area.proofs.Words.{output-at}
use Rattle.live.specs.Shared.{shared_judgement}
use Rattle.live.proofs.Shared.{shared_same}
use Rattle.image.specs.Loading.{image_words, image_kinds, image_chances}
use Rattle.image.specs.Netlist.{image_net}
use Rattle.image.proofs.Netlist.{image-net}
use Rattle.image.proofs.Words.{head-inputs, head-gates, gate-held}
use Rattle.work.proofs.Frame.{SameFrame, same_inputs, same_gates, same_outputs, same-pin-count, same_table, same_pins, same-output-words}
use Rattle.work.proofs.Frame.{same-trans, same-store-pattern, same-work-all, work-all-flip, work-all-pattern}
use Rattle.work.specs.Work.{work_all}
use Rattle.work.proofs.Sound.{sound-store-pattern, sound-work-all}
use Rattle.fresh.specs.Fresh.{Fresh}
use Rattle.fresh.proofs.WorkAll.{work-all-fresh}
use Rattle.fresh.proofs.Unique.{SameHeld, fresh-unique}
use Rattle.calls.specs.Judgements.{open_judgement}
use Rattle.calls.specs.Calls.{open_words}
use Rattle.written.specs.Image.{area_image}
use Rattle.written.specs.Statements.{SameWritten}
use Rattle.written.proofs.Laws.{written-sound, same_bytes, four-pins}
use Rattle.written_opened.specs.Statements.{needed_words, words_over, at_pattern_zero, WrittenOpened, WrittenJudged, WrittenTwice}
use Rattle.written_opened.proofs.Past.{written-outputs, past-sound, past-fresh, past-written}
use Rattle.written_opened.proofs.Opened.{read-outputs, opened-sound, opened-fresh, opened-pattern, opened-long, opened-written, opened-past}

-- ---- words over those of another area

module _ (ws us : List ℕ) (inside : needed_words ws ≤ length ws) (room : needed_words ws ≤ length us) where
  abbrev n : ℕ
  n = needed_words ws

  first : length (take n ws) ≡ n
  first = omega (arith, length-take n ws, inside)

  over-long : length (words_over ws us) ≡ length us
  over-long = omega (arith, length-append (take n ws) (drop n us), first, length-drop n us, room)

  over-low : (i : ℕ) → i < n → get_or (words_over ws us) i 0 ≡ get_or ws i 0
  over-low i l = get_or-append (take n ws) (drop n us) 0 i (omega (arith, first)) ∙ get_or-take n ws i 0 l

  over-high : (i : ℕ) → n ≤ i → get_or (words_over ws us) i 0 ≡ get_or us i 0
  over-high i l =
      let there : i ≡ length (take n ws) + (i - n) = omega (arith, first) in
      let back : n + (i - n) ≡ i = omega arith in
      ap (λ (x : ℕ). get_or (words_over ws us) x 0) there
      ∙ get_or-append-add (take n ws) (drop n us) (i - n) 0
      ∙ get_or-drop n us (i - n) 0
      ∙ ap (λ (x : ℕ). get_or us x 0) back

-- ---- an area that is fresh at pattern 0 is what opening gives

module _ (ws us : List ℕ) (s : Sound ws) (room : needed_words ws ≤ length us) (fresh : Fresh ws) (at_zero : pattern ws ≡ 0) where
  abbrev over : List ℕ
  over = words_over ws us

  abbrev now : List ℕ
  now = open_words (area_image ws) us

  inside : needed_words ws ≤ length ws
  inside = s.workable.net.long

  roomy : needed_words ws ≤ length over
  roomy = omega (arith, over-long ws us inside room, room)

  over-sound : Sound over
  over-sound = past-sound ws over s roomy (over-low ws us inside room)

  over-fresh : Fresh over
  over-fresh = past-fresh ws over s roomy (over-low ws us inside room) fresh

  over-written : SameWritten over ws
  over-written = past-written ws over s roomy (over-low ws us inside room)

  held : SameHeld over now
  held =
      let a = opened-written ws us s room in
      let b = over-written in
      let net = s.workable.net in
      let here : (j : ℕ) → j < gates over → j < gates ws = λ j l. omega (arith, b.same_gates) in
      record {
        size = opened-long ws us s room ∙ sym (over-long ws us inside room);
        input_count = a.same_inputs ∙ sym b.same_inputs;
        gate_count = a.same_gates ∙ sym b.same_gates;
        output_count = a.same_outputs ∙ sym b.same_outputs;
        pin_counts = λ j l. (a.same_gate j (here j l)).same_count ∙ sym (b.same_gate j (here j l)).same_count;
        tables = λ j l. (a.same_gate j (here j l)).same_table ∙ sym (b.same_gate j (here j l)).same_table;
        gate_pins = λ j l. (a.same_gate j (here j l)).same_pins ∙ sym (b.same_gate j (here j l)).same_pins;
        output_sources =
            written-outputs now ws (opened-sound ws us s room).workable.net net a ∙ sym (written-outputs over ws over-sound.workable.net net b);
        past = λ i l.
            let from : needed_words ws ≤ i = omega (arith, b.same_gates, b.same_outputs) in
            opened-past ws us s room i from ∙ sym (over-high ws us inside room i from);
      }

  opened-again : open_words (area_image ws) us ≡ words_over ws us
  opened-again =
      let a = opened-written ws us s room in
      let b = over-written in
      fresh-unique over now over-sound (opened-sound ws us s room) over-fresh (opened-fresh ws us s room) held
      (λ j l.
      let here : j < gates ws = omega (arith, b.same_gates) in
      (a.same_gate j here).same_flip ∙ sym (b.same_gate j here).same_flip)
      (opened-pattern ws us s room ∙ sym (over-low ws us inside room pattern_index (omega arith) ∙ at_zero))

-- ---- any area, by way of pattern 0

-- areas of one frame and the same flips are written alike
pub frame-written : (ws vs : List ℕ) → NetSound ws → SameFrame ws vs → ((j : ℕ) → j < gates ws → flip vs j ≡ flip ws j) → SameWritten vs ws
frame-written ws vs net same flips =
    let many = same_outputs ws vs same in
    record {
      same_inputs = same_inputs ws vs same;
      same_gates = same_gates ws vs same;
      same_outputs = many;
      same_gate = λ j here.
          record {
            same_count = same-pin-count ws vs same j;
            same_table = same_table ws vs same j;
            same_pins = same_pins ws vs same j;
            same_flip = flips j here;
          };
      same_output = λ k here.
          output-at vs k (omega (arith, many)) ∙ ap (λ (os : List ℕ). get_or os k 0) (same-output-words ws vs same) ∙ sym (output-at ws k here);
    }

module _ (ws : List ℕ) (s : Sound ws) where
  abbrev stored : List ℕ
  stored = set ws pattern_index 0

  stored-sound : Sound stored
  stored-sound = sound-store-pattern ws 0 s (pow_pos (inputs ws))

  pub zero-frame : SameFrame ws (at_pattern_zero ws)
  zero-frame = same-trans ws stored (work_all stored) (same-store-pattern ws 0) (same-work-all stored)

  pub zero-sound : Sound (at_pattern_zero ws)
  zero-sound = sound-work-all stored stored-sound

  pub zero-fresh : Fresh (at_pattern_zero ws)
  zero-fresh = work-all-fresh stored stored-sound.workable.net

  pub zero_pattern : pattern (at_pattern_zero ws) ≡ 0
  zero_pattern = work-all-pattern stored ∙ get_or-set_same ws pattern_index 0 0 (omega (arith, s.workable.net.long))

  pub zero-flip : (j : ℕ) → flip (at_pattern_zero ws) j ≡ flip ws j
  zero-flip j = work-all-flip stored j ∙ get_or-set_other ws pattern_index (flip_index j) 0 0 (λ e. omega arith)

  zero-written : SameWritten (at_pattern_zero ws) ws
  zero-written = frame-written ws (at_pattern_zero ws) s.workable.net zero-frame (λ j here. zero-flip j)

pub written-opened : WrittenOpened
written-opened ws us fine room =
    let s = sound ws fine in
    let same = zero-written ws s in
    ap (λ (bs : List ℕ). open_words bs us) (sym (same_bytes (at_pattern_zero ws) ws same))
    ∙ opened-again (at_pattern_zero ws) us (zero-sound ws s) (omega (arith, same.same_gates, same.same_outputs)) (zero-fresh ws s) (zero_pattern ws s)

pub written_twice : WrittenTwice
written_twice ws us fine room =
    let s = sound ws fine in
    record {
      passes = sound-passes (open_words (area_image ws) us) (opened-sound ws us s room);
      same = same_bytes (open_words (area_image ws) us) ws (opened-written ws us s room);
    }

-- ---- what opening reads and says

same-nets : (ws : List ℕ) → Sound ws → (kinds chances : List ℕ) → net_of (image_words (area_image ws) ++ []) kinds chances ≡ net_of ws kinds chances
same-nets ws s kinds chances =
    let bs = area_image ws in
    let read = (written-sound ws s).read_back in
    same-net (image_words bs ++ []) ws kinds chances
    (record {
      same_inputs = head-inputs bs [] ∙ read.inputs;
      same_gates = head-gates bs [] ∙ read.gates;
      same_pins = λ j here.
          let held = gate-held bs [] j (omega (arith, read.gates)) in
          ap₂ take (held.same_count ∙ (read.gate j here).count) (held.same_pins ∙ (read.gate j here).pins ∙ four-pins ws j);
      same_table = λ j here. (gate-held bs [] j (omega (arith, read.gates))).same_table ∙ (read.gate j here).table;
      same_outputs = read-outputs ws s [];
    })

-- the netlist of the image is that of the words, with the image's kinds and chances
pub written-net : (ws : List ℕ) → Sound ws → image_net (area_image ws) ≡ net_of ws (image_kinds (area_image ws)) (image_chances (area_image ws))
written-net ws s = let bs = area_image ws in sym (image-net bs []) ∙ same-nets ws s (image_kinds bs) (image_chances bs)

pub written-judged : WrittenJudged
unfolding open_judgement
written-judged ws size fine =
    let bs = area_image ws in
    let s = sound ws fine in
    let w = written-sound ws s in
    let shared : shared_judgement (image_net bs) ≡ shared_judgement (net_of ws [] [])
    = ap shared_judgement (written-net ws s) ∙ shared_same ws (image_kinds bs) (image_chances bs) [] [] in
    rw (w.passes, shared, w.read_back.gates, w.read_back.outputs)
