-- What opening leaves of an image that was written from an area: a sound and fresh area at pattern 0 that holds what was written. Assumes nothing.
use Prim.Native.Nat.{ℕ, ◌+◌, ◌-◌, ◌≤◌, ◌<◌}
use mathlib.Core.List.{List, ◌++◌}
use mathlib.Core.Path.{◌≡◌, sym, ap, ap₂, ◌∙◌}
use native.Mathlib.Omega.{arith}
use lib.ListN.{length, get_or, drop, length-append, length-drop}
use lib.Seq.{get_or-append-add, get_or-drop, ext_get_or}
use Rattle.lists.proofs.Joined.{length-listed, listed_at}
use Rattle.area.specs.Layout.{outputs, pattern, output_words, needed}
use Rattle.area.specs.Rules.{Workable, Sound}
use Rattle.area.specs.Sum.{with_sum}
use Rattle.area.proofs.Words.{output-at, output_count}
use Rattle.image.specs.Image.{image_gates, image_outputs, middle, output_at}
use Rattle.image.specs.Loading.{image_words, output_list}
use Rattle.image.proofs.Middle.{length-words}
use Rattle.image.proofs.Words.{head-inputs, head-gates, head-outputs, head-pattern, outputs-held, gate-held}
use Rattle.image.proofs.Sound.{loaded-workable, loaded-reserved}
use Rattle.work.specs.Work.{work_all}
use Rattle.work.proofs.Frame.{SameFrame, same_inputs, same_gates, same_outputs, same-pin-count, same_table, same_pins, same-output-words, same-reserved}
use Rattle.work.proofs.Frame.{past-kept, same-trans, same-work-all, work-all-pattern, work-all-flip}
use Rattle.work.proofs.Sound.{workable-work-all, sound-with-sum}
use Rattle.fresh.specs.Fresh.{Fresh}
use Rattle.fresh.proofs.WorkAll.{work-all-fresh}
use Rattle.fresh.proofs.Calls.{same-with-sum, with-sum-fresh, with-sum-flip, with-sum-pattern}
use Rattle.calls.specs.Calls.{open_words}
use Rattle.written.specs.Image.{area_image}
use Rattle.written.specs.Statements.{SameWritten}
use Rattle.written.proofs.Laws.{written-sound, four-pins}
use Rattle.written_opened.specs.Statements.{needed_words}

-- the outputs that an image's words hold, whatever follows them
pub read-outputs : (ws : List ℕ) → Sound ws → (rest : List ℕ) → output_words (image_words (area_image ws) ++ rest) ≡ output_words ws
read-outputs ws s rest =
    let bs = area_image ws in
    let read = (written-sound ws s).read_back in
    let words = output_at (middle bs) (image_gates bs) in
    outputs-held bs rest
    ∙ ext_get_or 0 (output_list (middle bs) (image_gates bs) (image_outputs bs)) (output_words ws)
    (length-listed words (image_outputs bs) ∙ read.outputs ∙ sym (output_count ws s.workable.net))
    (λ k l.
    let there : k < image_outputs bs = omega (arith, length-listed words (image_outputs bs)) in
    let here : k < outputs ws = omega (arith, read.outputs) in
    listed_at words (image_outputs bs) k there
    ∙ ap (λ (g : ℕ). output_at (middle bs) g k) read.gates
    ∙ read.output k here
    ∙ output-at ws k here)

module _ (ws us : List ℕ) (s : Sound ws) (room : needed_words ws ≤ length us) where
  abbrev bs : List ℕ
  bs = area_image ws

  abbrev rest : List ℕ
  rest = drop (needed (image_gates bs) (image_outputs bs)) us

  abbrev loaded : List ℕ
  loaded = image_words bs ++ rest

  abbrev worked : List ℕ
  worked = work_all loaded

  abbrev opened : List ℕ
  opened = with_sum worked

  frame : SameFrame loaded opened
  frame = same-trans loaded worked opened (same-work-all loaded) (same-with-sum worked)

  many : needed (image_gates bs) (image_outputs bs) ≡ needed_words ws
  many = let w = written-sound ws s in ap₂ needed w.read_back.gates w.read_back.outputs

  workable : Workable loaded
  workable = loaded-workable bs rest (written-sound ws s).passes

  ready : Workable worked
  ready = workable-work-all loaded workable

  pub opened-sound : Sound (open_words (area_image ws) us)
  unfolding open_words
  opened-sound = sound-with-sum worked ready (same-reserved loaded worked (same-work-all loaded) ∙ loaded-reserved bs rest)

  pub opened-fresh : Fresh (open_words (area_image ws) us)
  unfolding open_words
  opened-fresh = with-sum-fresh worked ready.net (work-all-fresh loaded workable.net)

  pub opened-pattern : pattern (open_words (area_image ws) us) ≡ 0
  unfolding open_words
  opened-pattern = with-sum-pattern worked ∙ work-all-pattern loaded ∙ head-pattern bs rest

  pub opened-long : length (open_words (area_image ws) us) ≡ length us
  unfolding open_words
  opened-long =
      frame.size
      ∙ omega (
        arith,
        length-append (image_words bs) rest,
        length-words bs,
        length-drop (needed (image_gates bs) (image_outputs bs)) us,
        many,
        room,
      )

  pub opened-written : SameWritten (open_words (area_image ws) us) ws
  unfolding open_words
  opened-written =
      let w = written-sound ws s in
      let read = w.read_back in
      let many-outputs : outputs opened ≡ outputs ws = same_outputs loaded opened frame ∙ head-outputs bs rest ∙ read.outputs in
      record {
        same_inputs = same_inputs loaded opened frame ∙ head-inputs bs rest ∙ read.inputs;
        same_gates = same_gates loaded opened frame ∙ head-gates bs rest ∙ read.gates;
        same_outputs = many-outputs;
        same_gate = λ j here.
            let held = gate-held bs rest j (omega (arith, read.gates)) in
            let gate = read.gate j here in
            record {
              same_count = same-pin-count loaded opened frame j ∙ held.same_count ∙ gate.count;
              same_table = same_table loaded opened frame j ∙ held.same_table ∙ gate.table;
              same_pins = same_pins loaded opened frame j ∙ held.same_pins ∙ gate.pins ∙ four-pins ws j;
              same_flip = with-sum-flip worked j ∙ work-all-flip loaded j ∙ held.same_units ∙ w.units j here;
            };
        same_output = λ k here.
            output-at opened k (omega (arith, many-outputs))
            ∙ ap (λ (os : List ℕ). get_or os k 0) (same-output-words loaded opened frame ∙ read-outputs ws s rest)
            ∙ sym (output-at ws k here);
      }

  -- past the words needed stands what stood there
  pub opened-past : (i : ℕ) → needed_words ws ≤ i → get_or (open_words (area_image ws) us) i 0 ≡ get_or us i 0
  unfolding open_words
  opened-past i l =
      let long = length-words bs in
      let there : i ≡ length (image_words bs) + (i - needed_words ws) = omega (arith, long, many) in
      let back : needed (image_gates bs) (image_outputs bs) + (i - needed_words ws) ≡ i = omega (arith, many) in
      past-kept loaded opened frame i (omega (arith, head-gates bs rest, head-outputs bs rest, many))
      ∙ ap (λ (x : ℕ). get_or loaded x 0) there
      ∙ get_or-append-add (image_words bs) rest (i - needed_words ws) 0
      ∙ get_or-drop (needed (image_gates bs) (image_outputs bs)) us (i - needed_words ws) 0
      ∙ ap (λ (x : ℕ). get_or us x 0) back
