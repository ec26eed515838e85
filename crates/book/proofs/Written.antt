-- What is written from an area that agrees with a book holds the book's netlist, and opens again, to its words at pattern 0. Assumes nothing.
use Prim.Native.Nat.{ℕ, ◌+◌, ◌/◌, ◌%◌, ◌^◌, ◌≤◌}
use mathlib.Core.List.{List, []}
use mathlib.Core.Path.{◌≡◌, refl, sym, ap, ap₂, ◌∙◌}
use native.Mathlib.Omega.{arith}
use lib.ListN.{length}
use borrow.Author.Tests.{le-leb}
use Rattle.refusal.specs.Judgement.{Fine}
use Rattle.refusal.proofs.Laws.{fine-lowest, otherwise-second}
use Rattle.rules.proofs.Sound.{sound-passes}
use Rattle.netlist.specs.Netlist.{Netlist}
use Rattle.netlist.specs.Live.{readers, SingleReaders}
use Rattle.area.specs.Layout.{inputs, gates, outputs, pattern, needed}
use Rattle.area.specs.Net.{net_of}
use Rattle.area.specs.Rules.{room_judgement, area_judgement}
use Rattle.live.specs.Shared.{gate_shared, shared_judgement}
use Rattle.live.proofs.Shared.{shared_same}
use Rattle.image.specs.Image.{image_length}
use Rattle.calls.specs.Judgements.{open_judgement}
use Rattle.calls.proofs.Judgements.{fine-room}
use Rattle.records.proofs.Length.{image-bytes}
use Rattle.written.specs.Image.{area_contents, area_image}
use Rattle.written_opened.specs.Statements.{needed_words, in_units, ListsOnes}
use Rattle.written_opened.proofs.Holds.{holds-sound}
use Rattle.written_opened.proofs.RoundTrip.{written-opened, written-judged, written_twice}
use Rattle.written_opened.proofs.Turned.{turned-by-toggles}
use Rattle.book.specs.Book.{Book}
use Rattle.book.specs.Statement.{ImageKept}
use Rattle.book.proofs.Agree.{Agree, same-input-count, same-gate-count, same-output-count}

-- no gate has two live readers: no refusal 9
single-fine : (net : Netlist) → SingleReaders net → shared_judgement net ≡ Fine
unfolding shared_judgement SingleReaders
single-fine net single =
    fine-lowest (gate_shared (readers net) net.inputs) (length net.gates) (λ j here. rw (le-leb (readers net (net.inputs + j)) 1 (single j here)) refl)

module _ (size : ℕ) (ws : List ℕ) (b : Book) (agree : Agree size ws b) where
  fine : area_judgement ws ≡ Fine
  fine = sound-passes ws agree.sound

  gate-many : gates ws ≡ length b.net.gates
  gate-many = same-gate-count size ws b agree

  output-many : outputs ws ≡ length b.net.outputs
  output-many = same-output-count size ws b agree

  room-is : (long : ℕ) → needed (length b.net.gates) (length b.net.outputs) ≤ long → needed_words ws ≤ long
  room-is long l = omega (arith, gate-many, output-many)

  shared : shared_judgement (net_of ws [] []) ≡ Fine
  shared = shared_same ws [] [] agree.kinds agree.chances ∙ ap shared_judgement agree.held ∙ single-fine b.net agree.single

  accepted : (long : ℕ) → needed_words ws ≤ long → open_judgement (area_image ws) long ≡ Fine
  accepted long l =
      written-judged ws long fine
      ∙ otherwise-second (shared_judgement (net_of ws [] [])) (room_judgement (gates ws) (outputs ws) long) shared
      ∙ fine-room (gates ws) (outputs ws) long l

  ones-are : (is : List ℕ) → ListsOnes b.net.inputs b.pattern is → ListsOnes (inputs ws) (pattern ws) is
  ones-are is ones =
      let many = same-input-count size ws b agree in
      record {
        below = λ i l. omega (arith, many, ones.below i l);
        once = λ i l. ones.once i (omega (arith, many)) ∙ ap (λ (q : ℕ). q / 2 ^ i % 2) (sym agree.same_pattern);
      }

  pub image-kept : ImageKept ws b
  image-kept =
      record {
        long = image-bytes (area_contents ws) ∙ ap₂ image_length gate-many output-many;
        holds = holds-sound ws agree.kinds agree.chances agree.sound agree.converted ∙ ap in_units agree.held;
        accepted = λ long l. accepted long (room-is long l);
        opened = λ us l. written-opened ws us fine (room-is (length us) l);
        turned = λ is ones. turned-by-toggles ws is fine agree.fresh (ones-are is ones);
        again = λ us l. written_twice ws us fine (room-is (length us) l);
      }
