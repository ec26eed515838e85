-- The words of an area agree with a book; and where they do, word 4 is within the bound. Assumes nothing.
use Prim.Native.Nat.{ℕ, ◌≤◌, ◌<◌}
use mathlib.Core.Bool.{Bool}
use mathlib.Core.List.{List}
use mathlib.Core.Path.{◌≡◌, sym, ap, subst, ◌∙◌}
use native.Mathlib.Omega.{arith}
use lib.ListN.{length, get_or}
use borrow.Author.Tests.{le-leb}
use Rattle.rounding.specs.Rounding.{units_in_one}
use Rattle.chance.specs.Number.{chance_scale}
use Rattle.chance.proofs.Exact.{scale-pos}
use Rattle.netlist.specs.Netlist.{Netlist}
use Rattle.netlist.specs.WellFormed.{WellFormed}
use Rattle.netlist.specs.Live.{SingleReaders}
use Rattle.netlist.specs.Sum.{raw_flip_sum}
use Rattle.bound.specs.Sharp.{KindsHonest}
use Rattle.bound.proofs.Average.{reliability-bound, sharp-bound}
use Rattle.area.specs.Layout.{inputs, gates, pattern, needed, outputs}
use Rattle.area.specs.Rules.{Sound, NetSound, room_judgement}
use Rattle.area.specs.Net.{net_of}
use Rattle.area.specs.Sum.{flip_sum, low_bits, high_bits}
use Rattle.area.proofs.Sum.{sum-held}
use Rattle.area.proofs.Net.{sound-net, gate_count, gate-at}
use Rattle.fresh.specs.Fresh.{Fresh, Converted}
use Rattle.book.specs.Book.{Book}
use Rattle.book.specs.Statement.{WithinBound, WithinSharp, Current}
use Rattle.refusal.specs.Judgement.{Fine}
use Rattle.refusal.specs.Judgement.{refuse_unless}
use Rattle.fresh.specs.Statements.{FiguresHeld}
use Rattle.fresh.proofs.Statements.{fresh-holds-netlist}
use Rattle.area.proofs.Words.{output_count}
use Rattle.refusal.specs.declared.Cause.TheVariants.{AreaTooShort}

-- the area has `size` words; beside the kinds and chances, which they do not hold, they have the book's netlist and pattern, and its figures are worked out
pub record Agree (size : ℕ) (ws : List ℕ) (b : Book) : Type 0 where
  pub long : length ws ≡ size
  pub kinds : List ℕ
  pub chances : List ℕ
  pub kind_each : gates ws ≤ length kinds
  pub chance_each : gates ws ≤ length chances
  pub sound : Sound ws
  pub fresh : Fresh ws
  pub held : net_of ws kinds chances ≡ b.net
  pub converted : Converted chance_scale ws chances
  pub chances_fit : (j : ℕ) → j < gates ws → get_or chances j 0 ≤ chance_scale
  pub honest : (j : ℕ) → j < gates ws → get_or kinds j 0 ≡ 0 → get_or chances j 0 ≡ 0
  pub same_pattern : pattern ws ≡ b.pattern
  pub single : SingleReaders b.net

module _ (size : ℕ) (ws : List ℕ) (b : Book) (agree : Agree size ws b) where
  net : NetSound ws
  net = agree.sound.workable.net

  pub same-input-count : inputs ws ≡ b.net.inputs
  same-input-count = ap (λ (held : Netlist). held.inputs) agree.held

  pub same-gate-count : gates ws ≡ length b.net.gates
  same-gate-count = sym (gate_count ws agree.kinds agree.chances) ∙ ap (λ (held : Netlist). length held.gates) agree.held

  pub same-output-count : outputs ws ≡ length b.net.outputs
  same-output-count = sym (output_count ws net) ∙ ap (λ (held : Netlist). length held.outputs) agree.held

  -- the area has room for the book's netlist
  pub room : room_judgement (length b.net.gates) (length b.net.outputs) size ≡ Fine
  room =
      let fits : needed (length b.net.gates) (length b.net.outputs) ≤ size
      = omega (arith, net.long, same-gate-count, same-output-count, agree.long) in
      ap (λ (c : Bool). refuse_unless c AreaTooShort 0) (le-leb _ _ fits)

  pub well-formed : WellFormed chance_scale b.net
  well-formed = subst (WellFormed chance_scale) agree.held (sound-net chance_scale ws agree.kinds agree.chances net agree.chances_fit)

  -- a gate of kind 0 has chance 0
  pub kinds-honest : KindsHonest b.net
  kinds-honest = subst KindsHonest agree.held of_words
    where
      of_words : KindsHonest (net_of ws agree.kinds agree.chances)
      of_words j l =
          let inside : j < gates ws = omega (arith, gate_count ws agree.kinds agree.chances) in
          rw (gate-at ws agree.kinds agree.chances j inside) (agree.honest j inside)

  pub figures-held : FiguresHeld chance_scale b.net b.pattern ws
  figures-held =
      subst (λ (q : ℕ). FiguresHeld chance_scale b.net q ws) agree.same_pattern
      (subst (λ (held : Netlist). FiguresHeld chance_scale held (pattern ws) ws) agree.held
      (fresh-holds-netlist chance_scale ws agree.kinds agree.chances agree.sound agree.fresh agree.converted))

  sum_is : flip_sum ws ≡ raw_flip_sum units_in_one chance_scale b.net
  sum_is =
      sum-held units_in_one chance_scale ws agree.kinds agree.chances agree.converted.flips
      ∙ ap (raw_flip_sum units_in_one chance_scale) agree.held

  pub current : Current ws b
  current =
      record {
        within =
            subst (λ (units : ℕ). WithinBound units b) (sym figures-held.product)
            (reliability-bound units_in_one chance_scale (omega arith) scale-pos b.net well-formed agree.single b.pattern);
        sharp =
            subst (λ (units : ℕ). WithinSharp units b) (sym figures-held.product)
            (sharp-bound units_in_one chance_scale (omega arith) scale-pos b.net well-formed agree.single kinds-honest b.pattern);
        figures = figures-held;
        sum = record { low = agree.sound.sum.low ∙ ap low_bits sum_is; high = agree.sound.sum.high ∙ ap high_bits sum_is };
      }
