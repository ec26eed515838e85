-- `signals::work_word` meets its contract. Assumes nothing.
use Prim.Native.Nat.{ℕ, ◌+◌}
use mathlib.Core.Path.{◌≡◌, ap, ◌∙◌}
use native.Mathlib.Omega.{arith}
use lib.ListN.{length-set}
use lib.Seq.{get_or-set_same, get_or-set_other}
use Rattle.area.proofs.Words.{few-sources}
use Rattle.area.specs.Layout.{inputs}
use Rattle.signals.specs.Signals.{lane}
use Rattle.signals.proofs.work_word.Goals as goal

pub returns : goal.returns
returns c =
    let at-inputs = c.inputs in
    let at-pin-words = c.pin_words-pins in
    let ws = c.args.area.now in
    let words = c.args.words.now in
    let word = c.gate_answer.result in
    let source : at-inputs.result + c.args.gate ≡ inputs ws + c.args.gate = ap (λ (n : ℕ). n + c.args.gate) at-inputs.ensures in
    let inside = few-sources ws c.requires.0 in
    rw source
    (record {
      long = length-set words (inputs ws + c.args.gate) word ∙ c.requires.2;
      here =
          λ l less.
          ap (lane l) (get_or-set_same words (inputs ws + c.args.gate) word 0 (omega (arith, c.requires.1, c.requires.2)))
          ∙ rw at-pin-words.ensures at (c.gate_answer.ensures l less);
      other = λ t not-here. get_or-set_other words (inputs ws + c.args.gate) t word 0 not-here;
    })
