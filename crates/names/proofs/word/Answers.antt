-- `names::word` meets its contract. Assumes nothing.
use Prim.Native.Nat.{◌-◌}
use mathlib.Core.Path.{◌≡◌}
use native.Mathlib.Omega.{arith}
use lib.ListN.{length, drop, length-drop}
use Rattle.texts.specs.Words.{word_of}
use Rattle.names.proofs.Names.{word-front, word-short}
use Rattle.names.proofs.word.Goals as goal

pub slice_bounds-result-end : goal.slice_bounds-result-end
slice_bounds-result-end c =
    let a = c.args in
    omega (arith, c.word_end-end.ensures, word-short (drop a.start a.text.now), length-drop a.start a.text.now, c.requires)

pub returns : goal.returns
returns c =
    let a = c.args in
    let long : c.word_end-end.result - a.start ≡ length (word_of (drop a.start a.text.now)) = omega (arith, c.word_end-end.ensures) in
    rw long (word-front (drop a.start a.text.now))
