-- `resolve::find_word` meets its contract. Assumes nothing.
use Prim.Native.Nat.{ℕ}
use mathlib.Core.Path.{◌≡◌, ap, ◌∙◌}
use mathlib.Core.List.{List}
use Rattle.names.specs.Names.{before}
use Rattle.resolve.proofs.Lookup.{before-low}
use lib.ListN.{get_or, drop}
use Rattle.texts.specs.Words.{word_of}
use Rattle.resolve.proofs.find_word.Goals as goal

pub returns : goal.returns
returns c =
    let a = c.args in
    let e : c.find.result ≡ before a.words.now.text.now a.names.now.starts.now (word_of (drop (get_or a.words.now.starts.now a.k 0) a.words.now.text.now)) 0 a.names.now.count =
    rw c.requires.defined.same_text at c.find.ensures ∙ ap (λ (w : List ℕ). before a.words.now.text.now a.names.now.starts.now w 0 a.names.now.count) c.word.ensures in
    (e, rw e (before-low a.words.now.text.now a.names.now.starts.now _ 0 a.names.now.count))
