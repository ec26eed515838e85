-- `blif::read_blif` meets its contract. Assumes nothing.
use Prim.Native.Nat.{◌+◌}
use mathlib.Core.Path.{refl, sym, ◌∙◌}
use lib.ListN.{length}
use Rattle.blif.specs.Reading.{model_length, image_over}
use Rattle.blif.proofs.Chain.{stops, goes_on}
use Rattle.texts.specs.Words.{line_feeds}
use Rattle.statements.specs.declared.Phase.TheVariants.{Before}
use Rattle.statements.specs.Fit.{fault}
use Rattle.blif.specs.Reading.{text_lines, lines_refusal}
use Rattle.blif.proofs.Text.{too_long, not-long, same_lines, words, some_word, same-fault, fits}
use Rattle.blif.proofs.read_blif.Goals as goal

pub returns-then-text-gt-MOST_BYTES : goal.returns-then-text-gt-MOST_BYTES
returns-then-text-gt-MOST_BYTES c =
    let a = c.args in rw (too_long a.text.now (length a.image.now) c.if-text-gt-MOST_BYTES.true) (record { value = refl; image_after = refl })

pub read_model-requires : goal.read_model-requires
read_model-requires c =
    let at-read-words = c.read_words-found in
    let fine = sym c.fault.ensures ∙ c.in_ok-fault.was in record { words = (words at-read-words.ensures, some_word at-read-words.ensures fine); fitting = fits at-read-words.ensures fine }

pub returns : goal.returns
returns c =
    let at-read-words = c.read_words-found in
    let a = c.args in
    let fine = sym c.fault.ensures ∙ c.in_ok-fault.was in
    let e = rw (same_lines at-read-words.ensures) at c.read_model.ensures in rw (not-long a.text.now (length a.image.now) c.if-text-gt-MOST_BYTES.false)
    (let all = goes_on (fault Before (text_lines a.text.now) (1 + line_feeds a.text.now)) (lines_refusal (text_lines a.text.now) (length a.image.now)) (model_length (text_lines a.text.now)) (image_over (text_lines a.text.now) a.image.now) a.image.now _ _
    (sym (same-fault at-read-words.ensures) ∙ fine) (e.value, e.image_after) in record { value = all.0; image_after = all.1 })

pub returns-in_err-fault : goal.returns-in_err-fault
returns-in_err-fault c =
    let at-read-words = c.read_words-found in
    let a = c.args in rw (not-long a.text.now (length a.image.now) c.if-text-gt-MOST_BYTES.false)
    (let all = stops (fault Before (text_lines a.text.now) (1 + line_feeds a.text.now)) (lines_refusal (text_lines a.text.now) (length a.image.now)) (model_length (text_lines a.text.now)) _ (image_over (text_lines a.text.now) a.image.now) a.image.now _
    (sym (same-fault at-read-words.ensures) ∙ sym c.fault.ensures ∙ c.in_err-fault.was) c.from_residual.ensures.1 in record { value = all.0; image_after = all.1 })
