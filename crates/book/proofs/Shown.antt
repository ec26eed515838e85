-- What must be shown of a call so that it can stand in the list; of a call on an open area less, since they are all judged alike. Assumes nothing.
use Prim.Native.Nat.{ℕ}
use mathlib.Core.List.{List}
use mathlib.Core.Path.{◌≡◌, sym, ap, ap₂, ◌∙◌}
use lib.ListN.{length}
use Rattle.refusal.specs.Judgement.{Fine}
use Rattle.refusal.proofs.Laws.{otherwise-fine, otherwise-second, Only, NotRule, only-otherwise}
use Rattle.area.specs.Layout.{inputs, gates, outputs}
use Rattle.area.specs.Rules.{room_judgement}
use Rattle.calls.specs.Judgements.{Call, argument_judgement, lent_judgement, judgement}
use Rattle.calls.specs.Calls.{work}
use Rattle.calls.proofs.Judgements.{lent-sound, only-room, only-arguments}
use Rattle.book.specs.Book.{Book, held_judgement, book_judgement, entered}
use Rattle.book.specs.Statement.{AnswerKept}
use Rattle.book.proofs.Agree.{Agree, same-input-count, same-gate-count, same-output-count, room}

-- it is judged as by the book, which knows no 14; where it is not refused, its words agree with what it enters, and its answer is as promised
pub record Shown (call : Call) : Type 0 where
  pub judged : (size : ℕ) (ws : List ℕ) (b : Book) → Agree size ws b → judgement ws call ≡ book_judgement b size call
  pub only : (b : Book) (size : ℕ) → Only NotRule (book_judgement b size call)
  pub agrees : (size : ℕ) (ws : List ℕ) (b : Book) → Agree size ws b → book_judgement b size call ≡ Fine → Agree size (work ws call) (entered b call)
  pub answers : (size : ℕ) (ws : List ℕ) (b : Book) → Agree size ws b → book_judgement b size call ≡ Fine → AnswerKept ws b call

-- of a call on an open area: what it does where its arguments pass
pub record Lent (call : Call) : Type 0 where
  pub agrees : (size : ℕ) (ws : List ℕ) (b : Book) → Agree size ws b → argument_judgement (inputs ws) (gates ws) (outputs ws) call ≡ Fine
      → Agree size (work ws call) (entered b call)
  pub answers : (size : ℕ) (ws : List ℕ) (b : Book) → Agree size ws b → argument_judgement (inputs ws) (gates ws) (outputs ws) call ≡ Fine → AnswerKept ws b call

module _ (size : ℕ) (ws : List ℕ) (b : Book) (call : Call) (agree : Agree size ws b) where
  -- the counts are the book's
  same-arguments : argument_judgement (inputs ws) (gates ws) (outputs ws) call
      ≡ argument_judgement b.net.inputs (length b.net.gates) (length b.net.outputs) call
  same-arguments =
      ap₂ (λ (n g : ℕ). argument_judgement n g (outputs ws) call) (same-input-count size ws b agree) (same-gate-count size ws b agree)
      ∙ ap (λ (k : ℕ). argument_judgement b.net.inputs (length b.net.gates) k call) (same-output-count size ws b agree)

  lent-judged : lent_judgement ws call ≡ held_judgement b size call
  unfolding held_judgement
  lent-judged =
      lent-sound ws call agree.sound
      ∙ same-arguments
      ∙ sym (otherwise-second (room_judgement (length b.net.gates) (length b.net.outputs) size) _ (room size ws b agree))

  held-passes : held_judgement b size call ≡ Fine → argument_judgement (inputs ws) (gates ws) (outputs ws) call ≡ Fine
  unfolding held_judgement
  held-passes e =
      same-arguments ∙ (otherwise-fine (room_judgement (length b.net.gates) (length b.net.outputs) size) _ e).1

only-held : (b : Book) (size : ℕ) (call : Call) → Only NotRule (held_judgement b size call)
unfolding held_judgement
only-held b size call =
    only-otherwise NotRule _ _
    (only-room (length b.net.gates) (length b.net.outputs) size)
    (only-arguments b.net.inputs (length b.net.gates) (length b.net.outputs) call)

-- so a call that is judged as all of them are, is shown
pub shown-lent : (call : Call) → ((ws : List ℕ) → judgement ws call ≡ lent_judgement ws call)
    → ((b : Book) (size : ℕ) → book_judgement b size call ≡ held_judgement b size call) → Lent call → Shown call
shown-lent call area book lent =
    record {
      judged = λ size ws b agree. area ws ∙ lent-judged size ws b call agree ∙ sym (book b size);
      only = λ b size. rw (book b size) (only-held b size call);
      agrees = λ size ws b agree e. lent.agrees size ws b agree (held-passes size ws b call agree (sym (book b size) ∙ e));
      answers = λ size ws b agree e. lent.answers size ws b agree (held-passes size ws b call agree (sym (book b size) ∙ e));
    }
