-- Demand 3: whatever must be shown of one call is shown of the whole list. The induction names no call. Assumes nothing.
use Prim.Native.Nat.{ℕ}
use mathlib.Core.List.{List, [], ◌∷◌}
use mathlib.Core.Path.{◌≡◌, refl, sym, subst, ◌∙◌}
use lib.ListN.{length}
use Rattle.refusal.specs.Judgement.{Judgement}
use Rattle.refusal.specs.Judgement.{Fine, refused}
use Rattle.refusal.specs.Judgement.{unless_refused}
use Rattle.calls.specs.Judgements.{Call, open_image, toggle_input, set_flip, read_netlist, read_gate, take_average, count_seen, write_image}
use Rattle.calls.specs.Calls.{open_words, work, left}
use Rattle.book.specs.Book.{Book, image_book, book_judgement, entered, book_step}
use Rattle.book.specs.Statement.{CallKept, Kept, Demand3}
use Rattle.book.proofs.Agree.{Agree, current}
use Rattle.book.proofs.Shown.{Shown}
use Rattle.book.proofs.Open.{opened}
use Rattle.book.proofs.Calls.{shown-open, shown-toggle, shown-set, shown_read, shown-read-gate, shown-average, shown-counts, shown-write}
use Rattle.std.specs.Prelude.{Err}
use Rattle.refusal.specs.declared.Cause.TheVariants.{AreaRule}

-- every call of the list
pub shown : (call : Call) → Shown call
shown (open_image bs) = shown-open bs
shown (toggle_input i) = shown-toggle i
shown (set_flip g kind field) = shown-set g kind field
shown read_netlist = shown_read
shown (read_gate g) = shown-read-gate g
shown (take_average weights) = shown-average weights
shown (count_seen method patterns slots) = shown-counts method patterns slots
shown (write_image room) = shown-write room

module _ (size : ℕ) (ws : List ℕ) (b : Book) (call : Call) (agree : Agree size ws b) where
  pub call_kept : CallKept size ws b call
  call_kept =
      let it = shown call in
      let same = it.judged size ws b agree in
      record {
        judged = same;
        never_14 = λ place e. (it.only b size AreaRule place (sym same ∙ e)).1 refl;
        answer = λ e. it.answers size ws b agree (sym same ∙ e);
      }

  -- refused or not, the words left agree with the book after the call
  pub step-agrees : Agree size (left ws call) (book_step b size call)
  step-agrees =
      subst (λ (v : Judgement). Agree size (unless_refused v (work ws call) ws) (book_step b size call)) (sym ((shown call).judged size ws b agree))
      (go (book_judgement b size call) refl)
    where
      go : (v : Judgement) → book_judgement b size call ≡ v → Agree size (unless_refused v (work ws call) ws) (unless_refused v (entered b call) b)
      go Fine e = (shown call).agrees size ws b agree e
      go (Err why) e = agree

pub list-kept : (size : ℕ) (ws : List ℕ) (b : Book) (calls : List Call) → Agree size ws b → Kept size ws b calls
list-kept size ws b [] agree = current size ws b agree
list-kept size ws b (call ∷ calls) agree = (
  current size ws b agree,
  call_kept size ws b call agree,
  list-kept size (left ws call) (book_step b size call) calls (step-agrees size ws b call agree),
)

pub demand3 : Demand3
demand3 ws bs calls accepted = list-kept (length ws) (open_words bs ws) (image_book bs) calls (opened bs ws accepted)
