-- What is known of the words entered so far while a text is read. Assumes nothing.
use Prim.Native.Nat.{ℕ, ◌+◌, ◌*◌, ◌<◌, ◌≤◌}
use mathlib.Core.Path.{◌≡◌, ◌∙◌}
use mathlib.Core.Bool.{cond}
use mathlib.Core.List.{List, [], ◌++◌, append_assoc}
use native.Mathlib.Omega.{arith}
use lib.ListN.{length, get_or, drop}
use Rattle.texts.specs.Words.{Tables, Noted, step, in_word, begins, words_from, words_of, line_feeds, held}
use Rattle.texts.specs.declared.State.{State}
use Rattle.texts.proofs.Words.{here, words_step, feeds, bound, room}

-- the text before `at` is read, n words of it are entered, and st is the state there
pub record Reading (t s l : List ℕ) (st : State) (at n : ℕ) : Type 0 where
  pub tables : Tables s l
  pub within : at ≤ length t
  pub words : held t s l 0 n ++ words_from st (drop at t) ≡ words_of t
  pub feed : st.here + line_feeds (drop at t) ≡ 1 + line_feeds t
  pub apart : 2 * n ≤ at + cond (in_word st.place) 1 0
  pub low_here : st.here ≤ at + 1
  pub low_line : st.line ≤ at + 1
  pub inside : (k : ℕ) → k < n → get_or s k 0 < length t

module _ (t s l s' l' : List ℕ) (st : State) (at n n' : ℕ) (r : Reading t s l st at n) (more : at < length t) where
  pub turn : (next : State)
      → next ≡ step st (get_or t at 0) (get_or t (at + 1) 0)
      → Noted t s l n (begins st.place next.place) at st.line s' l' n'
      → Reading t s' l' next (at + 1) n'
  turn next e noted =
      let b = bound st.here st.line (get_or t at 0) (get_or t (at + 1) 0) [] st.place (at + 1) r.low_here r.low_line in
      let f = feeds st.here st.line (get_or t at 0) (get_or t (at + 1) 0) (drop (at + 1) t) st.place in
      record {
        tables = noted.tables;
        within = omega arith;
        words = rw (noted.words, append_assoc, e, ← words_step t at more st) r.words;
        feed = rw e (f ∙ (rw (here t at more) at r.feed));
        apart = rw noted.more (room st.place next.place at n r.apart);
        low_here = rw e b.0;
        low_line = rw e b.1;
        inside = noted.inside more r.inside;
      }
