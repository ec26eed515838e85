-- Marks on gates: 0 not seen. Gates that are seen lie on a pile until their sources are seen too.
use Rattle.std.specs.Prelude.{ℕ, ◌+◌, ◌-◌, ◌<◌, ◌≤◌, Bool, true, false, ◌≡◌, length, get_or, Option, MatchOption}
use mathlib.Core.List.{List, Memᴰ}
use Rattle.area.specs.Layout.{most_gates}
use Rattle.placing.specs.Placing.{Depends, left}
use Rattle.loops.specs.declared.Search.{Search}

-- how many gates of a table are not seen
unfoldable pub unseen : List ℕ → ℕ
unseen marks = left marks most_gates

-- each of the gates that are not seen has room on the pile
pub record Room (marks pile : List ℕ) (top : ℕ) : Type 0 where
  pub long : length marks ≡ most_gates
  pub deep : length pile ≡ most_gates + 1
  pub free : top + unseen marks ≤ most_gates + 1

-- gate i lies on the pile, at start or above it
pub record Lies (pile : List ℕ) (start top i : ℕ) : Type 0 where
  pub at : ℕ
  pub past : start ≤ at
  pub below : at < top
  pub is : get_or pile at 0 ≡ i

-- the gates among the sources ds are seen too, and those that were not seen before lie on the pile
pub record Marked (n : ℕ) (ds old under : List ℕ) (start : ℕ) (new pile : List ℕ) (top : ℕ) : Type 0 where
  pub room : Room new pile top
  pub rises : start ≤ top
  pub equal : top + unseen new ≡ start + unseen old
  pub seen : (i : ℕ) → 0 < get_or old i 0 → 0 < get_or new i 0
  pub all : (i : ℕ) → Memᴰ (n + i) ds → 0 < get_or new i 0
  pub only : (i : ℕ) → get_or old i 0 ≡ 0 → 0 < get_or new i 0 → Memᴰ (n + i) ds × Lies pile start top i
  pub kept : (p : ℕ) → p < start → get_or pile p 0 ≡ get_or under p 0
  pub added : (p : ℕ) → start ≤ p → p < top → Memᴰ (n + get_or pile p 0) ds

-- the same of a search
abbrev pub HasRoom : Search → Type 0
HasRoom s = Room s.marks.now s.pile.now s.top

abbrev pub MarkedBy : ℕ → List ℕ → Search → Search → Type 0
MarkedBy n ds s t = Marked n ds s.marks.now s.pile.now s.top t.marks.now t.pile.now t.top

-- the gate on top of the pile is taken off, or none lies there
abbrev pub Taken : Search → Option ℕ → Search → Type 0
Taken s r t =
    (t.marks.now ≡ s.marks.now) × (t.pile.now ≡ s.pile.now)
    × MatchOption r (s.top ≡ 0) (λ (gate : ℕ). (0 < s.top) × (t.top ≡ s.top - 1) × (gate ≡ get_or s.pile.now (s.top - 1) 0))

-- gates that do not depend on themselves have entries
abbrev pub Clear : (ℕ → List ℕ) → ℕ → List ℕ → Type 0
Clear S n clear = (i : ℕ) → 0 < get_or clear i 0 → Depends S n i i → ⊥

-- whether a gate depends on itself
pub record Answers (S : ℕ → List ℕ) (n gate : ℕ) (r : Bool) : Type 0 where
  pub right : r ≡ true → Depends S n gate gate
  pub wrong : r ≡ false → Depends S n gate gate → ⊥
