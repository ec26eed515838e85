-- Counts with a block's ones added gate by gate, in either order, and all blocks of a list. Assumes nothing.
use Prim.Native.Nat.{ℕ, suc, ◌+◌, ◌-◌, ◌^◌, ◌≤◌, ◌<◌}
use mathlib.Core.Bool.{Bool, true, false, cond}
use mathlib.Core.List.{List, [], ◌∷◌, ◌++◌}
use mathlib.Core.Path.{◌≡◌, refl, sym, ap, ap₂, ◌∙◌}
use native.Mathlib.Omega.{arith}
use lib.Count.{ones}
use lib.ListN.{length, get_or, set, drop, length-set, length-append, length-drop, get_or-append}
use lib.Seq.{get_or-set_same, get_or-set_other, get_or-append-add, get_or-drop, ext_get_or}
use Rattle.lists.specs.Lists.{count_where, joined}
use Rattle.lists.proofs.Joined.{length-listed, listed_at}
use Rattle.lists.proofs.Counts.{where-append}
use Rattle.netlist.specs.declared.Method.{Method}
use Rattle.netlist.specs.Netlist.{Netlist}
use Rattle.netlist.specs.Seen.{seen_by, seen_count, seen_counts}
use Rattle.area.specs.Layout.{most_listed}
use Rattle.signals.specs.Signals.{lane_count, InEachLane}
use Rattle.counts.specs.Counts.{in_list, CountsReady, CountsAdded}
use Rattle.counts.proofs.Windows.{is-or-not, by_order}
use Rattle.counts.proofs.Listed.{ones-listed}

module _ (method : Method) (net : Netlist) (patterns old : List ℕ) where
  -- the gates from lo on and before hi are counted
  pub record CountedIn (lo hi : ℕ) (counts : List ℕ) : Type 0 where
    pub long : length counts ≡ length old
    pub inside : (j : ℕ) → lo ≤ j → j < hi → get_or counts j 0 ≡ get_or old j 0 + seen_count method net patterns j
    pub before : (j : ℕ) → j < lo → get_or counts j 0 ≡ get_or old j 0
    pub past : (j : ℕ) → hi ≤ j → get_or counts j 0 ≡ get_or old j 0

  pub counted_none : (k : ℕ) → CountedIn k k old
  counted_none k = record { long = refl; inside = λ j l h. absurd (omega arith); before = λ j h. refl; past = λ j h. refl }

  pub counted-all : (counts : List ℕ) (hi : ℕ) → hi ≡ length net.gates → CountedIn 0 hi counts → CountsAdded method net patterns old counts
  counted-all counts hi e c =
      record { long = c.long; added = λ j l. c.inside j (omega arith) (omega arith); past = λ j l. c.past j (omega arith) }

  module _ (listed : length patterns ≤ lane_count) (lo hi : ℕ) (counts : List ℕ) (c : CountedIn lo hi counts)
      (j word : ℕ) (small : word < 2 ^ 64) (here : j < length old)
      (lanes : InEachLane word (in_list patterns (λ q. seen_by method net q j))) (fresh : get_or counts j 0 ≡ get_or old j 0) where
    abbrev stored : List ℕ
    stored = set counts j (get_or counts j 0 + ones word)

    at : get_or stored j 0 ≡ get_or old j 0 + seen_count method net patterns j
    at =
        get_or-set_same counts j (get_or counts j 0 + ones word) 0 (omega (arith, c.long))
        ∙ ap₂ ◌+◌ fresh (ones-listed (λ q. seen_by method net q j) 64 word patterns small listed lanes)

    other : (k : ℕ) → (k ≡ j → ⊥) → get_or stored k 0 ≡ get_or counts k 0
    other k h = get_or-set_other counts j k (get_or counts j 0 + ones word) 0 h

    -- one gate more at the upper end, and at the lower end
    pub counted-up : j ≡ hi → lo ≤ hi → CountedIn lo (hi + 1) stored
    counted-up e order =
        record {
          long = length-set counts j (get_or counts j 0 + ones word) ∙ c.long;
          inside = λ k l h. is-or-not k j (λ q. rw q at) (λ o. other k o ∙ c.inside k l (below k o h));
          before = λ k h. other k (λ q. omega arith) ∙ c.before k h;
          past = λ k h. other k (λ q. omega arith) ∙ c.past k (omega arith);
        }
      where
        below : (k : ℕ) → (k ≡ j → ⊥) → k < hi + 1 → k < hi
        below k o h = by_order k hi (λ l. l) (λ m. absurd (o (omega arith)))

    pub counted-down : suc j ≡ lo → lo ≤ hi → CountedIn j hi stored
    counted-down e order =
        record {
          long = length-set counts j (get_or counts j 0 + ones word) ∙ c.long;
          inside = λ k l h. is-or-not k j (λ q. rw q at) (λ o. other k o ∙ c.inside k (above k o l) h);
          before = λ k h. other k (λ q. omega arith) ∙ c.before k (omega arith);
          past = λ k h. other k (λ q. omega arith) ∙ c.past k h;
        }
      where
        above : (k : ℕ) → (k ≡ j → ⊥) → j ≤ k → lo ≤ k
        above k o l = by_order k lo (λ h. absurd (o (omega arith))) (λ m. m)

-- ---- block after block

module _ (method : Method) (net : Netlist) (entry : List ℕ) where
  -- these patterns of the list are counted
  pub record CountedOn (patterns counts : List ℕ) : Type 0 where
    pub long : length counts ≡ length entry
    pub counted : (j : ℕ) → j < length net.gates → get_or counts j 0 ≡ seen_count method net patterns j
    pub past : (j : ℕ) → length net.gates ≤ j → get_or counts j 0 ≡ get_or entry j 0

  -- before the first pattern
  pub counted_start : ((j : ℕ) → j < length net.gates → get_or entry j 0 ≡ 0) → CountedOn [] entry
  counted_start none = record { long = refl; counted = none; past = λ j l. refl }

  -- a list has at most as many that pass as it is long
  where-few : (t : ℕ → Bool) (xs : List ℕ) → count_where t xs ≤ length xs
  where-few t [] = omega arith
  where-few t (x ∷ xs) = go (t x) (where-few t xs)
    where
      go : (b : Bool) → count_where t xs ≤ length xs → cond b 1 0 + count_where t xs ≤ suc (length xs)
      go true rest = omega arith
      go false rest = omega arith

  pub counted_ready : (patterns counts : List ℕ) → length patterns ≤ most_listed → length net.gates ≤ length entry → CountedOn patterns counts
      → CountsReady (length net.gates) counts
  counted_ready patterns counts few room c =
      record {
        long = omega (arith, c.long);
        few = λ j l. omega (arith, c.counted j l, where-few (λ q. seen_by method net q j) patterns);
      }

  pub counted-block : (patterns block counts new : List ℕ) → CountedOn patterns counts → CountsAdded method net block counts new
      → CountedOn (patterns ++ block) new
  counted-block patterns block counts new c added =
      record {
        long = added.long ∙ c.long;
        counted = λ j l.
            added.added j l
            ∙ ap (λ (n : ℕ). n + seen_count method net block j) (c.counted j l)
            ∙ sym (where-append (λ q. seen_by method net q j) patterns block);
        past = λ j l. added.past j l ∙ c.past j l;
      }

  -- all patterns: one count a gate, and the entries past them
  pub counted-whole : (patterns counts : List ℕ) → length net.gates ≤ length entry → CountedOn patterns counts
      → counts ≡ seen_counts method net patterns ++ drop (length net.gates) entry
  unfolding seen_counts
  counted-whole patterns counts room c =
      ext_get_or 0 counts whole
      (omega (arith, c.long, length-append listed (drop g entry), length-listed (seen_count method net patterns) g, length-drop g entry))
      (λ i l.
      by_order i g
      (λ h. c.counted i h ∙ sym (here i h))
      (λ h. c.past i h ∙ sym (later i h)))
    where
      g : ℕ
      g = length net.gates

      listed : List ℕ
      listed = joined (λ (j : ℕ). seen_count method net patterns j ∷ []) g

      whole : List ℕ
      whole = listed ++ drop g entry

      here : (i : ℕ) → i < g → get_or whole i 0 ≡ seen_count method net patterns i
      here i h =
          get_or-append listed (drop g entry) 0 i (omega (arith, length-listed (seen_count method net patterns) g))
          ∙ listed_at (seen_count method net patterns) g i h

      later : (i : ℕ) → g ≤ i → get_or whole i 0 ≡ get_or entry i 0
      later i h =
          let e : i ≡ length listed + (i - g) = omega (arith, length-listed (seen_count method net patterns) g) in
          let back : g + (i - g) ≡ i = omega arith in
          ap (λ (k : ℕ). get_or whole k 0) e
          ∙ get_or-append-add listed (drop g entry) (i - g) 0
          ∙ get_or-drop g entry (i - g) 0
          ∙ ap (λ (k : ℕ). get_or entry k 0) back
