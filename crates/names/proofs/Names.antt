-- Laws of names and of equal byte strings. Assumes nothing.
use Prim.Native.Nat.{ℕ, suc, ◌+◌, ◌-◌, ◌<◌, ◌≤◌}
use mathlib.Core.Path.{◌≡◌, refl, ap, sym, ◌∙◌}
use mathlib.Core.Bool.{Bool, true, false, cond, ◌&&◌}
use lib.Pointwise.{pointwise}
use Rattle.std.specs.List.{list_all}
use Rattle.std.specs.Cmp.Lexicographic.{same_text}
use mathlib.Core.List.{List, [], ◌∷◌}
use native.Mathlib.Numerals.{add-one}
use native.Mathlib.Omega.{arith}
use lib.ListN.{length, get_or, take, drop, drop_of_length-le, length-drop}
use lib.Seq.{drop-cons, get_or-take, get_or-drop}
use lib.Dec.{eqb, leb}
use borrow.Author.Tests.{eq-eqb, ne_eqb, leb-true}
use Rattle.texts.specs.Words.{word_of, after, in_word, joins, blank}
use Rattle.names.specs.Names.{same, name_byte, name_bytes, before, name_at}

-- a word is the front of the text that it stands in
pub word-front : (s : List ℕ) → take (length (word_of s)) s ≡ word_of s
word-front [] = refl
word-front (b ∷ s) = go (in_word (after b (get_or s 0 0))) refl (word-front s)
  where
    go : (q : Bool) → in_word (after b (get_or s 0 0)) ≡ q → take (length (word_of s)) s ≡ word_of s → take (length (word_of (b ∷ s))) (b ∷ s) ≡ word_of (b ∷ s)
    go true e ih = rw (e, ih)
    go false e ih = rw e

pub word-short : (s : List ℕ) → length (word_of s) ≤ length s
word-short [] = omega arith
word-short (b ∷ s) = go (in_word (after b (get_or s 0 0))) refl (word-short s)
  where
    go : (q : Bool) → in_word (after b (get_or s 0 0)) ≡ q → length (word_of s) ≤ length s → length (word_of (b ∷ s)) ≤ length (b ∷ s)
    go true e ih = rw e (omega arith)
    go false e ih = rw e (omega arith)

-- two strings are compared byte by byte
module _ (s t : List ℕ) (i : ℕ) where
  pub same_more : i < length s → i < length t → get_or s i 0 ≡ get_or t i 0 → same (drop i s) (drop i t) ≡ same (drop (i + 1) s) (drop (i + 1) t)
  same_more hs ht e = rw (drop-cons s i 0, drop-cons t i 0, eq-eqb _ _ e, add-one)

  pub same_stop : i < length s → i < length t → (get_or s i 0 ≡ get_or t i 0 → ⊥) → same (drop i s) (drop i t) ≡ false
  same_stop hs ht n = rw (drop-cons s i 0, drop-cons t i 0, ne_eqb _ _ n)

  pub same_end : length s ≤ i → length t ≤ i → same (drop i s) (drop i t) ≡ true
  same_end hs ht = rw (drop_of_length-le s hs, drop_of_length-le t ht)

-- both tests as the library says them
pub and-is : (q x y : Bool) → x ≡ y → cond q x false ≡ (q && y)
and-is true x y e = e
and-is false x y e = refl

pub same-is : (s t : List ℕ) → same s t ≡ pointwise eqb s t
same-is [] [] = refl
same-is [] (b ∷ t) = refl
same-is (a ∷ s) [] = refl
same-is (a ∷ s) (b ∷ t) = and-is (eqb a b) (same s t) (pointwise eqb s t) (same-is s t)

pub name_bytes-is : (s : List ℕ) → name_bytes s ≡ list_all name_byte s
name_bytes-is [] = refl
name_bytes-is (b ∷ s) = and-is (name_byte b) (name_bytes s) (list_all name_byte s) (name_bytes-is s)

-- equal strings
pub same-equal : (s t : List ℕ) → same s t ≡ true → s ≡ t
same-equal s t e = same_text s t (sym (sym (same-is s t) ∙ e))

pub same_refl : (s : List ℕ) → same s s ≡ true
same_refl [] = refl
same_refl (a ∷ s) = rw (eq-eqb a a refl, same_refl s)

pub not_same : (s t : List ℕ) → (length s ≡ length t → ⊥) → same s t ≡ false
not_same [] [] n = absurd (n refl)
not_same [] (b ∷ t) n = refl
not_same (a ∷ s) [] n = refl
not_same (a ∷ s) (b ∷ t) n = go (eqb a b) refl (not_same s t (λ e. n (ap suc e)))
  where
    go : (q : Bool) → eqb a b ≡ q → same s t ≡ false → same (a ∷ s) (b ∷ t) ≡ false
    go true p ih = rw (p, ih)
    go false p ih = rw p

-- a word's bytes are those of the text that it stands in, so where one differs the word is another
word_byte : (s : List ℕ) (i : ℕ) → i < length (word_of s) → get_or (word_of s) i 0 ≡ get_or s i 0
word_byte s i h = ap (λ (x : List ℕ). get_or x i 0) (sym (word-front s)) ∙ get_or-take (length (word_of s)) s i 0 h

pub byte-differs : (s w : List ℕ) (i : ℕ) → i < length w → (get_or s i 0 ≡ get_or w i 0 → ⊥) → same (word_of s) w ≡ false
byte-differs s w i h n = go (same (word_of s) w) refl
  where
    go : (q : Bool) → same (word_of s) w ≡ q → same (word_of s) w ≡ false
    go true e =
        let is : word_of s ≡ w = same-equal (word_of s) w e in
        absurd (n (sym (word_byte s i (rw is h)) ∙ ap (λ (x : List ℕ). get_or x i 0) is))
    go false e = e

-- the same of a word that stands at a place of a text
pub differs_at : (text w : List ℕ) (start i : ℕ) → i < length w → (get_or text (start + i) 0 ≡ get_or w i 0 → ⊥) → same (word_of (drop start text)) w ≡ false
differs_at text w start i h n = byte-differs (drop start text) w i h (λ e. n (sym (get_or-drop start text i 0) ∙ e))

-- a word stops at a byte that belongs to none, and a byte of a name belongs to one: a word that goes on past w is another
word-stops : (s : List ℕ) → length (word_of s) < length s → in_word (after (get_or s (length (word_of s)) 0) (get_or s (suc (length (word_of s))) 0)) ≡ false
word-stops [] h = absurd (omega arith)
word-stops (b ∷ s) h = go (in_word (after b (get_or s 0 0))) refl (word-stops s)
  where
    go : (q : Bool) → in_word (after b (get_or s 0 0)) ≡ q
        → (length (word_of s) < length s → in_word (after (get_or s (length (word_of s)) 0) (get_or s (suc (length (word_of s))) 0)) ≡ false)
        → in_word (after (get_or (b ∷ s) (length (word_of (b ∷ s))) 0) (get_or (b ∷ s) (suc (length (word_of (b ∷ s)))) 0)) ≡ false
    go true e ih = rw e (ih (less (rw e at h)))
      where
        less : suc (length (word_of s)) < suc (length s) → length (word_of s) < length s
        less l = omega arith
    go false e ih = rw e e

name-inside : (b next : ℕ) → name_byte b ≡ true → in_word (after b next) ≡ true
unfolding name_byte after joins blank
name-inside b next e = go (leb 33 b) refl (leb b 126) refl (eqb b 35) refl (eqb b 92) refl
  where
    never : false ≡ true → in_word (after b next) ≡ true
    never z = absurd (let y : ◌≡◌ {A = ℕ} 0 1 = cc in omega arith)

    go : (p : Bool) → leb 33 b ≡ p → (q : Bool) → leb b 126 ≡ q → (r : Bool) → eqb b 35 ≡ r → (t : Bool) → eqb b 92 ≡ t → in_word (after b next) ≡ true
    go true hp true hq false hr false ht =
        let low : 33 ≤ b = leb-true 33 b hp in
        rw (ne_eqb b 10 (λ z. omega arith), hr, ht, ne_eqb b 32 (λ z. omega arith), ne_eqb b 9 (λ z. omega arith), ne_eqb b 13 (λ z. omega arith))
    go false hp q hq r hr t ht = never (rw hp at e)
    go true hp false hq r hr t ht = never (rw (hp, hq) at e)
    go true hp true hq true hr t ht = never (rw (hp, hq, hr) at e)
    go true hp true hq false hr true ht = never (rw (hp, hq, hr, ht) at e)

pub goes_on : (text w : List ℕ) (start : ℕ) → start + length w < length text → name_byte (get_or text (start + length w) 0) ≡ true
    → same (word_of (drop start text)) w ≡ false
goes_on text w start h n = go (same (word_of (drop start text)) w) refl
  where
    go : (q : Bool) → same (word_of (drop start text)) w ≡ q → same (word_of (drop start text)) w ≡ false
    go false e = e
    go true e =
        let is : length (word_of (drop start text)) ≡ length w = ap length (same-equal (word_of (drop start text)) w e) in
        let inside : length (word_of (drop start text)) < length (drop start text) = rw (is, length-drop) (omega arith) in
        let stops : in_word (after (get_or text (start + length w) 0) (get_or (drop start text) (suc (length w)) 0)) ≡ false =
        rw (is, get_or-drop start text (length w) 0) at (word-stops (drop start text) inside) in
        let on = name-inside (get_or text (start + length w) 0) (get_or (drop start text) (suc (length w)) 0) n in
        absurd (let z : ◌≡◌ {A = Bool} true false = sym on ∙ stops in let y : ◌≡◌ {A = ℕ} 0 1 = cc in omega arith)

pub text-short : (s w : List ℕ) → length s < length w → same (word_of s) w ≡ false
text-short s w h = not_same (word_of s) w (λ e. omega (arith, word-short s))

-- looking a name up
module _ (text starts w : List ℕ) (many i : ℕ) (here : i < many) where
  pub find-here : same (name_at text starts i) w ≡ true → before text starts w i (many - i) ≡ 0
  find-here e = rw (one, e)
    where
      one : many - i ≡ suc (many - (i + 1))
      one = omega arith

  pub find-later : same (name_at text starts i) w ≡ false → before text starts w i (many - i) ≡ suc (before text starts w (i + 1) (many - (i + 1)))
  find-later e = rw (one, e, add-one)
    where
      one : many - i ≡ suc (many - (i + 1))
      one = omega arith

pub find_none : (text starts w : List ℕ) (many i : ℕ) → many ≤ i → before text starts w i (many - i) ≡ 0
find_none text starts w many i past = rw none
  where
    none : many - i ≡ 0
    none = omega arith
