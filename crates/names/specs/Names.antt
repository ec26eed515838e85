-- Names: which words are names, and when two are the same.
use Rattle.std.specs.Prelude.{ℕ, zero, suc, Bool, true, false, cond, List, ◌<◌, [], ◌∷◌, length, get_or, drop, eqb, leb}
use Rattle.texts.specs.Words.{word_of}
use Rattle.names.specs.declared.Words.{Words}

-- two byte strings are equal
abbrev pub same : List ℕ → List ℕ → Bool
same [] [] = true
same [] (b ∷ t) = false
same (a ∷ s) [] = false
same (a ∷ s) (b ∷ t) = cond (eqb a b) (same s t) false

-- the printable bytes but for blank, # and backslash make names, of up to 32 of them and at least one
abbrev pub longest_name : ℕ
longest_name = 32

unfoldable pub name_byte : ℕ → Bool
name_byte b = cond (leb 33 b) (cond (leb b 126) (cond (eqb b 35) false (cond (eqb b 92) false true)) false) false

abbrev pub name_bytes : List ℕ → Bool
name_bytes [] = true
name_bytes (b ∷ s) = cond (name_byte b) (name_bytes s) false

unfoldable pub is_name : List ℕ → Bool
is_name w = cond (leb 1 (length w)) (cond (leb (length w) longest_name) (name_bytes w) false) false

-- the names that stand where a table says, k of them from entry i on
abbrev pub name_at : List ℕ → List ℕ → ℕ → List ℕ
name_at text starts k = word_of (drop (get_or starts k 0) text)

-- how many of the k names from entry i on stand before the first that is w: k if none is
abbrev pub before : List ℕ → List ℕ → List ℕ → ℕ → ℕ → ℕ
before text starts w i zero = 0
before text starts w i (suc k) = cond (same (name_at text starts i) w) 0 (suc (before text starts w (suc i) k))

-- words of a text that are lent: word k starts inside it, and its bytes
abbrev pub HasWord : Words → ℕ → Type 0
HasWord w k = (k < length w.starts.now) × (get_or w.starts.now k 0 < length w.text.now)

abbrev pub name_of : Words → ℕ → List ℕ
name_of w k = name_at w.text.now w.starts.now k
