-- The rows of a table as the bits of a number: what a byte of a line, a further line and the ending do with them. Assumes nothing.
use Rattle.std.specs.Option.{option_eq}
use Rattle.std.specs.Prelude.{Option, Some, None}
use Prim.Native.Nat.{ℕ, zero, suc, ◌+◌, ◌-◌, ◌*◌, ◌/◌, ◌%◌, ◌^◌, ◌<◌, ◌≤◌, max}
use mathlib.Core.Path.{◌≡◌, refl, ap, ap₂, sym, ◌∙◌, fun_ext}
use mathlib.Core.Bool.{beq, Bool, true, false, cond, not}
use mathlib.Core.List.{List, [], ◌∷◌}
use native.Mathlib.Nat.{pow-succ', pow-le-pow_right, zero-add, suc-add, mod-lt, zero-lt-suc}
use native.Mathlib.Omega.{arith}
use native.Mathlib.Numerals.{add-one}
use lib.Arith.{bin_ind, digits_mod}
use lib.Bits.{bit_or, or_step, or_shr, or_zero_r}
use lib.Pow.{pow-add}
use lib.Dec.{eqb}
use lib.ListN.{length, get_or}
use borrow.Author.Tests.{eq-eqb, ne_eqb}
use Rattle.figure.specs.Figure.{bit_of, is_odd}
use Rattle.netlist.specs.Netlist.{input_values}
use Rattle.statements.specs.Lines.{Line}
use Rattle.covers.specs.Cover.{byte_meets, meets, some_meets, ending_of, value_where, cover_value, table_from, table_of, cover_table}

-- ---- a bit before others

pub odd-bit : (b : Bool) (x : ℕ) → is_odd (bit_of b + 2 * x) ≡ b
odd-bit true x = eq-eqb ((1 + 2 * x) % 2) 1 (omega arith)
odd-bit false x = ne_eqb ((0 + 2 * x) % 2) 1 (λ e. omega arith)

pub odd-value : (x : ℕ) → bit_of (is_odd x) ≡ x % 2
odd-value x = go (x % 2) (omega arith)
  where
    go : (m : ℕ) → m < 2 → bit_of (eqb m 1) ≡ m
    go zero h = refl
    go (suc zero) h = refl
    go (suc (suc m)) h = absurd (omega arith)

pub half-bit : (b : Bool) (x : ℕ) → (bit_of b + 2 * x) / 2 ≡ x
half-bit true x = omega arith
half-bit false x = omega arith

rest-bit : (b : Bool) (x : ℕ) → (bit_of b + 2 * x) % 2 ≡ bit_of b
rest-bit true x = omega arith
rest-bit false x = omega arith

-- ---- tables

pub table_below : (f : ℕ → Bool) (i k : ℕ) → table_from f i k < 2 ^ k
table_below f i zero = omega arith
table_below f i (suc k) = rw pow-succ' (go (f i) (table_below f (suc i) k))
  where
    go : (b : Bool) → table_from f (suc i) k < 2 ^ k → bit_of b + 2 * table_from f (suc i) k < 2 * 2 ^ k
    go true h = omega arith
    go false h = omega arith

-- functions that agree, each from its own row on
table-alike : (f g : ℕ → Bool) (i j k : ℕ) → ((m : ℕ) → m < k → f (m + i) ≡ g (m + j)) → table_from f i k ≡ table_from g j k
table-alike f g i j zero h = refl
table-alike f g i j (suc k) h =
    ap₂ (λ (x : Bool) (y : ℕ). bit_of x + 2 * y)
    (ap f (sym (zero-add i)) ∙ h 0 (omega arith) ∙ ap g (zero-add j))
    (table-alike f g (suc i) (suc j) k (λ m l. ap f (next m i) ∙ h (suc m) (omega arith) ∙ ap g (sym (next m j))))
  where
    next : (m x : ℕ) → m + suc x ≡ suc m + x
    next m x = omega arith

-- the first a rows, and the b after them
table-parts : (f : ℕ → Bool) (i j a b : ℕ) → j ≡ a + i → table_from f i (a + b) ≡ table_from f i a + 2 ^ a * table_from f j b
table-parts f i j zero b e =
    let same : j ≡ i = omega arith in
    rw (zero-add, same) (omega arith)
table-parts f i j (suc a) b e =
    rw suc-add (omega (arith, table-parts f (suc i) j a b (omega arith), ap (λ (m : ℕ). m * table_from f j b) (pow-succ' 2 a)))

table_none : (i k : ℕ) → table_from (λ m. false) i k ≡ 0
table_none i zero = refl
table_none i (suc k) = ap (λ (x : ℕ). 0 + 2 * x) (table_none (suc i) k)

-- rows that are met only if a byte is
table-if : (f : ℕ → Bool) (b : Bool) (i k : ℕ) → table_from (λ m. cond b (f m) false) i k ≡ bit_of b * table_from f i k
table-if f true i k = omega arith
table-if f false i k = omega (arith, table_none i k)

-- the rows that are not met
pub table-rest : (f : ℕ → Bool) (i k : ℕ) → table_from (λ m. not (f m)) i k + table_from f i k + 1 ≡ 2 ^ k
table-rest f i zero = refl
table-rest f i (suc k) = rw pow-succ' (go (f i) (table-rest f (suc i) k))
  where
    go : (b : Bool) → table_from (λ m. not (f m)) (suc i) k + table_from f (suc i) k + 1 ≡ 2 ^ k
        → bit_of (not b) + 2 * table_from (λ m. not (f m)) (suc i) k + (bit_of b + 2 * table_from f (suc i) k) + 1 ≡ 2 * 2 ^ k
    go true h = omega arith
    go false h = omega arith

-- ---- a line, byte by byte: the rows below have a 0 at the last source, those above a 1

meets-none : (bs : List ℕ) → meets bs [] ≡ true
meets-none [] = refl
meets-none (b ∷ bs) = refl

turned : (p q x : Bool) → cond p (cond q x false) false ≡ cond q (cond p x false) false
turned true true x = refl
turned true false x = refl
turned false true x = refl
turned false false x = refl

meets-last : (bs : List ℕ) (i r v : ℕ) → r < 2 ^ i → v < 2
    → meets bs (input_values (suc i) (r + v * 2 ^ i)) ≡ cond (byte_meets (get_or bs i 45) v) (meets bs (input_values i r)) false
unfolding byte_meets
meets-last [] i r v h l = refl
meets-last (b ∷ bs) zero r v h l =
    let digit : bit_of (is_odd (r + v * 2 ^ 0)) ≡ v = odd-value (r + v * 2 ^ 0) ∙ omega arith in
    ap₂ (λ (x : ℕ) (y : Bool). cond (byte_meets b x) y false) digit (meets-none bs)
meets-last (b ∷ bs) (suc i) r v h l =
    let half : (r + v * 2 ^ suc i) / 2 ≡ r / 2 + v * 2 ^ i = omega (arith, ap (λ (m : ℕ). v * m) (pow-succ' 2 i)) in
    let odd : (r + v * 2 ^ suc i) % 2 ≡ r % 2 = omega (arith, ap (λ (m : ℕ). v * m) (pow-succ' 2 i)) in
    let low : r / 2 < 2 ^ i = omega (arith, pow-succ' 2 i) in
    ap₂ (λ (x : ℕ) (y : Bool). cond (byte_meets b (bit_of (eqb x 1))) y false) odd
    (ap (λ (x : ℕ). meets bs (input_values (suc i) x)) half ∙ meets-last bs i (r / 2) v low l)
    ∙ turned (byte_meets b (bit_of (is_odd r))) (byte_meets (get_or bs i 45) v) (meets bs (input_values i (r / 2)))

pub line-start : (bs : List ℕ) → 1 ≡ table_of 0 (meets bs)
unfolding table_of
line-start bs = rw (meets-none bs)

pub line-more : (bs : List ℕ) (i : ℕ)
    → table_of i (meets bs) * (bit_of (byte_meets (get_or bs i 45) 0) + 2 ^ 2 ^ i * bit_of (byte_meets (get_or bs i 45) 1)) ≡ table_of (suc i) (meets bs)
unfolding table_of
line-more bs i = sym (ap (table_from above 0) twice ∙ table-parts above 0 (2 ^ i) (2 ^ i) (2 ^ i) (omega arith) ∙ omega (arith, lower, ap (λ (x : ℕ). 2 ^ 2 ^ i * x) upper))
  where
    above : ℕ → Bool
    above r = meets bs (input_values (suc i) r)

    here : ℕ → Bool
    here r = meets bs (input_values i r)

    twice : 2 ^ suc i ≡ 2 ^ i + 2 ^ i
    twice = omega (arith, pow-succ' 2 i)

    lower : table_from above 0 (2 ^ i) ≡ bit_of (byte_meets (get_or bs i 45) 0) * table_from here 0 (2 ^ i)
    lower =
        table-alike above (λ m. cond (byte_meets (get_or bs i 45) 0) (here m) false) 0 0 (2 ^ i)
        (λ m l. let e : m + 0 ≡ m + 0 + 0 * 2 ^ i = omega arith in ap above e ∙ meets-last bs i (m + 0) 0 (omega arith) (omega arith))
        ∙ table-if here (byte_meets (get_or bs i 45) 0) 0 (2 ^ i)

    upper : table_from above (2 ^ i) (2 ^ i) ≡ bit_of (byte_meets (get_or bs i 45) 1) * table_from here 0 (2 ^ i)
    upper =
        table-alike above (λ m. cond (byte_meets (get_or bs i 45) 1) (here m) false) (2 ^ i) 0 (2 ^ i)
        (λ m l. let e : m + 2 ^ i ≡ m + 0 + 1 * 2 ^ i = omega arith in ap above e ∙ meets-last bs i (m + 0) 1 (omega arith) (omega arith))
        ∙ table-if here (byte_meets (get_or bs i 45) 1) 0 (2 ^ i)

-- inside a list no default is read
pub inside : (xs : List ℕ) (i a b : ℕ) → i < length xs → get_or xs i a ≡ get_or xs i b
inside [] i a b h = absurd (omega arith)
inside (x ∷ xs) zero a b h = refl
inside (x ∷ xs) (suc i) a b h = inside xs i a b (omega arith)

-- ---- a further line

or-bits : (p q : Bool) (x y : ℕ) → bit_or (bit_of p + 2 * x) (bit_of q + 2 * y) ≡ bit_of (cond p true q) + 2 * bit_or x y
or-bits p q x y =
    or_step (bit_of p + 2 * x) (bit_of q + 2 * y)
    ∙ ap₂ (λ (a b : ℕ). a * 2 + b) (ap₂ bit_or (half-bit p x) (half-bit q y)) (ap₂ max (rest-bit p x) (rest-bit q y) ∙ greater p q)
    ∙ omega arith
  where
    greater : (p q : Bool) → max (bit_of p) (bit_of q) ≡ bit_of (cond p true q)
    greater true true = refl
    greater true false = refl
    greater false true = refl
    greater false false = refl

table-or : (f g : ℕ → Bool) (i k : ℕ) → table_from (λ m. cond (f m) true (g m)) i k ≡ bit_or (table_from f i k) (table_from g i k)
table-or f g i zero = refl
table-or f g i (suc k) =
    ap (λ (x : ℕ). bit_of (cond (f i) true (g i)) + 2 * x) (table-or f g (suc i) k)
    ∙ sym (or-bits (f i) (g i) (table_from f (suc i) k) (table_from g (suc i) k))

pub rows-of-two : (a : ℕ) (F G : List Bool → Bool) → table_of a (λ vs. cond (F vs) true (G vs)) ≡ bit_or (table_of a F) (table_of a G)
unfolding table_of
rows-of-two a F G = table-or (λ i. F (input_values a i)) (λ i. G (input_values a i)) 0 (2 ^ a)

pub no_rows : (a : ℕ) → table_of a (λ vs. false) ≡ 0
unfolding table_of
no_rows a = table_none 0 (2 ^ a)

or-rest : (a b : ℕ) → bit_or a b % 2 ≡ max (a % 2) (b % 2)
or-rest a b =
    ap (λ (x : ℕ). x % 2) (or_step a b)
    ∙ digits_mod (bit_or (a / 2) (b / 2)) {m = 2} {r = max (a % 2) (b % 2)} (less (a % 2) (b % 2) (mod-lt a (zero-lt-suc 1)) (mod-lt b (zero-lt-suc 1)))
  where
    less : (x y : ℕ) → x < 2 → y < 2 → max x y < 2
    less x y h l = omega arith

max-three : (x y z : ℕ) → max (max x y) z ≡ max x (max y z)
max-three x y z = omega arith

pub or-three : (a b c : ℕ) → bit_or (bit_or a b) c ≡ bit_or a (bit_or b c)
or-three =
    bin_ind (λ (n : ℕ). (b c : ℕ) → bit_or (bit_or n b) c ≡ bit_or n (bit_or b c)) (λ b c. refl)
    (λ n ih b c.
    or_step (bit_or n b) c
    ∙ ap₂ (λ (x y : ℕ). x * 2 + y)
    (ap (λ (x : ℕ). bit_or x (c / 2)) (or_shr n b 1) ∙ ih (b / 2) (c / 2) ∙ ap (bit_or (n / 2)) (sym (or_shr b c 1)))
    (ap (λ (x : ℕ). max x (c % 2)) (or-rest n b) ∙ max-three (n % 2) (b % 2) (c % 2) ∙ ap (max (n % 2)) (sym (or-rest b c)))
    ∙ sym (or_step n (bit_or b c)))

-- ---- sizes

pub higher : (i k : ℕ) → i ≤ k → 2 ^ 2 ^ i ≤ 2 ^ 2 ^ k
higher i k h = pow-le-pow_right {n = 2} (omega arith) {i = 2 ^ i} {j = 2 ^ k} (pow-le-pow_right {n = 2} (omega arith) {i = i} {j = k} h)

pub squared : (i : ℕ) → 2 ^ 2 ^ i * 2 ^ 2 ^ i ≡ 2 ^ 2 ^ (i + 1)
squared i =
    let twice : 2 ^ i + 2 ^ i ≡ 2 ^ (i + 1) = rw add-one (omega (arith, pow-succ' 2 i)) in
    sym (pow-add 2 (2 ^ i) (2 ^ i)) ∙ ap (λ (m : ℕ). 2 ^ m) twice

pub rows-below : (a : ℕ) (F : List Bool → Bool) → table_of a F < 2 ^ 2 ^ a
unfolding table_of
rows-below a F = table_below (λ i. F (input_values a i)) 0 (2 ^ a)

-- ---- one turn of the loop over a line

pub line-turn : (bs : List ℕ) (i rows above b f : ℕ) → above ≡ 2 ^ 2 ^ i → rows ≡ table_of i (meets bs) → b ≡ get_or bs i 45
    → f ≡ bit_of (byte_meets b 0) + above * bit_of (byte_meets b 1) → rows * f ≡ table_of (i + 1) (meets bs)
line-turn bs i rows above b f p q r e = rw add-one (rw (e, p, q, r) (line-more bs i))

-- ---- the ending

-- whether the lines end in 0
abbrev pub ends_in_zero : Option Bool → Bool
ends_in_zero e = option_eq beq e (Some false)

zero-ends : (e : Option Bool) → ends_in_zero e ≡ true → (met : Bool) → not met ≡ value_where e met
zero-ends None q met = let y : ◌≡◌ {A = ℕ} 0 1 = cc in absurd (omega arith)
zero-ends (Some true) q met = let y : ◌≡◌ {A = ℕ} 0 1 = cc in absurd (omega arith)
zero-ends (Some false) q met = refl

other-ends : (e : Option Bool) → ends_in_zero e ≡ false → (met : Bool) → met ≡ value_where e met
other-ends None q met = refl
other-ends (Some true) q met = refl
other-ends (Some false) q met = let y : ◌≡◌ {A = ℕ} 0 1 = cc in absurd (omega arith)

pub ends-in-one : (a : ℕ) (cover : List Line) → ends_in_zero (ending_of cover) ≡ false → table_of a (some_meets cover) ≡ cover_table a cover
unfolding cover_table cover_value
ends-in-one a cover e = ap (table_of a) (fun_ext (λ vs. other-ends (ending_of cover) e (some_meets cover vs)))

pub ends-in-zero : (a : ℕ) (cover : List Line) (all : ℕ) → ends_in_zero (ending_of cover) ≡ true → all + 1 ≡ 2 ^ 2 ^ a → all - table_of a (some_meets cover) ≡ cover_table a cover
unfolding cover_table cover_value table_of
ends-in-zero a cover all e q =
    let some : ℕ → Bool = λ i. some_meets cover (input_values a i) in
    let none : all - table_from some 0 (2 ^ a) ≡ table_from (λ i. not (some i)) 0 (2 ^ a) = omega (arith, table-rest some 0 (2 ^ a)) in
    none ∙ ap (λ (f : ℕ → Bool). table_from f 0 (2 ^ a)) (fun_ext (λ i. zero-ends (ending_of cover) e (some i)))

-- ---- no line is left

pub rows_end : (a rows whole : ℕ) (cover : List Line) → cover ≡ [] → bit_or rows (table_of a (some_meets cover)) ≡ whole → rows ≡ whole
rows_end a rows whole cover e q =
    sym (or_zero_r rows) ∙ ap (bit_or rows) (sym (no_rows a)) ∙ ap (λ (ls : List Line). bit_or rows (table_of a (some_meets ls))) (sym e) ∙ q
