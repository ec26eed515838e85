-- What is said of lists of numbers in more than one crate: sums, counts, tests of every entry, lists one after another.
use Rattle.std.specs.Prelude.{ℕ, zero, suc, ◌+◌, ◌<◌, Bool, true, cond, ◌&&◌, List, [], ◌∷◌, ◌++◌, eqb, ltb, length, get_or}

-- F 0 + .. + F (k - 1)
abbrev pub sum_below : ℕ → (ℕ → ℕ) → ℕ
sum_below zero F = 0
sum_below (suc k) F = sum_below k F + F k

-- how often x stands in a list
abbrev pub count : ℕ → List ℕ → ℕ
count x [] = 0
count x (y ∷ ys) = cond (eqb x y) 1 0 + count x ys

-- at how many entries the test t holds
abbrev pub count_where : (ℕ → Bool) → List ℕ → ℕ
count_where t [] = 0
count_where t (x ∷ xs) = cond (t x) 1 0 + count_where t xs

-- the lists of the places 0 to k - 1 after each other
abbrev pub joined : (ℕ → List ℕ) → ℕ → List ℕ
joined f zero = []
joined f (suc k) = joined f k ++ f k

-- tests of every entry: it is zero, it is below b
abbrev pub all_zero : List ℕ → Bool
all_zero [] = true
all_zero (x ∷ xs) = eqb x 0 && all_zero xs

abbrev pub all_below : ℕ → List ℕ → Bool
all_below b [] = true
all_below b (x ∷ xs) = ltb x b && all_below b xs

-- the test t holds at the k numbers from j on
abbrev pub every_from : (ℕ → Bool) → ℕ → ℕ → Bool
every_from t j zero = true
every_from t j (suc k) = t j && every_from t (suc j) k

-- every entry is below b, as a fact
abbrev pub Below : ℕ → List ℕ → Type 0
Below b xs = (i : ℕ) → i < length xs → get_or xs i 0 < b
