-- Products of powers, a row at a time.
-- Assumes nothing.
use Rattle.std.specs.Prelude.{List, [], ℕ, ◌*◌, ◌/◌, ◌%◌, ◌^◌, ◌≤◌, ◌<◌, get_or}
use Rattle.lists.specs.Places.{tabulate}
use Rattle.numbers.specs.Product.{product}
use Rattle.powers.specs.declared.four.Four.{Four}
use Rattle.powers.specs.Places.{lanes, no_four}

-- of each of the first rows the product over the first n columns of the entry by the column's exponent, modulo m
unfoldable pub multi_powers : ℕ → ℕ → ℕ → (ℕ → ℕ → ℕ) → List ℕ → List ℕ
multi_powers m rows n entry exponents = tabulate rows (λ i. product n (λ j. entry i j ^ get_or exponents j 0) % m)

-- of each of four values the square times the entries of its row in the first n columns whose exponent has bit k, modulo m
unfoldable pub straus_turn : ℕ → ℕ → ℕ → (ℕ → ℕ → ℕ) → List ℕ → List ℕ → List ℕ
straus_turn m n k entry exponents xs =
    tabulate 4 (λ i. get_or xs i 0 * get_or xs i 0 * product n (λ j. entry i j ^ (get_or exponents j 0 / 2 ^ k % 2)) % m)

-- row i, column j of an array of rows
abbrev pub entry_of : List (List ℕ) → ℕ → ℕ → ℕ
entry_of entries i j = get_or (get_or entries i []) j 0

-- four ones
abbrev pub ones : Four
ones = record { a = 1; b = 1; c = 1; d = 1 }

-- row i, column j of an array of columns of four
abbrev pub lane_of : List Four → ℕ → ℕ → ℕ
lane_of columns i j = get_or (lanes (get_or columns j no_four)) i 0

-- column j of four rows
abbrev pub column_of : List ℕ → List ℕ → List ℕ → List ℕ → ℕ → Four
column_of a b c d j = record { a = get_or a j 0; b = get_or b j 0; c = get_or c j 0; d = get_or d j 0 }

-- none of the first n values is above most
pub record AtMost (most n : ℕ) (values : List ℕ) : Type 0 where
  pub each : (i : ℕ) → i < n → get_or values i 0 ≤ most
