-- Products of each choice among several columns.
-- Assumes nothing.
use Rattle.std.specs.Prelude.{◌≡◌, List, ℕ, ◌+◌, ◌*◌, ◌/◌, ◌%◌, ◌^◌, ◌<◌, get_or}
use Rattle.powers.specs.declared.four.Four.{Four}
use Rattle.powers.specs.Places.{lanes, no_four}
use Rattle.straus.specs.MultiPowers.{lane_of}

-- in row i the product of those of two columns whose bit is set in d
unfoldable pub pair_of : Four → Four → ℕ → ℕ → ℕ
pair_of x y i d = get_or (lanes x) i 0 ^ (d % 2) * get_or (lanes y) i 0 ^ (d / 2 % 2)

-- of those of the four columns from index at on
unfoldable pub choice_of : List Four → ℕ → ℕ → ℕ → ℕ
choice_of columns at i d =
    pair_of (get_or columns at no_four) (get_or columns (at + 1) no_four) i (d % 4)
    * pair_of (get_or columns (at + 2) no_four) (get_or columns (at + 3) no_four) i (d / 4)

-- the first fours of a table, as many as size says, have in each row the choice of their place, modulo m
pub record Choices (m size : ℕ) (choice : ℕ → ℕ → ℕ) (table : List Four) : Type 0 where
  pub each : (d : ℕ) → d < size → (i : ℕ) → i < 4 → lane_of table i d % m ≡ choice i d % m

-- the bits k of the four exponents from index at on, that of the first lowest
abbrev pub digit_of : List ℕ → ℕ → ℕ → ℕ
digit_of exponents at k =
    get_or exponents at 0 / 2 ^ k % 2 + 2 * (get_or exponents (at + 1) 0 / 2 ^ k % 2)
    + 4 * (get_or exponents (at + 2) 0 / 2 ^ k % 2) + 8 * (get_or exponents (at + 3) 0 / 2 ^ k % 2)
