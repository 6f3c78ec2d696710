-- What the digits of a pattern name, as they stand in a file (02, card 2, 24).
-- Assumes nothing.
use Rattle.std.specs.Prelude.{ℕ, suc, ◌+◌, Bool, not, List, eqb, ltb, get_or}
use Rattle.numbers.specs.Search.{any}

-- one of the n digits from `start` on is above the number of public values
unfoldable pub digit_above : List ℕ → ℕ → ℕ → ℕ → Bool
digit_above f start n values = any n (λ d. ltb values (get_or f (start + d) 0))

-- one of them names the value of position v, from 1
unfoldable pub names : List ℕ → ℕ → ℕ → ℕ → Bool
names f start n v = any n (λ d. eqb (get_or f (start + d) 0) v)

-- one of the values is named by none of them
unfoldable pub value_unnamed : List ℕ → ℕ → ℕ → ℕ → Bool
value_unnamed f start n values = any values (λ v. not (names f start n (suc v)))
