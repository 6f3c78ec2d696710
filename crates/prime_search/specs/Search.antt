-- What the search by words of primes has found, and what it answers.
-- Assumes nothing.
use Rattle.std.specs.Prelude.{ℕ, Option, Some, None, suc, ◌*◌, ◌/◌, ◌%◌, ◌≤◌, ◌<◌, ◌≡◌, cond, ltb}
use Rattle.std.specs.Int.{◌∣◌}
use Rattle.numbers.specs.Divisors.{NoDivisorBelow}
use Rattle.prime_words.specs.Words.{next}
use Rattle.prime_search.specs.declared.Five.{Five}

-- n has the five numbers of the word e after a
pub record OfWord (a e : ℕ) (n : Five) : Type 0 where
  pub first : n.first ≡ next a e
  pub second : n.second ≡ next n.first (e / 64)
  pub third : n.third ≡ next n.second (e / 64 / 64)
  pub fourth : n.fourth ≡ next n.third (e / 64 / 64 / 64)
  pub fifth : n.fifth ≡ next n.fourth (e / 64 / 64 / 64 / 64)

-- a product modulo 2^32
abbrev pub low : ℕ → ℕ → ℕ
low a b = a * b % 4294967296

-- the shares of five numbers in l, by the inverse v of their product modulo 2^32, are above `most`: the first two by the share of
-- their product, the next two by that of theirs, and the last one
pub record SharesAbove (l v : ℕ) (n : Five) (most : ℕ) : Type 0 where
  pub first : most < low (low (low (low l v) n.fifth) (low n.third n.fourth)) n.second
  pub second : most < low (low (low (low l v) n.fifth) (low n.third n.fourth)) n.first
  pub third : most < low (low (low (low l v) n.fifth) (low n.first n.second)) n.fourth
  pub fourth : most < low (low (low (low l v) n.fifth) (low n.first n.second)) n.third
  pub fifth : most < low (low (low l v) (low n.first n.second)) (low n.third n.fourth)

-- d is the first number from 2 on that divides n
pub record FirstIs (n d : ℕ) : Type 0 where
  pub large : 2 ≤ d
  pub whole : d ∣ n
  pub none : NoDivisorBelow n d

-- a search up to b answered r: the first divisor, or none where there is none up to b
pub record Searched (n b : ℕ) (r : Option ℕ) : Type 0 where
  pub nothing : r ≡ None → NoDivisorBelow n (suc b)
  pub found : (d : ℕ) → r ≡ Some d → FirstIs n d

-- d if it is below K
unfoldable pub within_of : ℕ → ℕ → Option ℕ
within_of d challenges = cond (ltb d challenges) (Some d) None
