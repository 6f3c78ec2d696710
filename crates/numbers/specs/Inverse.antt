-- Inverses modulo m, found by search.
-- Assumes nothing.
use Rattle.std.specs.Prelude.{ℕ, ◌*◌, ◌%◌, eqb}
use Rattle.numbers.specs.Congruence.{Cong}
use Rattle.numbers.specs.Search.{find}

-- the least w with v · w mod m = 1, and m where there is none
unfoldable pub inverse : ℕ → ℕ → ℕ
inverse m v = find (λ w. eqb (v * w % m) 1) 0 m

-- v and w are inverses of each other modulo m
pub record Inverses (m v w : ℕ) : Type 0 where
  pub one : Cong m (v * w) 1
