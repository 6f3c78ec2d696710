-- One of four by its number.
-- Assumes nothing.
use Rattle.std.specs.Prelude.{ℕ, cond, eqb}

-- the one of number n, counted from 0, and the last for every number beyond
unfoldable pub of_four : {A : Type 0} → A → A → A → A → ℕ → A
of_four a b c d n = cond (eqb n 0) a (cond (eqb n 1) b (cond (eqb n 2) c d))
