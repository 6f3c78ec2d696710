-- Bounded search. Every test over several values is such a search, so that the first bad index can be named.
-- Assumes nothing.
use Rattle.std.specs.Prelude.{ℕ, zero, suc, Bool, true, false, ltb}

-- the first i with p i among the n numbers from `from` on, and from + n where there is none
unfoldable pub find : (ℕ → Bool) → ℕ → ℕ → ℕ
find p from zero = from
find p from (suc n) = elim (p from) [ true ↦ from | false ↦ find p (suc from) n ]

-- whether p holds at some index below n
unfoldable pub any : ℕ → (ℕ → Bool) → Bool
any n p = ltb (find p 0 n) n
