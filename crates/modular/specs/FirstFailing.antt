-- The search for the first value that fails a test, which every test over several values is (01, "Turned back", 10, 11, 14 and 16).
-- Assumes nothing.
use Rattle.std.specs.Prelude.{ℕ, Bool, not, List, get_or}
use Rattle.numbers.specs.Search.{find}

-- the first index below n whose value fails the test, and n where there is none
unfoldable pub first_failing : (ℕ → Bool) → ℕ → List ℕ → ℕ
first_failing test n vs = find (λ i. not (test (get_or vs i 0))) 0 n
