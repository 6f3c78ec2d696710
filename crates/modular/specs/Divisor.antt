-- What a search for a divisor answers (01, "Turned back", 8).
-- Assumes nothing.
use Rattle.std.specs.Prelude.{ℕ, Option, Some, None, ◌%◌, ◌≤◌, ◌<◌, ◌≡◌, cond, [], ◌∷◌, ltb}
use Rattle.numbers.specs.Divisors.{NoDivisorBelow}
use Rattle.sigma.specs.Admission.{first_divisor}
use Rattle.sigma.specs.Answer.{Outcome}

-- a search's outcome: refusal 8 and the divisor, or no refusal and no value
unfoldable pub divisor_outcome : Option ℕ → Outcome
divisor_outcome (Some d) = record { number = 8; values = d ∷ [] }
divisor_outcome None = record { number = 0; values = [] }

-- the first d with 2 ≤ d < K that divides ℓ, if there is one
unfoldable pub divisor_of : ℕ → ℕ → Option ℕ
divisor_of order challenges =
    cond (ltb (first_divisor order challenges) challenges) (Some (first_divisor order challenges)) None

-- where the search may stand: d is 2 or odd, and no number from 2 on before it divides ℓ
pub record Candidate (order d : ℕ) : Type 0 where
  pub large : 2 ≤ d
  pub odd : 2 < d → d % 2 ≡ 1
  pub none : NoDivisorBelow order d
