-- The entries of the list of answered commitments.
-- Assumes nothing.
use Rattle.std.specs.Prelude.{ℕ, Bool, not, List, [], get_or}
use Rattle.types.specs.declared.Listed.{Listed}
use Rattle.sigma.specs.Comparison.{differ}

-- whether entry i is a commitment, in all eight places
unfoldable pub is_entry : List Listed → List ℕ → ℕ → Bool
is_entry answered t i = not (differ 8 (get_or answered i (record { commitment = [] })).commitment t)
