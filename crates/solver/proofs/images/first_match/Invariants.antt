-- `solver::images::first_match` meets its contract. The invariant: the search from candidate k on gives what the whole search gives.
-- Assumes nothing.
use Prim.Native.Nat.{◌*◌, ◌-◌, ◌≤◌}
use mathlib.Core.Path.{◌≡◌}
use Rattle.numbers.specs.Search.{find}
use Rattle.solver.specs.Match.{first_match, rows_agree}
use Rattle.solver.proofs.images.first_match.Given as goal

abbrev pub invariant-loop-k : goal.invariant-loop-k
invariant-loop-k l =
    (find (λ j. rows_agree l.table (j * l.rows) l.rows l.expected) l.k (l.count - l.k) ≡ first_match l.table l.count l.rows l.expected)
    × (l.k ≤ l.count)
