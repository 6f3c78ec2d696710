-- The room that a response leaves in the list of answered commitments.
-- Assumes nothing.
use Prim.Native.Nat.{ℕ, ◌<◌}
use mathlib.Core.Path.{◌≡◌}
use mathlib.Core.List.{List}
use Rattle.types.specs.declared.Prover.{Prover}
use Rattle.runs.specs.Prover.{respond}
use Rattle.runs.proofs.ProverSteps.{respond_runs}

-- a response that is given had room in the list
pub given_room : (sheet : List ℕ) (p : Prover) (c : ℕ) (x : List ℕ) → (respond sheet p c x).refusal ≡ 0 → p.memory.count < 64
given_room sheet p c x given = ((respond_runs sheet p c x).0 given).1.room
