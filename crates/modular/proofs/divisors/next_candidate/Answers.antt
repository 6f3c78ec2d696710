-- `modular::next_candidate` meets its contract: each return is a law of the numbers that are tried.
-- Assumes nothing.
use native.Mathlib.Omega.{arith}
use Rattle.modular.proofs.Candidates.{next_beyond, next_order, next_three, next_by_four, next_by_two}
use Rattle.modular.proofs.divisors.next_candidate.Goals as goal

pub returns-then-order-d-clause-candidate : goal.returns-then-order-d-clause-candidate
returns-then-order-d-clause-candidate c = let (at, fails, low) = c.requires in next_beyond _ _ at fails _ (omega arith) low (omega arith)

pub returns-then-order-d-2-clause-candidate : goal.returns-then-order-d-2-clause-candidate
returns-then-order-d-2-clause-candidate c = let (at, fails, _) = c.requires in next_order _ _ at fails (omega arith) (omega arith)

pub returns-then-d-eq2-clause-candidate : goal.returns-then-d-eq2-clause-candidate
returns-then-d-eq2-clause-candidate c = let (at, fails, _) = c.requires in next_three _ _ at fails (omega arith)

pub returns-then-d-eq1-clause-candidate : goal.returns-then-d-eq1-clause-candidate
returns-then-d-eq1-clause-candidate c = let (at, fails, _) = c.requires in next_by_four _ _ at fails (omega arith)

pub returns-clause-candidate : goal.returns-clause-candidate
returns-clause-candidate c = let (at, fails, _) = c.requires in next_by_two _ _ at fails (omega arith)
