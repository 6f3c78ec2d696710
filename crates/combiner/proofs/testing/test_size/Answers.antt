-- `combiner::testing::test_size` meets its contract: each return is a law of the rule.
-- Assumes nothing.
use native.Mathlib.Omega.{arith}
use Rattle.combiner.proofs.TeamNumber.{team_large, team_right, team_small}
use Rattle.combiner.proofs.testing.test_size.Goals as goal

pub returns-in-2-to-8 : goal.returns-in-2-to-8
returns-in-2-to-8 c = team_right _ (omega arith) (omega arith)

pub returns-in_default : goal.returns-in_default
returns-in_default c = team_small _ (omega arith)

pub returns-in_default-2 : goal.returns-in_default-2
returns-in_default-2 c = team_large _ (omega arith) (omega arith)
