-- `prover::list::test_list` meets its contract: the entries are searched first, then the count is tested.
-- Assumes nothing.
use mathlib.Core.Path.{◌≡◌}
use native.Mathlib.Omega.{arith}
use Rattle.runs.specs.Memory.{is_listed}
use Rattle.prover.proofs.Listing.{barred_full, barred_listed, barred_none, listed_test}
use Rattle.prover.proofs.list.test_list.Goals as goal
use Rattle.prover.proofs.list.test_list.Goals.{After-is_listed}

-- whether the held commitment is listed
listed : (c : After-is_listed) →
    let args = c.args in
    c.is_listed.result ≡ is_listed args.memory.now args.commitment
listed c = listed_test _ _ c.is_listed.ensures

pub returns-then-is_listed : goal.returns-then-is_listed
returns-then-is_listed c = barred_listed _ _ (listed (goal.at.returns-then-is_listed c).After-is_listed) c.if-is_listed.true

pub returns-then-memory-ge64 : goal.returns-then-memory-ge64
returns-then-memory-ge64 c = barred_full _ _ (listed (goal.at.returns-then-memory-ge64 c).After-is_listed) c.if-is_listed.false (omega arith)

pub returns : goal.returns
returns c = barred_none _ _ (listed (goal.at.returns c).After-is_listed) c.if-is_listed.false (omega arith)
