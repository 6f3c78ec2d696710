-- `ledger_writer::calls::zero_ledger` meets its contract by computation.
-- Assumes nothing.
use Rattle.lists.specs.Places.{items_at, tabulate}
use Rattle.ledgers.specs.Write.{ledger_of, zero_line}
use Rattle.ledger_writer.proofs.calls.zero_ledger.Goals as goal

pub returns : goal.returns
unfolding ledger_of zero_line tabulate items_at
returns c = rw c.plain_line-lines.ensures
