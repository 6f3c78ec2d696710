-- The calls on a ledger as they are defined, by the definitions that their contracts cite.
-- Assumes nothing.
use Rattle.ledgers.specs.Check.{check_ledger}
use Rattle.ledgers.specs.LedgerCalls.{LedgerCalls}
use Rattle.ledgers.specs.Write.{write_ledger}

abbrev pub ledger_calls : LedgerCalls
ledger_calls = record {
  check_ledger = check_ledger;
  write_ledger = write_ledger;
}
