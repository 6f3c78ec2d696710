-- The calls on a ledger of two codes answer the same to every input, refused calls too.
-- Assumes nothing.
use Rattle.std.specs.Prelude.{◌≡◌}
use Rattle.ledgers.specs.LedgerCalls.{LedgerCalls}
use Rattle.ledgers.specs.declared.Base.{Base}
use Rattle.ledgers.specs.declared.Entries.{Entries}
use Rattle.ledgers.specs.declared.Ledger.{Ledger}

pub record SameLedgers (ledgers ledgers' : LedgerCalls) : Type 0 where
  pub check_ledger : (base : Base) (ledger : Ledger) → ledgers.check_ledger base ledger ≡ ledgers'.check_ledger base ledger
  pub write_ledger : (base : Base) (entries : Entries) → ledgers.write_ledger base entries ≡ ledgers'.write_ledger base entries
