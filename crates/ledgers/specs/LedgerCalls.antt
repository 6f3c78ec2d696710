-- The calls on a ledger of committed values (02, card 14): a field for each call, and no call's definition is named.
-- Assumes nothing.
use Rattle.ledgers.specs.declared.Base.{Base}
use Rattle.ledgers.specs.declared.Checked.{Checked}
use Rattle.ledgers.specs.declared.Entries.{Entries}
use Rattle.ledgers.specs.declared.Ledger.{Ledger}
use Rattle.ledgers.specs.declared.LedgerWritten.{LedgerWritten}

pub record LedgerCalls : Type 0 where
  -- the checker: what the lines share, and the ledger
  pub check_ledger : Base → Ledger → Checked
  -- the writer: what the lines share, and the entries
  pub write_ledger : Base → Entries → LedgerWritten
