-- What writing gives, as the record that crosses to other languages.
-- Assumes nothing.
use Rattle.std.specs.Prelude.{Result, Ok, Err}
use Rattle.refusals.specs.Number.{number}
use Rattle.refusals.specs.declared.Refusal.{Refusal}
use Rattle.ledgers.specs.Write.{ledger_of, zero_line}
use Rattle.ledgers.specs.declared.Ledger.{Ledger}
use Rattle.ledgers.specs.declared.LedgerWritten.{LedgerWritten}

-- the ledger, or a ledger of zeros beside the number of a refusal
abbrev pub written : Result Ledger Refusal → LedgerWritten
written (Ok ledger) = record { ledger = ledger; refusal = 0 }
written (Err refusal) = record { ledger = ledger_of 0 (λ i. zero_line); refusal = number refusal }
