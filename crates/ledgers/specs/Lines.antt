-- The lines of a ledger and the entries of its writer (02, card 14), by number. What stands for one beyond a list's end is never read of
-- room for 64, since a count above 64 is refused.
-- Assumes nothing.
use Rattle.std.specs.Prelude.{ℕ, [], get_or}
use Rattle.ledgers.specs.declared.Entries.{Entries}
use Rattle.ledgers.specs.declared.Entry.{Entry}
use Rattle.ledgers.specs.declared.Ledger.{Ledger}
use Rattle.ledgers.specs.declared.Line.{Line}

-- what stands beyond a list's end
abbrev pub no_line : Line
no_line = record { kind = 0; first = 0; second = 0; commitment = 0; t = []; challenge = 0; response = [] }

abbrev pub no_entry : Entry
no_entry = record { kind = 0; first = 0; second = 0; value = 0; blinding = 0; nonce = []; challenge = 0 }

-- line i
abbrev pub line_at : Ledger → ℕ → Line
line_at ledger i = get_or ledger.lines i no_line

-- entry i
abbrev pub entry_at : Entries → ℕ → Entry
entry_at entries i = get_or entries.entries i no_entry
