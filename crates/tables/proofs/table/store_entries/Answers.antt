-- `tables::table::store_entries` meets its contract: a refused sheet's number is the answer, else the numbers of its
-- entries are stored, row by row.
-- Assumes nothing.
use mathlib.Core.Path.{◌∙◌}
use Rattle.tables.proofs.Entries.{entries_kept, entries_number, entries_put}
use Rattle.tables.proofs.table.store_entries.Goals as goal

pub returns-in-Ok : goal.returns-in-Ok
returns-in-Ok c =
    let told = c.in-Ok.ensures in
    record { answer = entries_number _ told.number; numbers = entries_put _ _ told.number told.values c.flat.ensures }

pub returns-in-Err : goal.returns-in-Err
returns-in-Err c =
    let number_is = c.in-Err.ensures.number in
    record { answer = c.number.ensures ∙ entries_number _ number_is; numbers = entries_kept _ _ _ number_is }
