-- `maker::entries::entry_of` meets its contract: 0 stands for 1, and any other digit for the value of that position.
-- Assumes nothing.
use Rattle.patterns.proofs.Sheets.{entry_of_none}
use Rattle.maker.proofs.RowDigits.{digit_value}
use Rattle.maker.proofs.entries.entry_of.Goals as goal

pub returns-then-digit-eq0 : goal.returns-then-digit-eq0
returns-then-digit-eq0 c = rw (c.if-digit-eq0.true, entry_of_none)

pub returns : goal.returns
returns c = digit_value _ _ c.if-digit-eq0.false
