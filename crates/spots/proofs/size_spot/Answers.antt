-- `spots::size_spot` meets its contract: each return is the branch of the definition that its tests choose.
-- Assumes nothing.
use borrow.Author.Tests.{le-ltb, lt-ltb}
use Rattle.formats.specs.Sheet.{header_of}
use Rattle.reasons.specs.Reason.{sheet_spot}
use Rattle.spots.proofs.size_spot.Goals as goal

pub returns-then-rows-lt1 : goal.returns-then-rows-lt1
unfolding sheet_spot header_of
returns-then-rows-lt1 c found = rw (← c.read_u8-rows.ensures.value, lt-ltb _ _ c.if-rows-lt1.true)

pub returns-then-rows-gt8 : goal.returns-then-rows-gt8
unfolding sheet_spot header_of
returns-then-rows-gt8 c found = rw (← c.read_u8-rows.ensures.value, le-ltb _ _ c.if-rows-lt1.false, lt-ltb _ _ c.if-rows-gt8.true)

pub returns : goal.returns
unfolding sheet_spot header_of
returns c found = rw (← c.read_u8-rows.ensures.value, le-ltb _ _ c.if-rows-lt1.false, le-ltb _ _ c.if-rows-gt8.false)
