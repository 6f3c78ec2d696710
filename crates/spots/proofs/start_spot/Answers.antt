-- `spots::start_spot` meets its contract: each return is the branch of the definition that its test chooses.
-- Assumes nothing.
use borrow.Author.Tests.{le-ltb, lt-ltb}
use Rattle.reasons.specs.Reason.{sheet_spot}
use Rattle.spots.proofs.start_spot.Goals as goal

pub returns-then-found-lt-FIXED_FIELDS : goal.returns-then-found-lt-FIXED_FIELDS
unfolding sheet_spot
returns-then-found-lt-FIXED_FIELDS c s = rw (lt-ltb _ _ c.if-found-lt-FIXED_FIELDS.true)

pub returns : goal.returns
unfolding sheet_spot
returns c s = rw (le-ltb _ _ c.if-found-lt-FIXED_FIELDS.false)
