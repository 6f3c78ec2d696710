-- `round_file::reading::places_at` meets its contract: one number and seven zeros are the places of one number.
-- Assumes nothing.
use Rattle.lists.specs.Places.{items_at, pad8}
use Rattle.round_file.proofs.reading.places_at.Goals as goal

pub returns-then-n-eq1 : goal.returns-then-n-eq1
unfolding items_at pad8
returns-then-n-eq1 c = rw (c.if-n-eq1.true, c.read_u32.ensures.value)
