-- `refusals::records::not_computed` meets its contract: the zeros are those of the definition.
-- Assumes nothing.
use mathlib.Core.Path.{refl}
use Rattle.lists.specs.Places.{zeros8}
use Rattle.refusals.proofs.records.not_computed.Goals as goal

pub returns : goal.returns
unfolding zeros8
returns c = refl
