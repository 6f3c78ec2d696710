-- `watch_parts::bytes::fresh` meets its contract: each of the 63 rounds is one of zeros.
-- Assumes nothing.
use mathlib.Core.Path.{refl}
use Rattle.lists.specs.Places.{zeros8}
use Rattle.watches.specs.Watch.{zero_round}
use Rattle.watch_parts.proofs.bytes.fresh.Goals as goal

pub returns : goal.returns
unfolding zero_round zeros8
returns c = refl
