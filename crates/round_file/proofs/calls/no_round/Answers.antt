-- `round_file::calls::no_round` meets its contract: by computation.
-- Assumes nothing.
use mathlib.Core.Path.{refl}
use Rattle.lists.specs.Places.{zeros8}
use Rattle.formats.specs.RoundCalls.{no_round}
use Rattle.round_file.proofs.calls.no_round.Goals as goal

pub returns : goal.returns
unfolding no_round zeros8
returns c = refl
