-- `or_extractor::loaded::first_round` meets its contract: its three values are those of the definition.
-- Assumes nothing.
use mathlib.Core.Path.{refl}
use Rattle.disjunctions.specs.Round.{first_round}
use Rattle.or_extractor.proofs.loaded.first_round.Goals as goal

pub returns : goal.returns
unfolding first_round
returns c = refl
