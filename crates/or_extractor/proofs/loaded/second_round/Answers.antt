-- `or_extractor::loaded::second_round` meets its contract: its three values are those of the definition.
-- Assumes nothing.
use Rattle.disjunctions.specs.Round.{second_round}
use Rattle.or_extractor.proofs.loaded.second_round.Goals as goal

pub returns : goal.returns
unfolding second_round
returns c = rw c.other_challenge-challenge.ensures.value
