-- `watch_parts::rounds::padded` meets its contract. Assumes nothing.
use Rattle.sigma.specs.Reads.{padded_round}
use Rattle.watch_parts.proofs.rounds.padded.Goals as goal

pub returns : goal.returns
unfolding padded_round
returns c = cc
