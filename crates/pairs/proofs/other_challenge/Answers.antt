-- `pairs::other_challenge` meets its contract: the sum fits 64 bits, and its remainder is below the count.
-- Assumes nothing.
use mathlib.Core.Path.{refl}
use Rattle.disjunctions.specs.Round.{other_challenge}
use Rattle.pairs.proofs.other_challenge.Goals as goal

pub returns-clause-value : goal.returns-clause-value
unfolding other_challenge
returns-clause-value c = refl
