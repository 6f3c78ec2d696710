-- `verifier::calls::new` meets its contract: it is the definition's record.
-- Assumes nothing.
use mathlib.Core.Path.{refl}
use Rattle.lists.specs.Places.{zeros8}
use Rattle.runs.specs.Verifier.{new_verifier}
use Rattle.verifier.proofs.calls.new.Goals as goal

pub returns : goal.returns
unfolding new_verifier zeros8
returns c = refl
