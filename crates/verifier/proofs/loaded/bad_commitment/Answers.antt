-- `verifier::loaded::bad_commitment` meets its contract: 14 asks for what the search finds.
-- Assumes nothing.
use mathlib.Core.Path.{sym, ◌∙◌}
use Rattle.image.proofs.Tested.{commitment_read}
use Rattle.verifier.proofs.loaded.bad_commitment.Goals as goal

pub returns : goal.returns
returns c = λ entries statement. c.some_non_element.ensures ∙ sym (commitment_read _ _)
