-- `or_session::session::new` meets its contract: eight zeros are written out.
-- Assumes nothing.
use mathlib.Core.Path.{refl}
use Rattle.lists.specs.Places.{zeros8}
use Rattle.disjunctions.specs.Prover.{new_or_prover, wiped_or}
use Rattle.or_session.proofs.session.new.Goals as goal

pub returns : goal.returns
unfolding new_or_prover wiped_or zeros8
returns c = refl
