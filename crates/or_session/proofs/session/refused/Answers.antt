-- `or_session::session::refused` meets its contract: eight zeros are written out.
-- Assumes nothing.
use mathlib.Core.Path.{refl}
use Rattle.lists.specs.Places.{zeros8}
use Rattle.or_session.proofs.session.refused.Goals as goal

pub returns : goal.returns
unfolding zeros8
returns c = refl
