-- `watch::loaded::unnamed` meets its contract.
-- Assumes nothing.
use mathlib.Core.Path.{refl}
use Rattle.lists.specs.Places.{zeros8}
use Rattle.watch.proofs.loaded.unnamed.Goals as goal

pub returns : goal.returns
unfolding zeros8
returns c = refl
