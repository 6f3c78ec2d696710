-- `instance::loading::refused` meets its contract: the zeros are those of the definitions.
-- Assumes nothing.
use Rattle.std.proofs.Common.{rules}
use Rattle.lists.specs.Places.{zeros8}
use Rattle.formats.specs.Load.{no_header}
use Rattle.instance.proofs.loading.refused.Goals as goal

pub returns : goal.returns
unfolding no_header zeros8
returns c = search rules
