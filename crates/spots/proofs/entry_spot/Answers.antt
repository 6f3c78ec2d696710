-- `spots::entry_spot` meets its contract: the entries lie within a sheet of kind 1 that has the shape of one.
-- Assumes nothing.
use mathlib.Core.Path.{refl}
use Rattle.reasons.specs.Reason.{sheet_spot}
use Rattle.spots.proofs.RefusedSheet.{entries_inside, fields_inside}
use Rattle.spots.proofs.entry_spot.Goals as goal

pub header-h-requires : goal.header-h-requires
header-h-requires c = fields_inside _ _ refl c.requires.shaped

pub element_spot-requires-clause-within : goal.element_spot-requires-clause-within
element_spot-requires-clause-within c =
    (entries_inside _ _ c.header-h.ensures c.requires.shaped c.requires.kind).1

pub returns : goal.returns
unfolding sheet_spot
returns c found = rw (← c.header-h.ensures) c.element_spot.ensures
