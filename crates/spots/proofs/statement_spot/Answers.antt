-- `spots::statement_spot` meets its contract: the statement stands at the end of a sheet that has the shape of one.
-- Assumes nothing.
use mathlib.Core.Path.{refl}
use Rattle.reasons.specs.Reason.{sheet_spot}
use Rattle.spots.proofs.RefusedSheet.{fields_inside, statement_inside}
use Rattle.spots.proofs.statement_spot.Goals as goal

pub header-h-requires : goal.header-h-requires
header-h-requires c = fields_inside _ _ refl c.requires.shaped

pub element_spot-requires-clause-within : goal.element_spot-requires-clause-within
element_spot-requires-clause-within c =
    let same = c.header-h.ensures in
    let modulus = c.requires.modulus in let shaped = c.requires.shaped in statement_inside _ _ same shaped _ c.entry_count.ensures.value

pub returns : goal.returns
unfolding sheet_spot
returns c found =
    rw (← c.header-h.ensures, ← c.entry_count.ensures.value) c.element_spot.ensures
