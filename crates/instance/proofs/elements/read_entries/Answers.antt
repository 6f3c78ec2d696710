-- `instance::elements::read_entries` meets its contract: the rows lie within a sheet of kind 1.
-- Assumes nothing.
use mathlib.Core.Path.{◌∙◌}
use native.Mathlib.Omega.{arith}
use Rattle.lists.specs.Places.{zeros8}
use Rattle.formats.specs.Sheet.{zeros64}
use Rattle.instance.proofs.SheetRows.{rows_within, entries_rows, entries_none}
use Rattle.instance.proofs.elements.read_entries.Goals as goal

pub read_rows-requires-clause-within : goal.read_rows-requires-clause-within
read_rows-requires-clause-within c =
    omega (arith, rows_within _ _ c.requires c.if-h-eq1.true)

pub returns-then-h-eq1 : goal.returns-then-h-eq1
returns-then-h-eq1 c =
    c.read_rows.ensures ∙ entries_rows _ c.args.h c.if-h-eq1.true

pub returns : goal.returns
unfolding zeros64 zeros8
returns c = entries_none _ _ c.if-h-eq1.false
