-- `maker::entries::entries_of` meets its contract. The invariant: the first i rows are the pattern's, and those beyond hold zeros.
-- Assumes nothing.
use Rattle.lists.proofs.Filling.{Filled}
use Rattle.patterns.specs.PatternFile.{pattern_from}
use Rattle.maker.specs.Rows.{pattern_row}
use Rattle.maker.proofs.entries.entries_of.Given as goal

abbrev pub invariant-loop-i : goal.invariant-loop-i
invariant-loop-i l = Filled l.initial.entries l.rows (pattern_row (pattern_from l.file l.at) l.values) l.entries l.i
