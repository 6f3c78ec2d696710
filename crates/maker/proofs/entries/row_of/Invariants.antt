-- `maker::entries::row_of` meets its contract. The invariant: the first j places hold the row's first j entries, and those beyond hold 0.
-- Assumes nothing.
use Rattle.lists.proofs.Filling.{Filled}
use Rattle.patterns.specs.Pattern.{digit, entry_of}
use Rattle.patterns.specs.PatternFile.{pattern_from}
use Rattle.maker.proofs.entries.row_of.Given as goal

abbrev pub invariant-loop-j : goal.invariant-loop-j
invariant-loop-j l =
    Filled l.initial.row l.columns (λ k. entry_of l.values (digit (pattern_from l.file l.at) l.i k)) l.row l.j
