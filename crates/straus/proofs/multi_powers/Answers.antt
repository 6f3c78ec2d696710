-- `straus::multi_powers` meets its contract: the rows of one four or of two.
-- Assumes nothing.
use mathlib.Core.Path.{◌∙◌}
use Rattle.lists.specs.Places.{items_at, tabulate}
use Rattle.powers.proofs.Lanes.{one_four, two_fours}
use Rattle.straus.specs.MultiPowers.{multi_powers}
use Rattle.straus.proofs.Columns.{rows_from}
use Rattle.straus.proofs.multi_powers.Goals as goal

pub returns-then-rows-le4 : goal.returns-then-rows-le4
unfolding multi_powers tabulate items_at
returns-then-rows-le4 c =
    let args = c.args in
    one_four _ _ _ c.if-rows-le4.true ((simp c.new-by.ensures at c.four_rows-low.ensures) ∙ rows_from args.m args.n 0 args.entries args.exponents)

pub returns : goal.returns
unfolding multi_powers tabulate items_at
returns c =
    let args = c.args in
    two_fours _ _ _ _ c.requires.1
    ((simp c.new-by.ensures at c.four_rows-low.ensures) ∙ rows_from args.m args.n 0 args.entries args.exponents)
    ((simp c.new-by.ensures at c.four_rows-high.ensures) ∙ rows_from args.m args.n 4 args.entries args.exponents)
