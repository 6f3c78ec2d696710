use mathlib.Core.Path.{ap, ◌∙◌}
use native.Mathlib.Omega.{arith}
use Rattle.lists.proofs.Filling.{filled_start, filled_turn, filled_eight}
use Rattle.patterns.specs.Pattern.{entry_of}
use Rattle.maker.proofs.RowDigits.{digit_read, row_ends, row_whole}
use Rattle.maker.proofs.entries.row_of.Goals as goal

pub overflow_add-start : goal.overflow_add-start
overflow_add-start c = omega (arith, row_ends _ _ _ c.requires.row c.requires.columns c.requires.named)

pub overflow_mul-start : goal.overflow_mul-start
overflow_mul-start c = omega (arith, row_ends _ _ _ c.requires.row c.requires.columns c.requires.named)

pub overflow_add-start-2 : goal.overflow_add-start-2
overflow_add-start-2 c = omega (arith, row_ends _ _ _ c.requires.row c.requires.columns c.requires.named)

pub loop-j-init : goal.loop-j-init
loop-j-init c =
    filled_start (omega (arith, c.requires.named.few_columns))

pub overflow_add-start-in-loop-j : goal.overflow_add-start-in-loop-j
overflow_add-start-in-loop-j c = omega (arith, row_ends _ _ _ c.requires.row c.requires.columns c.requires.named)

pub read_u8-requires : goal.read_u8-requires
read_u8-requires c = omega (arith, row_ends _ _ _ c.requires.row c.requires.columns c.requires.named)

pub entry_of-requires : goal.entry_of-requires
entry_of-requires c =
    rw (digit_read _ _ _ c.requires.row c.requires.columns _ c.loop-j-test.true c.read_u8.ensures.value) (c.requires.named.named _ _ c.requires.row (omega arith))

pub loop-j-preserved : goal.loop-j-preserved
loop-j-preserved c =
    filled_turn c.loop-j.invariant (omega arith) (c.entry_of.ensures ∙ ap (entry_of _) (digit_read _ _ _ c.requires.row c.requires.columns _ c.loop-j-test.true c.read_u8.ensures.value))

pub returns : goal.returns
returns c =
    row_whole _ _ _ c.requires.columns (filled_eight c.loop-j.invariant (omega arith))
