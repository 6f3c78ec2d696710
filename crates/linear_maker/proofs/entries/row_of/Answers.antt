use native.Mathlib.Omega.{arith}
use Rattle.lists.proofs.Filling.{filled_start, filled_turn, filled_eight}
use Rattle.linear_maker.specs.Plan.{linear_row}
use Rattle.linear_maker.proofs.entries.row_of.Goals as goal

pub loop-j-init : goal.loop-j-init
loop-j-init c = filled_start (omega (arith, c.requires.counted.few_columns))

pub entry_of-requires : goal.entry_of-requires
entry_of-requires c =
    let counted = c.requires.counted in let row = c.requires.row in
    record {
      counted = counted;
      row = row;
      column = omega arith;
    }

pub loop-j-preserved : goal.loop-j-preserved
loop-j-preserved c = filled_turn c.loop-j.invariant (omega arith) c.entry_of.ensures

pub returns : goal.returns
unfolding linear_row
returns c = filled_eight c.loop-j.invariant (omega arith)
