use native.Mathlib.Omega.{arith}
use Rattle.lists.specs.Places.{zeros8}
use Rattle.lists.proofs.Filling.{filled_start, filled_turn, filled_eight}
use Rattle.maker.proofs.RowDigits.{entries_whole, sizes_read}
use Rattle.maker.proofs.entries.entries_of.Goals as goal

pub sizes_at-p-requires : goal.sizes_at-p-requires
sizes_at-p-requires c = omega (arith, c.requires.within)

pub loop-i-init : goal.loop-i-init
loop-i-init c =
    filled_start (omega (arith, (sizes_read _ _ c.sizes_at-p.ensures).0, c.requires.few_rows))

pub row_of-requires : goal.row_of-requires
row_of-requires c =
    let (rows, columns, _) = sizes_read _ _ c.sizes_at-p.ensures in
    record {
      named = c.requires;
      columns = columns;
      row = omega arith;
    }

pub loop-i-preserved : goal.loop-i-preserved
loop-i-preserved c = filled_turn c.loop-i.invariant (omega arith) c.row_of.ensures

pub returns : goal.returns
unfolding zeros8
returns c =
    entries_whole _ _ (sizes_read _ _ c.sizes_at-p.ensures).0 (filled_eight c.loop-i.invariant (omega arith))
