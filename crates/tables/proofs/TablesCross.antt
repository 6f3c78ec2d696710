-- Entries cross row by row.
-- Assumes nothing.
use mathlib.Core.Path.{refl}
use Rattle.rules.proofs.Answer.{unless_refused_zero, unless_refused_positive}
use Rattle.formats.specs.Load.{load_entries}
use Rattle.tables.specs.Flat.{flat, flat_unless_refused}
use Rattle.tables.specs.TablesCross.{TablesCross}
use Rattle.tables.proofs.Flat.{get_d_flat, get_d_square}

pub tables_cross : TablesCross
unfolding flat_unless_refused
tables_cross =
    record {
      rows_in = get_d_square;
      sheet_in = λ h xs z. refl;
      entries_out = λ sheet before i j loads a b.
          rw (loads, unless_refused_zero (flat (load_entries sheet)) before) (get_d_flat (load_entries sheet) i j a b);
      kept = λ sheet before some. unless_refused_positive (flat (load_entries sheet)) before _ some;
    }
