-- The facts of a sheet that loads, on its values (01, "Turned back", 4 to 8, 10 and 11).
-- Assumes nothing.
use Rattle.std.specs.Prelude.{ℕ, ◌<◌, ◌≤◌, ◌≡◌, ◌⊎◌}
use Rattle.std.specs.Int.{◌∣◌}
use Rattle.sigma.specs.Instance.{Instance, Table, table_of, entry, statement_at}
use Rattle.sigma.specs.Element.{Element}

-- none of 4 to 8 and 10 applies to the table
pub record ValidTable (table : Table) : Type 0 where
  pub kind : (table.header.kind ≡ 1) ⊎ (table.header.kind ≡ 2)
  pub modulus : 3 ≤ table.header.modulus
  pub order : 2 ≤ table.header.order
  pub some_row : 1 ≤ table.header.rows
  pub few_rows : table.header.rows ≤ 8
  pub some_column : 1 ≤ table.header.columns
  pub few_columns : table.header.columns ≤ 8
  pub square : table.header.kind ≡ 2 → table.header.rows ≡ table.header.columns
  pub some_challenges : 2 ≤ table.header.challenges
  pub few_challenges : table.header.challenges ≤ 65536
  pub no_divisor : (d : ℕ) → 2 ≤ d → d < table.header.challenges → ¬ (d ∣ table.header.order)
  pub entries :
      table.header.kind ≡ 1 →
      (i j : ℕ) → i < table.header.rows → j < table.header.columns → Element table.header (entry table i j)

-- none of 4 to 8, 10 and 11 applies to the instance
pub record Valid (inst : Instance) : Type 0 where
  pub table : ValidTable (table_of inst)
  pub statement : (i : ℕ) → i < inst.header.rows → Element inst.header (statement_at inst i)
