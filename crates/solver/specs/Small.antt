-- What the search asks of a header. A sheet that loads and whose game is not too large has it.
-- Assumes nothing.
use Rattle.std.specs.Prelude.{◌^◌, ◌<◌, ◌≤◌, ◌≡◌, ◌≢◌}
use Rattle.types.specs.declared.Header.{Header}

pub record Small (h : Header) : Type 0 where
  pub modulus : 0 < h.modulus
  pub order : 0 < h.order
  pub some_row : 0 < h.rows
  pub few_rows : h.rows ≤ 8
  pub few_columns : h.columns ≤ 8
  -- kind 1: q^n is at most 4,096
  pub few_choices : h.kind ≡ 1 → h.order ^ h.columns ≤ 4096
  -- kind 2: m is at most 4,096, and there is one row and one column
  pub small_modulus : h.kind ≢ 1 → h.modulus ≤ 4096
  pub one_row : h.kind ≢ 1 → h.rows ≡ 1
  pub one_column : h.kind ≢ 1 → h.columns ≡ 1
