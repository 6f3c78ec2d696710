-- The constant table of the shipped patterns, and its bytes (02, card 2).
-- Assumes nothing.
use Rattle.std.specs.Prelude.{ℕ, ◌*◌, get_or, take}
use mathlib.Core.List.{List, [], ◌∷◌, flatten}
use Rattle.lists.specs.Places.{tabulate}
use Rattle.pattern_writer.specs.declared.Pattern.{Pattern}

-- the bytes of a pattern of the table: rows, columns, number of public values, and rows × columns digits
unfoldable pub stored_pattern : Pattern → List ℕ
stored_pattern p = p.rows ∷ p.columns ∷ p.values ∷ take (p.rows * p.columns) p.digits

-- the table
unfoldable pub table : List Pattern
table =
    record { rows = 1; columns = 1; values = 1; digits = 1 ∷ 0 ∷ 0 ∷ 0 ∷ 0 ∷ 0 ∷ [] } ∷
    record { rows = 1; columns = 2; values = 2; digits = 1 ∷ 2 ∷ 0 ∷ 0 ∷ 0 ∷ 0 ∷ [] } ∷
    record { rows = 2; columns = 1; values = 2; digits = 1 ∷ 2 ∷ 0 ∷ 0 ∷ 0 ∷ 0 ∷ [] } ∷
    record { rows = 2; columns = 1; values = 2; digits = 1 ∷ 2 ∷ 0 ∷ 0 ∷ 0 ∷ 0 ∷ [] } ∷
    record { rows = 2; columns = 3; values = 3; digits = 1 ∷ 2 ∷ 0 ∷ 3 ∷ 0 ∷ 2 ∷ [] } ∷ []

-- pattern k of the table, the first being pattern 0
unfoldable pub table_at : ℕ → Pattern
table_at k = get_or table k (record { rows = 0; columns = 0; values = 0; digits = [] })

-- the bytes of the first k patterns of the table, one after another
unfoldable pub stored_patterns : ℕ → List ℕ
stored_patterns k = flatten (tabulate k (λ i. stored_pattern (table_at i)))
