-- The bytes of an instance, and 01's second writer ("The patterns"; refusals 4 to 8, 10, 11 and 22).
-- Assumes nothing.
use Rattle.std.specs.Prelude.{ℕ, cond}
use mathlib.Core.List.{List, [], ◌∷◌, ◌++◌, flatten}
use Rattle.types.specs.declared.Header.{Header}
use Rattle.encoding.specs.Bytes.{bytes_of, bytes_of_each}
use Rattle.lists.specs.Places.{tabulate, places}
use Rattle.rules.specs.Call.{Call, answer}
use Rattle.rules.specs.Rule.{◌when◌}
use Rattle.sigma.specs.Admission.{header_rules, element_rules}
use Rattle.sigma.specs.Instance.{Instance, table_of, is_exponent, entry}
use Rattle.formats.specs.Sheet.{sheet_mark, sheet_length}
use Rattle.formats.specs.Write.{Writing, short, writing_at_start}

-- bytes 0..19: the mark, the version 1, the kind, m, ℓ, K, and the counts of rows and columns
unfoldable pub header_bytes : Header → List ℕ
header_bytes h =
    sheet_mark ++ bytes_of 2 1 ++ bytes_of 1 h.kind ++ bytes_of 4 h.modulus ++ bytes_of 4 h.order ++
    bytes_of 4 h.challenges ++ bytes_of 1 h.rows ++ bytes_of 1 h.columns

-- the entries that a sheet stores, row by row; none in kind 2
unfoldable pub stored_entries : Instance → List ℕ
stored_entries inst =
    cond (is_exponent inst.header)
    (flatten (tabulate inst.header.rows (λ i. tabulate inst.header.columns (entry (table_of inst) i)))) []

-- the sheet of an instance; entries and statement are read within rows and columns
unfoldable pub sheet_of : Instance → List ℕ
sheet_of inst =
    header_bytes inst.header ++ bytes_of_each 4 (stored_entries inst) ++
    bytes_of_each 4 (places inst.header.rows inst.statement)

-- writing any values: 4 to 8, 10, 11 and 22, else their sheet
unfoldable pub encoding : Instance → List ℕ → Call Writing
encoding inst buffer =
    writing_at_start
    (header_rules inst.header ++ element_rules inst ++ (22 when short buffer (sheet_length inst.header)) ∷ [])
    (sheet_of inst) buffer

-- the second writer: the sheet of any values, as the loader gives them
unfoldable pub encode : Instance → List ℕ → Writing
encode inst buffer = answer (encoding inst buffer)
