-- A table (01's, the homomorphism) and an instance: the values of a sheet, that is a table with its statement.
-- Assumes nothing.
use Rattle.std.specs.Prelude.{ℕ, Bool, List, [], eqb, get_or}
use Rattle.types.specs.declared.Header.{Header}

-- the fixed fields, and the entries as eight rows of eight
pub record Table : Type 0 where
  pub header : Header
  pub entries : List (List ℕ)

-- the fixed fields, the entries as eight rows of eight, and the statement z in eight places
pub record Instance : Type 0 where
  pub header : Header
  pub entries : List (List ℕ)
  pub statement : List ℕ

-- the fixed fields and the entries as one table
abbrev pub table_with : Header → List (List ℕ) → Table
table_with h entries = record { header = h; entries = entries }

-- the table of an instance
abbrev pub table_of : Instance → Table
table_of inst = table_with inst.header inst.entries

-- the fixed fields, the entries and the statement as one instance
abbrev pub instance_with : Header → List (List ℕ) → List ℕ → Instance
instance_with h entries statement = record { header = h; entries = entries; statement = statement }

-- kind 1, where the domain is numbers mod q; the other is kind 2, where it is group elements
unfoldable pub is_exponent : Header → Bool
is_exponent h = eqb h.kind 1

-- the entry in row i and column j
unfoldable pub entry : Table → ℕ → ℕ → ℕ
entry table i j = get_or (get_or table.entries i []) j 0

-- the statement's value in row i
unfoldable pub statement_at : Instance → ℕ → ℕ
statement_at inst i = get_or inst.statement i 0
