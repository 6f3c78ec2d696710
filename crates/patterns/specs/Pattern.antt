-- Patterns (01, "The patterns"; 02, card 2): what a pattern is, the entries that its digits stand for, and the values of the
-- sheet that is made of it.
-- Assumes nothing.
use Rattle.std.specs.Prelude.{ℕ, ◌+◌, ◌-◌, ◌*◌, cond, List, [], eqb, get_or}
use Rattle.types.specs.declared.Header.{Header}
use Rattle.lists.specs.Places.{eight_by_eight, pad8}
use Rattle.sigma.specs.Instance.{Instance}
use Rattle.formats.specs.Sheet.{zeros64}

-- how many rows, columns and public values a pattern has, and its digits, row by row
pub record Pattern : Type 0 where
  pub rows : ℕ
  pub columns : ℕ
  pub values : ℕ
  pub digits : List ℕ

-- the digit of row i and column j
unfoldable pub digit : Pattern → ℕ → ℕ → ℕ
digit p i j = get_or p.digits (p.columns * i + j) 0

-- the entry that a digit stands for: 1 for 0, else the public value of that position, from 1
unfoldable pub entry_of : List ℕ → ℕ → ℕ
entry_of values d = cond (eqb d 0) 1 (get_or values (d - 1) 0)

-- the entries of a pattern over its public values
unfoldable pub pattern_entries : Pattern → List ℕ → List (List ℕ)
pattern_entries p values = eight_by_eight p.rows p.columns (λ i j. entry_of values (digit p i j))

-- the fixed fields of a pattern's sheet of the given kind
unfoldable pub header_for : ℕ → Pattern → ℕ → ℕ → ℕ → Header
header_for kind p modulus order challenges =
    record {
      kind = kind;
      modulus = modulus;
      order = order;
      challenges = challenges;
      rows = p.rows;
      columns = p.columns;
    }

-- the values of a pattern's sheet of the given kind; one of kind 2 has no entries
unfoldable pub made_for : ℕ → Pattern → ℕ → ℕ → ℕ → List ℕ → List ℕ → Instance
made_for kind p modulus order challenges values statement =
    record {
      header = header_for kind p modulus order challenges;
      entries = cond (eqb kind 1) (pattern_entries p values) zeros64;
      statement = pad8 0 statement;
    }

-- the root: one row and one column, and no public value
unfoldable pub root : Pattern
root = record { rows = 1; columns = 1; values = 0; digits = [] }
