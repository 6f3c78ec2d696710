-- What the maker of sheets from linear forms is given (02, card 10): how many generators, coefficients and statement values there are
-- is the length of their list.
-- Assumes nothing.
use Rattle.std.specs.Prelude.{ℕ, List}

pub record LinearPlan : Type 0 where
  pub modulus : ℕ
  pub order : ℕ
  pub challenges : ℕ
  pub rows : ℕ
  pub columns : ℕ
  pub generators : List ℕ
  pub coefficients : List ℕ
  pub statement : List ℕ

-- the plan of numbers and lists in the order of the export's parameters
abbrev pub linear_plan : ℕ → ℕ → ℕ → ℕ → ℕ → List ℕ → List ℕ → List ℕ → LinearPlan
linear_plan modulus order challenges rows columns generators coefficients statement =
    record {
      modulus = modulus;
      order = order;
      challenges = challenges;
      rows = rows;
      columns = columns;
      generators = generators;
      coefficients = coefficients;
      statement = statement;
    }
