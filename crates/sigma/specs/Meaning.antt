-- What 01 says of rounds, as facts ("A round"; 14 to 16 and 18 to 20): the two sides row by row, and what a call asks for.
-- Assumes nothing.
use Rattle.std.specs.Prelude.{ℕ, ◌*◌, ◌%◌, ◌^◌, ◌<◌, ◌≡◌, ◌↔◌, ◌≢◌, List, length, get_or}
use Rattle.types.specs.declared.Round.{Round}
use Rattle.lists.specs.Member.{Member, Rising}
use Rattle.sigma.specs.Instance.{Instance, table_of, statement_at}
use Rattle.sigma.specs.Element.{Element, Coordinate}
use Rattle.sigma.specs.Image.{row_image}
use Rattle.sigma.specs.Reads.{Agree}

-- the two sides of one row agree: [r]_i = t_i · z_i^c mod m
abbrev pub RowHolds : Instance → Round → ℕ → Type 0
RowHolds inst round row =
    row_image (table_of inst) round.response row ≡ get_or round.commitment row 0 * statement_at inst row ^ round.challenge % inst.header.modulus

-- the two sides of every row agree
abbrev pub Holds : Instance → Round → Type 0
Holds inst round = (row : ℕ) → row < inst.header.rows → RowHolds inst round row

-- `row` is the first row, from 0, whose two sides differ
pub record FailsFirst (inst : Instance) (round : Round) (row : ℕ) : Type 0 where
  pub inside : row < inst.header.rows
  pub fails : ¬ RowHolds inst round row
  pub before : (k : ℕ) → k < row → RowHolds inst round k

-- `rows` are exactly the rows whose two sides differ, rising, and there is at least one
pub record FailsExactly (inst : Instance) (round : Round) (rows : List ℕ) : Type 0 where
  pub exactly : (i : ℕ) → Member i rows ↔ ((i < inst.header.rows) × (¬ RowHolds inst round i))
  pub rising : Rising rows
  pub some : 0 < length rows

-- every value is a group element (14)
abbrev pub Elements : Instance → List ℕ → Type 0
Elements inst t = (row : ℕ) → row < inst.header.rows → Element inst.header (get_or t row 0)

-- every slot is a coordinate of the domain (16)
abbrev pub Coordinates : Instance → List ℕ → Type 0
Coordinates inst x = (j : ℕ) → j < inst.header.columns → Coordinate inst.header (get_or x j 0)

-- what 14 to 16 ask of a round
pub record Fits (inst : Instance) (round : Round) : Type 0 where
  pub commitment : Elements inst round.commitment
  pub challenge : round.challenge < inst.header.challenges
  pub response : Coordinates inst round.response

-- what 14 to 16 and 18 to 20 ask of the extractor's two rounds
pub record Extracts (inst : Instance) (first second : Round) : Type 0 where
  pub first_fits : Fits inst first
  pub second_fits : Fits inst second
  pub commitments : Agree inst.header.rows first.commitment second.commitment
  pub challenges : first.challenge ≢ second.challenge
  pub first_holds : Holds inst first
  pub second_holds : Holds inst second
