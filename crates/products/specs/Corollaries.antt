-- What follows from the combiner's answers and refusals: only the places that are read count.
-- Assumes nothing.
use Rattle.std.specs.Prelude.{ℕ, ◌≡◌, List}
use Rattle.formats.specs.Sheet.{instance_of}
use Rattle.products.specs.Players.{AgreeParts}
use Rattle.products.specs.TeamCalls.{TeamCalls}

module _ (combiner : TeamCalls) where
  open combiner use {join_responses, multiply_commitments}

  pub record TeamCorollaries : Type 0 where
    -- rows beyond the count and places beyond s or n are not read, refused or not
    pub multiplied_read : (sheet : List ℕ) (count : ℕ) (images images' commitments commitments' : List (List ℕ))
        → AgreeParts count (instance_of sheet).header.rows images images'
        → AgreeParts count (instance_of sheet).header.rows commitments commitments'
        → multiply_commitments sheet count images commitments ≡ multiply_commitments sheet count images' commitments'
    pub joined_read : (sheet : List ℕ) (count : ℕ) (images images' responses responses' : List (List ℕ))
        → AgreeParts count (instance_of sheet).header.rows images images'
        → AgreeParts count (instance_of sheet).header.columns responses responses'
        → join_responses sheet count images responses ≡ join_responses sheet count images' responses'
