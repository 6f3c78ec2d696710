-- Two combiners answer the same to every input, refused calls too.
-- Assumes nothing.
use Rattle.std.specs.Prelude.{ℕ, ◌≡◌, List}
use Rattle.products.specs.TeamCalls.{TeamCalls}

pub record SameTeam (combiner combiner' : TeamCalls) : Type 0 where
  pub multiply_commitments : (sheet : List ℕ) (count : ℕ) (images commitments : List (List ℕ))
      → combiner.multiply_commitments sheet count images commitments ≡ combiner'.multiply_commitments sheet count images commitments
  pub join_responses : (sheet : List ℕ) (count : ℕ) (images responses : List (List ℕ))
      → combiner.join_responses sheet count images responses ≡ combiner'.join_responses sheet count images responses
