-- Exactly when a call of the combiner is not refused (02, card 6), without the conditions of its refusals: in the words of a team.
-- So a condition that is changed together with its test is seen.
-- Assumes nothing.
use Rattle.std.specs.Prelude.{ℕ, ◌<◌, ◌≡◌, ◌↔◌, List}
use Rattle.formats.specs.FileCalls.{FileCalls}
use Rattle.formats.specs.Sheet.{instance_of}
use Rattle.sigma.specs.Meaning.{Coordinates, Elements}
use Rattle.products.specs.Players.{IsTeam}
use Rattle.products.specs.Team.{part}
use Rattle.products.specs.TeamCalls.{TeamCalls}

pub record TeamRuns (files : FileCalls) (combiner : TeamCalls) : Type 0 where
  -- multiplying: the sheet loads, there is a team, and each player's commitment has group elements in s places
  pub multiplies : (sheet : List ℕ) (count : ℕ) (images commitments : List (List ℕ))
      → ((combiner.multiply_commitments sheet count images commitments).refusal ≡ 0) ↔ (((files.load sheet).refusal ≡ 0)
      × IsTeam sheet count images × ((p : ℕ) → p < count → Elements (instance_of sheet) (part commitments p)))
  -- joining: likewise, and each player's response has domain slots in n places
  pub joins : (sheet : List ℕ) (count : ℕ) (images responses : List (List ℕ))
      → ((combiner.join_responses sheet count images responses).refusal ≡ 0) ↔ (((files.load sheet).refusal ≡ 0)
      × IsTeam sheet count images × ((p : ℕ) → p < count → Coordinates (instance_of sheet) (part responses p)))
