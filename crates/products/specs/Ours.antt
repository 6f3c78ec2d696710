-- The combiner's calls as they are defined, by the definitions that the contracts cite, and the words on calls of these.
-- Assumes nothing.
use Rattle.std.specs.Prelude.{ℕ, List}
use Rattle.types.specs.declared.Round.{Round}
use Rattle.runs.specs.Ours.{run_calls}
use Rattle.products.specs.Players.{
  BothRun as BothRunBy,
  Honest as HonestBy,
  Sends as SendsBy,
  whole_round as whole_round_by,
}
use Rattle.products.specs.Team.{multiply_commitments, join_responses}
use Rattle.products.specs.TeamCalls.{TeamCalls}

abbrev pub team_calls : TeamCalls
team_calls = record {
  multiply_commitments = multiply_commitments;
  join_responses = join_responses;
}

abbrev pub Honest : List ℕ → ℕ → List (List ℕ) → List (List ℕ) → ℕ → List (List ℕ) → List (List ℕ) → List (List ℕ) → Type 0
Honest sheet count images xs c ks commitments responses = HonestBy run_calls sheet count images xs c ks commitments responses

abbrev pub Sends : List ℕ → List ℕ → ℕ → List ℕ → Round → Type 0
Sends sheet x c k round = SendsBy run_calls sheet x c k round

abbrev pub BothRun : List ℕ → ℕ → List (List ℕ) → List (List ℕ) → List (List ℕ) → Type 0
BothRun sheet count images commitments responses = BothRunBy team_calls sheet count images commitments responses

abbrev pub whole_round : List ℕ → ℕ → List (List ℕ) → List (List ℕ) → ℕ → List (List ℕ) → Round
whole_round sheet count images commitments c responses = whole_round_by team_calls sheet count images commitments c responses
