-- Judging a round (01, "A round"; refusals 14 to 16).
-- Assumes nothing.
use Rattle.std.specs.Prelude.{ℕ, List, [], ◌∷◌}
use Rattle.types.specs.declared.Round.{Round}
use Rattle.types.specs.declared.Verdict.{Verdict}
use Rattle.types.specs.declared.Verdict.TheVariants.{Refused}
use Rattle.lists.specs.Places.{places}
use Rattle.rules.specs.Call.{Call, answer}
use Rattle.rules.specs.Rule.{◌when◌}
use Rattle.sigma.specs.Instance.{Instance}
use Rattle.sigma.specs.Round.{verdict, bad_commitment, bad_challenge, bad_coordinates}

-- judging a round: 14 to 16, else the verdict; s places of t and n places of r are read
unfoldable pub judging : Instance → Round → Call Verdict
judging inst round =
    let t : List ℕ = places inst.header.rows round.commitment in
    let r : List ℕ = places inst.header.columns round.response in
    record {
      refusals =
          (14 when bad_commitment inst t) ∷ (15 when bad_challenge inst round.challenge) ∷ (16 when bad_coordinates inst r) ∷ [];
      value = verdict inst t round.challenge r;
      refused = Refused;
    }

-- the verdict on a round of a Valid instance, for callers that have loaded the sheet
unfoldable pub judge_loaded : Instance → Round → Verdict
judge_loaded inst round = answer (judging inst round)
