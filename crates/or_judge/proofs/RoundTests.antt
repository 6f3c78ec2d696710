-- The tests of a round (14 to 16) look at the places that are read.
-- Assumes nothing.
use Prim.Native.Nat.{◌<◌, ◌≤◌}
use mathlib.Core.Path.{◌≡◌, ap₂}
use mathlib.Core.Bool.{◌||◌, false, true, or-eq-true_iff}
use mathlib.Core.Logic.Or
use mathlib.Core.Logic.{◌↔◌, ◌⊎◌, inl, inr}
use Rattle.image.proofs.Tested.{commitment_read, coordinates_read}
use Rattle.sigma.specs.Element.{some_non_coordinate, some_non_element}
use Rattle.sigma.specs.Instance.{Instance}
use Rattle.sigma.specs.Round.{bad_challenge}
use Rattle.sigma.proofs.Calculus.{both_fail}
use Rattle.sigma.proofs.Passed.{challenge_passes}
use Rattle.sigma.proofs.Tests.{says_bad_challenge}
use Rattle.disjunctions.specs.declared.OrRound.{OrRound}
use Rattle.disjunctions.specs.Judge.{bad_challenges, bad_commitments, bad_responses}
use Rattle.disjunctions.specs.Round.{read_or}

module _ (i j : Instance) where
  -- 14
  pub commitments_read : (round : OrRound)
      → bad_commitments i j (read_or i j round)
      ≡ (some_non_element i.header i.header.rows round.commitment0 || some_non_element j.header j.header.rows round.commitment1)
  unfolding bad_commitments read_or
  commitments_read round = ap₂ ◌||◌ (commitment_read i _) (commitment_read j _)

  -- 15
  pub challenges_pass : (round : OrRound)
      → (bad_challenges i (read_or i j round) ≡ false) ↔ ((round.challenge < i.header.challenges) × (round.challenge0 < i.header.challenges))
  unfolding bad_challenges read_or
  challenges_pass round =
      let both = both_fail (bad_challenge i round.challenge) (bad_challenge i round.challenge0) in
      let whole = challenge_passes i round.challenge in
      let taken = challenge_passes i round.challenge0 in
      (λ e. (whole.0 (both.0 e).0, taken.0 (both.0 e).1), λ (a, b). both.1 (whole.1 a, taken.1 b))

  pub challenges_stop : (round : OrRound)
      → (i.header.challenges ≤ round.challenge) ⊎ ((round.challenge < i.header.challenges) × (i.header.challenges ≤ round.challenge0))
      → bad_challenges i (read_or i j round) ≡ true
  unfolding bad_challenges read_or
  challenges_stop round (inl large) = (or-eq-true_iff _ _).1 (Or.inl ((says_bad_challenge i _).complete large))
  challenges_stop round (inr (small, large)) =
      (or-eq-true_iff (bad_challenge i round.challenge) _).1 (Or.inr ((says_bad_challenge i _).complete large))

  -- 16
  pub responses_read : (round : OrRound)
      → bad_responses i j (read_or i j round)
      ≡ (some_non_coordinate i.header i.header.columns round.response0
      || some_non_coordinate j.header j.header.columns round.response1)
  unfolding bad_responses read_or
  responses_read round = ap₂ ◌||◌ (coordinates_read i _) (coordinates_read j _)
