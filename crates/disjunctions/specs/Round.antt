-- A round of the OR proof on values (02, card 4): its two sides, each a round of its own sheet, and what is read of it.
-- Assumes nothing.
use Rattle.std.specs.Prelude.{ℕ, ◌+◌, ◌-◌, ◌%◌, List}
use Rattle.types.specs.declared.Round.{Round}
use Rattle.disjunctions.specs.declared.OrRound.{OrRound}
use Rattle.lists.specs.Places.{places}
use Rattle.sigma.specs.Instance.{Instance}
use Rattle.sigma.specs.Reads.{round_of}

-- the challenge that is left of c once d is taken: (c − d) mod K, for a d below K
unfoldable pub other_challenge : ℕ → ℕ → ℕ → ℕ
other_challenge K c d = (c + (K - d)) % K

-- side 0: t0, c0 and r0
unfoldable pub first_round : OrRound → Round
first_round round = round_of round.commitment0 round.challenge0 round.response0

-- side 1: t1, c1 = (c − c0) mod K and r1
unfoldable pub second_round : ℕ → OrRound → Round
second_round K round =
    round_of round.commitment1 (other_challenge K round.challenge round.challenge0) round.response1

-- what is read of a round: of each side s places of the commitment and n of the response, by its own sheet
unfoldable pub read_or : Instance → Instance → OrRound → OrRound
read_or i j round =
    record {
      commitment0 = places i.header.rows round.commitment0;
      commitment1 = places j.header.rows round.commitment1;
      response0 = places i.header.columns round.response0;
      response1 = places j.header.columns round.response1;
      challenge = round.challenge;
      challenge0 = round.challenge0;
    }
