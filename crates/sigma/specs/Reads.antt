-- The places of arrays that 01 reads ("where a call is handed eight places, those beyond s or n are not read").
-- Assumes nothing.
use Rattle.std.specs.Prelude.{ℕ, ◌<◌, ◌≡◌, ◌≢◌, List, get_or}
use Rattle.types.specs.declared.Header.{Header}
use Rattle.types.specs.declared.Round.{Round}
use Rattle.lists.specs.Places.{places, pad8}

-- two arrays agree in their first n places
abbrev pub Agree : ℕ → List ℕ → List ℕ → Type 0
Agree n xs ys = (j : ℕ) → j < n → get_or xs j 0 ≡ get_or ys j 0

-- two arrays differ in one of their first n places
abbrev pub Differ : ℕ → List ℕ → List ℕ → Type 0
Differ n xs ys = (j : ℕ) × (j < n) × (get_or xs j 0 ≢ get_or ys j 0)

-- a round of its three values
abbrev pub round_of : List ℕ → ℕ → List ℕ → Round
round_of t c r = record { commitment = t; challenge = c; response = r }

-- what is read of a round: s places of t, c, and n places of r
abbrev pub read_round : Header → Round → Round
read_round h round = round_of (places h.rows round.commitment) round.challenge (places h.columns round.response)

-- what is read of a round in eight places each, with 0 in those that are not read, as the calls answer it
unfoldable pub padded_round : Header → Round → Round
padded_round h round =
    round_of (pad8 0 (places h.rows round.commitment)) round.challenge
    (pad8 0 (places h.columns round.response))

-- two rounds are the same: all their t, c and r are equal, unread places being no part of them
pub record SameRound (h : Header) (round round' : Round) : Type 0 where
  pub commitment : Agree h.rows round.commitment round'.commitment
  pub challenge : round.challenge ≡ round'.challenge
  pub response : Agree h.columns round.response round'.response
