-- The remembered rounds of a watch (02, card 9), and which of them a nonce was used in before.
-- Assumes nothing.
use Rattle.std.specs.Prelude.{ℕ, ◌<◌, ◌≢◌, List, [], length, get_or}
use Rattle.types.specs.declared.Round.{Round}
use Rattle.formats.specs.Sheet.{instance_of}
use Rattle.lists.specs.Places.{tabulate}
use Rattle.sigma.specs.Reads.{Agree, round_of}
use Rattle.watches.specs.declared.Watch.{Watch}

-- what stands for a round beyond a list's end
abbrev pub no_round : Round
no_round = round_of [] 0 []

-- the round remembered i rounds before the newest
unfoldable pub remembered_at : Watch → ℕ → Round
remembered_at w i = get_or w.rounds i no_round

-- the remembered rounds, the newest first: as many as the watch counts
unfoldable pub window : Watch → List Round
window w = tabulate w.count (remembered_at w)

-- another round has the same commitment, in s places, and another challenge
abbrev pub Reuses : List ℕ → Round → Round → Type 0
Reuses sheet round other =
    Agree (instance_of sheet).header.rows other.commitment round.commitment × (other.challenge ≢ round.challenge)

-- of rounds with the newest first, the one at b, from 0, is the nearest that has
abbrev pub Nearest : List ℕ → List Round → Round → ℕ → Type 0
Nearest sheet past round b =
    (b < length past) × Reuses sheet round (get_or past b no_round) ×
    ((i : ℕ) → i < b → ¬ Reuses sheet round (get_or past i no_round))
