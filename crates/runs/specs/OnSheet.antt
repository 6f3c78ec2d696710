-- What a sheet's bytes say of arrays, sessions and challenges (01, "The sheet"): the places that are read (those beyond
-- s or n are not, save those of Peggy's held commitment by 21), and the count K.
-- Assumes nothing.
use Rattle.std.specs.Prelude.{ℕ, ◌<◌, List}
use Rattle.types.specs.declared.Prover.{Prover}
use Rattle.types.specs.declared.Verifier.{Verifier}
use Rattle.lists.specs.Places.{places}
use Rattle.formats.specs.Sheet.{instance_of}

-- what is read of a commitment: s places
abbrev pub read_values : List ℕ → List ℕ → List ℕ
read_values sheet t = places (instance_of sheet).header.rows t

-- what is read of a nonce, a witness or a response: n places
abbrev pub read_slots : List ℕ → List ℕ → List ℕ
read_slots sheet x = places (instance_of sheet).header.columns x

-- what is read of Peggy's session: the state, n places of the nonce, all eight of the commitment, and the memory
abbrev pub read_prover : List ℕ → Prover → Prover
read_prover sheet p =
    record { phase = p.phase; nonce = read_slots sheet p.nonce; commitment = places 8 p.commitment; memory = p.memory }

-- what is read of Vic's session: the state, s places of the commitment and the challenge
abbrev pub read_verifier : List ℕ → Verifier → Verifier
read_verifier sheet v = record { phase = v.phase; commitment = read_values sheet v.commitment; challenge = v.challenge }

-- a challenge is below K
abbrev pub Below : List ℕ → ℕ → Type 0
Below sheet c = c < (instance_of sheet).header.challenges
