-- What reading a round file gives, as the records that cross to other languages: a refusal's number stands beside zeros, and 0 beside
-- what is answered.
-- Assumes nothing.
use Rattle.std.specs.Prelude.{ℕ, Result, Ok, Err}
use Rattle.types.specs.declared.Counted.{Counted}
use Rattle.types.specs.declared.Fetched.{Fetched}
use Rattle.types.specs.declared.Part.{Part}
use Rattle.types.specs.declared.Round.{Round}
use Rattle.refusals.specs.declared.Refusal.{Refusal}
use Rattle.refusals.specs.Number.{number}
use Rattle.formats.specs.RoundCalls.{no_round}

-- the record of a file's count
abbrev pub counted : Result ℕ Refusal → Counted
counted (Ok count) = record { count = count; refusal = 0 }
counted (Err refusal) = record { count = 0; refusal = number refusal }

-- a round's place, which is no byte if it is refused
abbrev pub located : Result Part Refusal → Part
located (Ok place) = place
located (Err refusal) = record { offset = 0; length = 0 }

-- the record of a round's values
abbrev pub fetched : Result Round Refusal → Fetched
fetched (Ok round) = record { round = round; refusal = 0 }
fetched (Err refusal) = record { round = no_round; refusal = number refusal }
