-- `round_file::reading::round_at` meets its contract: the three fields of a record stand one behind the other.
-- Assumes nothing.
use native.Mathlib.Omega.{arith}
use Rattle.formats.specs.RoundFile.{record_length, round_at}
use Rattle.round_file.proofs.reading.round_at.Goals as goal

pub places_at-commitment-requires-clause-within : goal.places_at-commitment-requires-clause-within
unfolding record_length
places_at-commitment-requires-clause-within c = omega arith

pub challenge_at-challenge-requires-clause-within : goal.challenge_at-challenge-requires-clause-within
unfolding record_length
challenge_at-challenge-requires-clause-within c = omega arith

pub places_at-response-requires-clause-within : goal.places_at-response-requires-clause-within
unfolding record_length
places_at-response-requires-clause-within c = omega arith

pub returns : goal.returns
unfolding round_at
returns c = λ i. record {
  commitment = c.places_at-commitment.ensures i;
  challenge = c.challenge_at-challenge.ensures i;
  response = c.places_at-response.ensures i;
}
