-- Answers: what 01 says of each case of an enum, and eight values beside a refusal.
-- Assumes nothing.
use Rattle.std.specs.Prelude.{ℕ, ◌/◌, ◌%◌, ◌^◌, ◌<◌, ◌≡◌, Bool, true, false, ◌↔◌, List, [], ◌∷◌}
use Rattle.types.specs.declared.Computed.{Computed}
use Rattle.types.specs.declared.Verdict.{Verdict}
use Rattle.types.specs.declared.Verdict.TheVariants.{Accepted, Rejected, Refused}
use Rattle.numbers.specs.Bits.{bit}
use Rattle.lists.specs.Choices.{selected}
use Rattle.lists.specs.Member.{Member, Rising}
use Rattle.lists.specs.Places.{pad8, zeros8}
use Rattle.rules.specs.Answer.{unless_refused}

-- an answer as a refusal's number, 0 for none, and the values beside it
pub record Outcome : Type 0 where
  pub number : ℕ
  pub values : List ℕ

-- the rows of a mask, rising: row i where bit i is set; a sheet has eight rows at most
unfoldable pub rows_of : ℕ → List ℕ
rows_of mask = selected 8 (bit mask)

-- a verdict's outcome: 1 for accepted, 0 and the differing rows for rejected
unfoldable pub outcome : Verdict → Outcome
outcome Accepted = record { number = 0; values = 1 ∷ [] }
outcome (Rejected mask) = record { number = 0; values = 0 ∷ rows_of mask }
outcome (Refused number) = record { number = number; values = [] }

-- the outcomes of the three verdicts, in numbers, and what the rows of a mask are
pub record VerdictOutcomes : Type 0 where
  pub accepted : outcome Accepted ≡ record { number = 0; values = 1 ∷ [] }
  pub rejected : (mask : ℕ) → outcome (Rejected mask) ≡ record { number = 0; values = 0 ∷ rows_of mask }
  pub refused : (number : ℕ) → outcome (Refused number) ≡ record { number = number; values = [] }
  -- row i, below 8, is among them exactly if 2^i is in the mask, and they rise
  pub rows : (mask i : ℕ) → Member i (rows_of mask) ↔ ((i < 8) × (mask / 2 ^ i % 2 ≡ 1))
  pub rising : (mask : ℕ) → Rising (rows_of mask)

-- whether a verdict is accepted
unfoldable pub is_accepted : Verdict → Bool
is_accepted Accepted = true
is_accepted (Rejected mask) = false
is_accepted (Refused number) = false

-- a verdict, or the refusal with its number
unfoldable pub judged : ℕ → Verdict → Verdict
judged refusal v = unless_refused refusal v (Refused refusal)

-- values in eight places, 0 beyond them; zeros where the call is refused
unfoldable pub eight_places : ℕ → List ℕ → List ℕ
eight_places refusal xs = unless_refused refusal (pad8 0 xs) zeros8

-- the answer of a call that computes values
unfoldable pub computed : ℕ → List ℕ → Computed
computed refusal xs = record { refusal = refusal; values = eight_places refusal xs }
