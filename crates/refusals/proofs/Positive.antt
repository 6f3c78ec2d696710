-- Every refusal has a number above 0, so that 0 can stand for none; and so a call that is refused, or not, by a test.
-- Assumes nothing.
use Prim.Native.Nat.{◌<◌}
use mathlib.Core.Path.{◌≡◌}
use native.Mathlib.Omega.{arith}
use Rattle.rules.specs.Call.{Call, answer, number_of}
use Rattle.rules.proofs.Call.{tested_refused, tested_value}
use Rattle.refusals.specs.Number.{number}
use Rattle.refusals.specs.declared.Refusal.{Refusal}
use Rattle.refusals.specs.declared.Refusal.TheVariants.{
  Pattern,
  Start,
  Version,
  Kind,
  Modulus,
  Order,
  Size,
  Count,
  Length,
  Entry,
  Statement,
  File,
  Round,
  Commitment,
  Challenge,
  Slot,
  Witness,
  OtherCommitment,
  SameChallenge,
  Rejected,
  Session,
  Buffer,
  PatternFile,
  Digit,
  Level,
  OtherCount,
  Team,
  Image,
  Plan,
  Coefficient,
  Game,
  Answered,
  FullList,
  Name,
  LineKind,
  LineAbove,
  Lines,
}

-- the number of a refusal is above 0
pub number_positive : (refusal : Refusal) → 0 < number refusal
number_positive Pattern = omega arith
number_positive Start = omega arith
number_positive Version = omega arith
number_positive Kind = omega arith
number_positive Modulus = omega arith
number_positive Order = omega arith
number_positive Size = omega arith
number_positive Count = omega arith
number_positive Length = omega arith
number_positive Entry = omega arith
number_positive Statement = omega arith
number_positive File = omega arith
number_positive Round = omega arith
number_positive Commitment = omega arith
number_positive Challenge = omega arith
number_positive Slot = omega arith
number_positive Witness = omega arith
number_positive OtherCommitment = omega arith
number_positive SameChallenge = omega arith
number_positive Rejected = omega arith
number_positive Session = omega arith
number_positive Buffer = omega arith
number_positive PatternFile = omega arith
number_positive Digit = omega arith
number_positive Level = omega arith
number_positive OtherCount = omega arith
number_positive Team = omega arith
number_positive Image = omega arith
number_positive Plan = omega arith
number_positive Coefficient = omega arith
number_positive Game = omega arith
number_positive Answered = omega arith
number_positive FullList = omega arith
number_positive Name = omega arith
number_positive LineKind = omega arith
number_positive LineAbove = omega arith
number_positive Lines = omega arith

module _ {A : Type 0} (call : Call A) where
  -- a call whose tests gave a refusal hands back what belongs to its number
  pub call_refused : (refusal : Refusal) → number refusal ≡ number_of call → call.refused (number refusal) ≡ answer call
  call_refused refusal is_number =
      tested_refused call is_number (λ e. omega (arith, e, number_positive refusal))

  -- and one whose tests gave none answers its value
  pub call_answered : 0 ≡ number_of call → call.value ≡ answer call
  call_answered is_number = tested_value call is_number (λ i. 0)
