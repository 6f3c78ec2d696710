-- The numbers of the refusals (01, "Turned back"; 02), and a result as the record that crosses to other languages.
-- Assumes nothing.
use Rattle.std.specs.Prelude.{ℕ, List, Result, Ok, Err}
use Rattle.types.specs.declared.Computed.{Computed}
use Rattle.types.specs.declared.Written.{Written}
use Rattle.lists.specs.Places.{zeros8}
use Rattle.refusals.specs.declared.Refusal.{Refusal}
use Rattle.refusals.specs.declared.Refusal.TheVariants.{
  Pattern,
  Start,
  Version,
  Kind,
  Modulus,
  Order,
  Size,
  Count,
  Length,
  Entry,
  Statement,
  File,
  Round,
  Commitment,
  Challenge,
  Slot,
  Witness,
  OtherCommitment,
  SameChallenge,
  Rejected,
  Session,
  Buffer,
  PatternFile,
  Digit,
  Level,
  OtherCount,
  Team,
  Image,
  Plan,
  Coefficient,
  Game,
  Answered,
  FullList,
  Name,
  LineKind,
  LineAbove,
  Lines,
}

-- the number of a refusal
abbrev pub number : Refusal → ℕ
number Pattern = 1
number Start = 2
number Version = 3
number Kind = 4
number Modulus = 5
number Order = 6
number Size = 7
number Count = 8
number Length = 9
number Entry = 10
number Statement = 11
number File = 12
number Round = 13
number Commitment = 14
number Challenge = 15
number Slot = 16
number Witness = 17
number OtherCommitment = 18
number SameChallenge = 19
number Rejected = 20
number Session = 21
number Buffer = 22
number PatternFile = 23
number Digit = 24
number Level = 25
number OtherCount = 26
number Team = 27
number Image = 28
number Plan = 29
number Coefficient = 30
number Game = 31
number Answered = 32
number FullList = 33
number Name = 34
number LineKind = 35
number LineAbove = 36
number Lines = 37

-- the number that a result is refused with, 0 if it is not
abbrev pub refused_with : {A : Type 0} → Result A Refusal → ℕ
refused_with (Ok value) = 0
refused_with (Err refusal) = number refusal

-- the record of values: zeros beside a refusal's number
abbrev pub computed : Result (List ℕ) Refusal → Computed
computed (Ok values) = record { values = values; refusal = 0 }
computed (Err refusal) = record { values = zeros8; refusal = number refusal }

-- the record of a length in a lent buffer
abbrev pub written : Result ℕ Refusal → Written
written (Ok length) = record { length = length; refusal = 0 }
written (Err refusal) = record { length = 0; refusal = number refusal }
