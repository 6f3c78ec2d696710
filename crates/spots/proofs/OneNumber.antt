-- A refusal is the only one with its number.
-- Assumes nothing.
use Prim.Native.Nat.{ℕ, ◌-◌}
use mathlib.Core.Path.{◌≡◌, refl, sym, ap, ◌∙◌}
use mathlib.Core.List.{List, [], ◌∷◌}
use lib.ListN.{get_or}
use Rattle.refusals.specs.Number.{number}
use Rattle.refusals.specs.declared.Refusal.{Refusal}
use Rattle.refusals.specs.declared.Refusal.TheVariants.{
  Pattern,
  Start,
  Version,
  Kind,
  Modulus,
  Order,
  Size,
  Count,
  Length,
  Entry,
  Statement,
  File,
  Round,
  Commitment,
  Challenge,
  Slot,
  Witness,
  OtherCommitment,
  SameChallenge,
  Rejected,
  Session,
  Buffer,
  PatternFile,
  Digit,
  Level,
  OtherCount,
  Team,
  Image,
  Plan,
  Coefficient,
  Game,
  Answered,
  FullList,
  Name,
  LineKind,
  LineAbove,
  Lines,
}

-- the refusals by their numbers
abbrev by_number : List Refusal
by_number =
    Pattern ∷
    Start ∷
    Version ∷
    Kind ∷
    Modulus ∷
    Order ∷
    Size ∷
    Count ∷
    Length ∷
    Entry ∷
    Statement ∷
    File ∷
    Round ∷
    Commitment ∷
    Challenge ∷
    Slot ∷
    Witness ∷
    OtherCommitment ∷
    SameChallenge ∷
    Rejected ∷
    Session ∷
    Buffer ∷
    PatternFile ∷
    Digit ∷
    Level ∷
    OtherCount ∷
    Team ∷
    Image ∷
    Plan ∷
    Coefficient ∷
    Game ∷
    Answered ∷
    FullList ∷
    Name ∷
    LineKind ∷
    LineAbove ∷
    Lines ∷
    []

-- each stands where its number says
stands : (refusal : Refusal) → get_or by_number (number refusal - 1) Pattern ≡ refusal
stands Pattern = refl
stands Start = refl
stands Version = refl
stands Kind = refl
stands Modulus = refl
stands Order = refl
stands Size = refl
stands Count = refl
stands Length = refl
stands Entry = refl
stands Statement = refl
stands File = refl
stands Round = refl
stands Commitment = refl
stands Challenge = refl
stands Slot = refl
stands Witness = refl
stands OtherCommitment = refl
stands SameChallenge = refl
stands Rejected = refl
stands Session = refl
stands Buffer = refl
stands PatternFile = refl
stands Digit = refl
stands Level = refl
stands OtherCount = refl
stands Team = refl
stands Image = refl
stands Plan = refl
stands Coefficient = refl
stands Game = refl
stands Answered = refl
stands FullList = refl
stands Name = refl
stands LineKind = refl
stands LineAbove = refl
stands Lines = refl

-- so two of one number are one
pub one_number : (a b : Refusal) → number a ≡ number b → a ≡ b
one_number a b same =
    sym (stands a) ∙ ap (λ (n : ℕ). get_or by_number (n - 1) Pattern) same ∙ stands b
