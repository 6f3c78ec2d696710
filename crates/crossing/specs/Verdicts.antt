-- What judging answers, as three numbers.
-- Assumes nothing.
use Rattle.types.specs.declared.Verdict.{Verdict}
use Rattle.types.specs.declared.Verdict.TheVariants.{Accepted, Rejected, Refused}
use Rattle.crossing.specs.declared.Judgement.{Judgement}

-- 1 for accepted, 0 and the mask of the differing rows for rejected, and the number of a refusal
unfoldable pub judgement : Verdict → Judgement
judgement Accepted = record { accepted = 1; rows = 0; refusal = 0 }
judgement (Rejected mask) = record { accepted = 0; rows = mask; refusal = 0 }
judgement (Refused number) = record { accepted = 0; rows = 0; refusal = number }
