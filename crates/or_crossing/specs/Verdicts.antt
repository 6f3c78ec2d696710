-- What judging a round of the OR proof answers, as four numbers.
-- Assumes nothing.
use Rattle.disjunctions.specs.declared.OrVerdict.{OrVerdict}
use Rattle.disjunctions.specs.declared.OrVerdict.TheVariants.{OrAccepted, OrRejected, OrRefused}
use Rattle.or_crossing.specs.declared.OrJudgement.{OrJudgement}

-- 1 for accepted, 0 and the masks of both sides' differing rows for rejected, and the number of a refusal
unfoldable pub or_judgement : OrVerdict → OrJudgement
or_judgement OrAccepted = record { accepted = 1; rows0 = 0; rows1 = 0; refusal = 0 }
or_judgement (OrRejected mask0 mask1) = record { accepted = 0; rows0 = mask0; rows1 = mask1; refusal = 0 }
or_judgement (OrRefused number) = record { accepted = 0; rows0 = 0; rows1 = 0; refusal = number }
