-- Judging by the number of 14 to 16 that a round is refused with, or by the verdict if there is none.
-- Assumes nothing.
use mathlib.Core.Path.{◌≡◌, ◌∙◌}
use Rattle.types.specs.declared.Round.{Round}
use Rattle.types.specs.declared.Verdict.{Verdict}
use Rattle.types.specs.declared.Verdict.TheVariants.{Refused}
use Rattle.lists.specs.Places.{places}
use Rattle.rules.specs.Call.{number_of}
use Rattle.sigma.specs.Instance.{Instance}
use Rattle.sigma.specs.Judge.{judging, judge_loaded}
use Rattle.sigma.specs.Round.{verdict}
use Rattle.refusals.specs.Number.{number}
use Rattle.refusals.specs.declared.Refusal.{Refusal}
use Rattle.refusals.proofs.Positive.{call_refused, call_answered}

module _ (inst : Instance) (round : Round) where
  -- a refusal's number is the whole answer
  pub judge_number : (refusal : Refusal) → number refusal ≡ number_of (judging inst round) → Refused (number refusal) ≡ judge_loaded inst round
  unfolding judge_loaded judging
  judge_number refusal is_number = call_refused (judging inst round) refusal is_number

  -- if there is none the verdict is given
  pub judge_verdict : 0 ≡ number_of (judging inst round) → {answer : Verdict}
      → answer ≡ verdict inst (places inst.header.rows round.commitment) round.challenge
      (places inst.header.columns round.response)
      → answer ≡ judge_loaded inst round
  unfolding judge_loaded judging
  judge_verdict none is_answer = is_answer ∙ call_answered (judging inst round) none
