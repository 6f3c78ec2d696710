-- Any call on a session of the OR proof that a caller hands in, answered in the form in which it crosses.
-- Assumes nothing.
use Rattle.std.specs.Prelude.{List}
use Rattle.runs.specs.Run.{trace}
use Rattle.disjunctions.specs.Ours.{call_or}
use Rattle.disjunctions.specs.declared.OrStep.{OrStep}
use Rattle.disjunctions.specs.Calls.{OrCall}
use Rattle.or_crossing.specs.Provers.{or_prover_of, or_answer}
use Rattle.or_crossing.specs.declared.OrAnswer.{OrAnswer}
use Rattle.or_crossing.specs.declared.OrSession.{OrSession}

-- the answer to a call on Peggy's session
abbrev pub answered_or : OrCall → OrSession → OrAnswer
answered_or call s = or_answer s (call_or call (or_prover_of s))

-- an answer that crossed, taken for what the call answers
abbrev pub or_read : OrAnswer → OrStep
or_read a =
    record {
      session = or_prover_of a.session;
      values0 = a.values0;
      values1 = a.values1;
      challenge0 = a.challenge0;
      refusal = a.refusal;
    }

-- the calls of a list that are carried out, each given the session that the last one handed back, with its answer
unfoldable pub answered_or_trace : List OrCall → OrSession → List (OrCall × OrAnswer)
answered_or_trace calls s = trace answered_or (λ answer. answer.session) (λ answer. answer.refusal) calls s
