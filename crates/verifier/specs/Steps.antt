-- What the calls on Vic's session answer: a refused call hands back the session unchanged.
-- Assumes nothing.
use Rattle.std.specs.Prelude.{Result, Ok, Err}
use Rattle.types.specs.declared.Verdict.TheVariants.{Refused}
use Rattle.types.specs.declared.Verifier.{Verifier}
use Rattle.types.specs.declared.VerifierStep.{VerifierStep}
use Rattle.types.specs.declared.VerifierVerdict.{VerifierVerdict}
use Rattle.refusals.specs.Number.{number}
use Rattle.refusals.specs.declared.Refusal.{Refusal}

-- what bringing a commitment or a challenge answers
abbrev pub taken : Verifier → Result Verifier Refusal → VerifierStep
taken before (Ok after) = record { refusal = 0; session = after }
taken before (Err refusal) = record { refusal = number refusal; session = before }

-- what bringing a response answers
abbrev pub judged : Verifier → Result VerifierVerdict Refusal → VerifierVerdict
judged before (Ok told) = told
judged before (Err refusal) = record { verdict = Refused (number refusal); session = before }
