-- What a call on a session that crossed answers: n is the number that it found.
-- Assumes nothing.
use Prim.Native.Nat.{ℕ}
use mathlib.Core.Path.{◌≡◌, sym}
use mathlib.Core.List.{List}
use mathlib.Core.Logic.{◌≢◌}
use native.Mathlib.Omega.{arith}
use Rattle.types.specs.declared.Prover.{Prover}
use Rattle.types.specs.declared.ProverStep.{ProverStep}
use Rattle.lists.specs.Places.{zeros8}
use Rattle.rules.specs.Call.{Call, answer, number_of}
use Rattle.rules.proofs.Answer.{unless_refused_zero, unless_refused_positive}
use Rattle.rules.proofs.Call.{tested_refused, tested_value}
use Rattle.runs.specs.Prover.{handed_back}
use Rattle.crossing.specs.Provers.{prover_answer, prover_session}
use Rattle.crossing.specs.declared.ProverSession.{ProverSession}
use Rattle.refusals.specs.Number.{number}
use Rattle.refusals.specs.declared.Refusal.{Refusal}
use Rattle.refusals.proofs.Positive.{number_positive}

module _ (given : ProverSession) (call : Call ProverStep) {n : ℕ} (is_number : n ≡ number_of call) where
  -- a number above 0 is answered beside the session as it was given and zeros
  pub answer_refused : {before : Prover} → call.refused n ≡ handed_back before n → n ≢ 0
      → record { session = given; values = zeros8; refusal = n } ≡ prover_answer given (answer call)
  unfolding prover_answer
  answer_refused {before} back other =
      rw (sym (tested_refused call is_number other), back, unless_refused_positive (prover_session before) given n (omega arith))

  -- if the number is 0, the changed session and the values are answered
  pub answer_given : {after : Prover} {values : List ℕ} → call.value ≡ record { refusal = 0; session = after; values = values } → n ≡ 0
      → {session : ProverSession} → session ≡ prover_session after
      → record { session = session; values = values; refusal = 0 } ≡ prover_answer given (answer call)
  unfolding prover_answer
  answer_given {after} value none is_session =
      rw (sym (tested_value call is_number none), value, unless_refused_zero (prover_session after) given, is_session)

module _ (given : ProverSession) {step : ProverStep} where
  -- a call that is refused
  pub parts_refused : (before : Prover) (refusal : Refusal) → handed_back before (number refusal) ≡ step
      → record { session = given; values = zeros8; refusal = number refusal } ≡ prover_answer given step
  unfolding prover_answer
  parts_refused before refusal same =
      rw (sym same, unless_refused_positive (prover_session before) given (number refusal) (number_positive refusal))

  -- a call that is carried out
  pub parts_given : {after : Prover} {xs : List ℕ} → record { refusal = 0; session = after; values = xs } ≡ step
      → {session : ProverSession} → session ≡ prover_session after
      → record { session = session; values = xs; refusal = 0 } ≡ prover_answer given step
  unfolding prover_answer
  parts_given {after} same is_session = rw (sym same, unless_refused_zero (prover_session after) given, is_session)
