-- What stands in each field of a verdict, a session and an answer that cross, and what a session that is handed in is taken for:
-- on the left of each equation a form, on the right a struct field by field, with the states' numbers as numbers.
-- Assumes nothing.
use Rattle.std.specs.Prelude.{ℕ, ◌<◌, ◌≡◌, List}
use Rattle.types.specs.declared.Memory.{Memory}
use Rattle.types.specs.declared.Prover.{Prover}
use Rattle.types.specs.declared.ProverPhase.{ProverPhase}
use Rattle.types.specs.declared.ProverPhase.TheVariants.{New, Committed, Answered, Dropped}
use Rattle.types.specs.declared.Verdict.{Verdict}
use Rattle.types.specs.declared.Verdict.TheVariants.{Accepted, Rejected, Refused}
use Rattle.types.specs.declared.Verifier.{Verifier}
use Rattle.types.specs.declared.VerifierPhase.{VerifierPhase}
use Rattle.types.specs.declared.VerifierPhase.TheVariants.{Waiting, Holding, Asked, Judged}
use Rattle.crossing.specs.Provers.{prover_of, prover_session, prover_answer}
use Rattle.crossing.specs.Verdicts.{judgement}
use Rattle.crossing.specs.Verifiers.{verifier_of, verifier_session, verifier_answer, verifier_judgement}
use Rattle.crossing.specs.declared.Judgement.{Judgement}
use Rattle.crossing.specs.declared.ProverSession.{ProverSession}
use Rattle.crossing.specs.declared.VerifierSession.{VerifierSession}

-- Peggy's session in a state and with the state's number, whatever nonce, commitment and memory it holds; the memory is the same
-- struct on both sides
pub record ProverAs (state : ProverPhase) (n : ℕ) (k t : List ℕ) (m : Memory) : Type 0 where
  pub out : prover_session (record { phase = state; nonce = k; commitment = t; memory = m })
      ≡ record { phase = n; nonce = k; commitment = t; memory = m }
  pub into : prover_of (record { phase = n; nonce = k; commitment = t; memory = m })
      ≡ record { phase = state; nonce = k; commitment = t; memory = m }

-- the same of Vic's
pub record VerifierAs (state : VerifierPhase) (n : ℕ) (t : List ℕ) (c : ℕ) : Type 0 where
  pub out : verifier_session (record { phase = state; commitment = t; challenge = c }) ≡ record { phase = n; commitment = t; challenge = c }
  pub into : verifier_of (record { phase = n; commitment = t; challenge = c }) ≡ record { phase = state; commitment = t; challenge = c }

pub record SessionsCross : Type 0 where
  -- a verdict's three numbers
  pub accepted : judgement Accepted ≡ record { accepted = 1; rows = 0; refusal = 0 }
  pub rejected : (mask : ℕ) → judgement (Rejected mask) ≡ record { accepted = 0; rows = mask; refusal = 0 }
  pub refused : (n : ℕ) → judgement (Refused n) ≡ record { accepted = 0; rows = 0; refusal = n }
  -- Peggy's session, whose state for every number above 3 is Dropped
  pub prover : (k t : List ℕ) (m : Memory)
      → ProverAs New 0 k t m × ProverAs Committed 1 k t m × ProverAs Answered 2 k t m × ProverAs Dropped 3 k t m
  pub prover_beyond : (n : ℕ) (k t : List ℕ) (m : Memory) → 3 < n
      → prover_of (record { phase = n; nonce = k; commitment = t; memory = m })
      ≡ record { phase = Dropped; nonce = k; commitment = t; memory = m }
  -- the answer has the call's values and number, and the session after the call, or the one that was given if it is refused
  pub prover_passed : (given s : ProverSession) (p : Prover) (xs : List ℕ) → prover_session p ≡ s
      → prover_answer given (record { session = p; values = xs; refusal = 0 }) ≡ record { session = s; values = xs; refusal = 0 }
  pub prover_refused : (given : ProverSession) (p : Prover) (xs : List ℕ) (n : ℕ) → 0 < n
      → prover_answer given (record { session = p; values = xs; refusal = n }) ≡ record { session = given; values = xs; refusal = n }
  -- Vic's session, whose state for every number above 3 is Judged
  pub verifier : (t : List ℕ) (c : ℕ)
      → VerifierAs Waiting 0 t c × VerifierAs Holding 1 t c × VerifierAs Asked 2 t c × VerifierAs Judged 3 t c
  pub verifier_beyond : (n : ℕ) (t : List ℕ) (c : ℕ) → 3 < n
      → verifier_of (record { phase = n; commitment = t; challenge = c }) ≡ record { phase = Judged; commitment = t; challenge = c }
  -- the answer to a commitment or a challenge
  pub verifier_passed : (given s : VerifierSession) (v : Verifier) → verifier_session v ≡ s
      → verifier_answer given (record { session = v; refusal = 0 }) ≡ record { session = s; refusal = 0 }
  pub verifier_refused : (given : VerifierSession) (v : Verifier) (n : ℕ) → 0 < n
      → verifier_answer given (record { session = v; refusal = n }) ≡ record { session = given; refusal = n }
  -- the answer to a response
  pub response_passed : (given s : VerifierSession) (v : Verifier) (w : Verdict) (j : Judgement) → verifier_session v ≡ s
      → judgement w ≡ j → j.refusal ≡ 0 → verifier_judgement given (record { verdict = w; session = v }) ≡ record { verdict = j; session = s }
  pub response_refused : (given : VerifierSession) (v : Verifier) (w : Verdict) (j : Judgement) → judgement w ≡ j → 0 < j.refusal
      → verifier_judgement given (record { verdict = w; session = v }) ≡ record { verdict = j; session = given }
