-- What stands in each field of the OR proof's verdict, of Peggy's session of it and of an answer that cross, and what a session that
-- is handed in is taken for: on the left of each equation a form, on the right a struct field by field, with the states' numbers as
-- numbers. The sides' are plain numbers on both sides.
-- Assumes nothing.
use Rattle.std.specs.Prelude.{ℕ, ◌<◌, ◌≡◌, List}
use Rattle.types.specs.declared.ProverPhase.{ProverPhase}
use Rattle.types.specs.declared.ProverPhase.TheVariants.{New, Committed, Answered, Dropped}
use Rattle.disjunctions.specs.declared.OrProver.{OrProver}
use Rattle.disjunctions.specs.declared.OrVerdict.TheVariants.{OrAccepted, OrRejected, OrRefused}
use Rattle.or_crossing.specs.Provers.{or_prover_of, or_session, or_answer}
use Rattle.or_crossing.specs.Verdicts.{or_judgement}
use Rattle.or_crossing.specs.declared.OrSession.{OrSession}

-- a session in a state and with the state's number, whatever it holds
pub record OrAs (state : ProverPhase) (n : ℕ) (k r t0 t1 : List ℕ) (c side : ℕ) : Type 0 where
  pub out : or_session (record { nonce = k; response = r; commitment0 = t0; commitment1 = t1; challenge = c; side = side; phase = state })
      ≡ record { nonce = k; response = r; commitment0 = t0; commitment1 = t1; challenge = c; side = side; phase = n }
  pub into : or_prover_of (record { nonce = k; response = r; commitment0 = t0; commitment1 = t1; challenge = c; side = side; phase = n })
      ≡ record { nonce = k; response = r; commitment0 = t0; commitment1 = t1; challenge = c; side = side; phase = state }

pub record OrCrosses : Type 0 where
  -- a verdict's four numbers
  pub accepted : or_judgement OrAccepted ≡ record { accepted = 1; rows0 = 0; rows1 = 0; refusal = 0 }
  pub rejected : (a b : ℕ) → or_judgement (OrRejected a b) ≡ record { accepted = 0; rows0 = a; rows1 = b; refusal = 0 }
  pub refused : (n : ℕ) → or_judgement (OrRefused n) ≡ record { accepted = 0; rows0 = 0; rows1 = 0; refusal = n }
  -- Peggy's session, whose state for every number above 3 is Dropped
  pub prover : (k r t0 t1 : List ℕ) (c side : ℕ) → OrAs New 0 k r t0 t1 c side × OrAs Committed 1 k r t0 t1 c side
      × OrAs Answered 2 k r t0 t1 c side × OrAs Dropped 3 k r t0 t1 c side
  pub prover_beyond : (n : ℕ) (k r t0 t1 : List ℕ) (c side : ℕ) → 3 < n
      → or_prover_of (record { nonce = k; response = r; commitment0 = t0; commitment1 = t1; challenge = c; side = side; phase = n })
      ≡ record { nonce = k; response = r; commitment0 = t0; commitment1 = t1; challenge = c; side = side; phase = Dropped }
  -- the answer has the call's values, c0 and number, and the session after the call, or the one that was given if it is refused
  pub prover_passed : (given s : OrSession) (p : OrProver) (xs ys : List ℕ) (c0 : ℕ) → or_session p ≡ s
      → or_answer given (record { session = p; values0 = xs; values1 = ys; challenge0 = c0; refusal = 0 })
      ≡ record { session = s; values0 = xs; values1 = ys; challenge0 = c0; refusal = 0 }
  pub prover_refused : (given : OrSession) (p : OrProver) (xs ys : List ℕ) (c0 n : ℕ) → 0 < n
      → or_answer given (record { session = p; values0 = xs; values1 = ys; challenge0 = c0; refusal = n })
      ≡ record { session = given; values0 = xs; values1 = ys; challenge0 = c0; refusal = n }
