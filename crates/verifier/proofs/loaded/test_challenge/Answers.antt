-- `verifier::loaded::test_challenge` meets its contract: each return is a law of the two rules.
-- Assumes nothing.
use mathlib.Core.Path.{sym, ◌∙◌}
use mathlib.Core.Bool.{not, or-eq-true_iff}
use mathlib.Core.Logic.Or
use native.Mathlib.Omega.{arith}
use Rattle.rules.specs.Call.{number_of}
use Rattle.rules.proofs.Lowest.{pass, stop, lowest_clear}
use Rattle.sigma.proofs.Calculus.{says_passes, both_fail}
use Rattle.sigma.proofs.Passed.{challenge_passes}
use Rattle.sigma.proofs.Tests.{says_bad_challenge}
use Rattle.types.specs.declared.VerifierPhase.TheVariants.{Holding}
use Rattle.runs.specs.Verifier.{verifier_in, unfit_commitment, taking_challenge}
use Rattle.runs.proofs.Tests.{says_verifier}
use Rattle.verifier.proofs.States.{not_holding}
use Rattle.verifier.proofs.loaded.test_challenge.Goals as goal

pub returns-then-challenge-h : goal.returns-then-challenge-h
unfolding taking_challenge number_of
returns-then-challenge-h c = λ entries statement.
    sym (stop 15 _ ((says_bad_challenge _ _).complete (omega (arith, c.if-challenge-h.true))))

pub returns-in_default : goal.returns-in_default
unfolding taking_challenge number_of
returns-in_default c = λ entries statement.
    sym (pass 15 _ ((challenge_passes _ _).1 (omega (arith, c.if-challenge-h.false)))
    ∙ stop 21 _ ((or-eq-true_iff _ _).1 (Or.inl (not_holding _ c.in_default.not-Holding))))

pub returns-then-bad_commitment : goal.returns-then-bad_commitment
unfolding taking_challenge number_of unfit_commitment
returns-then-bad_commitment c = λ entries statement.
    sym (pass 15 _ ((challenge_passes _ _).1 (omega (arith, c.if-challenge-h.false)))
    ∙ stop 21 _ ((or-eq-true_iff (not (verifier_in Holding _)) _).1
    (Or.inr (sym (c.bad_commitment.ensures entries statement) ∙ c.if-bad_commitment.true))))

pub returns : goal.returns
unfolding taking_challenge number_of unfit_commitment
returns c = λ entries statement.
    sym (lowest_clear _ (
      (challenge_passes _ _).1 (omega (arith, c.if-challenge-h.false)),
      (
        (both_fail _ _).1 (
          (says_passes (says_verifier Holding _)).1 c.in-Holding.is,
          sym (c.bad_commitment.ensures entries statement) ∙ c.if-bad_commitment.false,
        ),
        tt,
      ),
    ))
