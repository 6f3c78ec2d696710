-- `verifier::loaded::test_response` meets its contract: each return is a law of the two rules.
-- Assumes nothing.
use mathlib.Core.Path.{◌≡◌, sym, ◌∙◌}
use mathlib.Core.Bool.{not, ◌||◌, or-eq-true_iff}
use mathlib.Core.List.{List}
use mathlib.Core.Logic.Or
use Prim.Native.Nat.{ℕ}
use lib.ListN.{drop}
use native.Mathlib.Omega.{arith}
use Rattle.rules.specs.Call.{number_of}
use Rattle.rules.specs.Rule.{lowest}
use Rattle.rules.proofs.Lowest.{pass, stop, lowest_clear}
use Rattle.sigma.proofs.Calculus.{says_passes, both_fail}
use Rattle.sigma.proofs.Passed.{challenge_passes}
use Rattle.sigma.proofs.Tests.{says_bad_challenge}
use Rattle.types.specs.declared.VerifierPhase.TheVariants.{Asked}
use Rattle.runs.specs.Verifier.{verifier_in, unfit_commitment, taking_response}
use Rattle.runs.proofs.Tests.{says_verifier}
use Rattle.sigma.specs.Instance.{instance_with}
use Rattle.image.proofs.Tested.{coordinates_read}
use Rattle.verifier.proofs.States.{not_asked}
use Rattle.verifier.proofs.loaded.test_response.Goals as goal
use Rattle.verifier.proofs.loaded.test_response.Goals.{Else-some_non_coordinate}

-- behind the search no slot of the response is bad: the session's rule is left
slots : (c : Else-some_non_coordinate) (entries : List (List ℕ)) (statement : List ℕ)
    → let args = c.args in
    let rules = (taking_response (instance_with args.h entries statement) args.session args.response).refusals in
    lowest rules ≡ lowest (drop 1 rules)
unfolding taking_response
slots c entries statement = pass 16 _ (coordinates_read _ _ ∙ sym c.some_non_coordinate.ensures ∙ c.if-some_non_coordinate.false)

pub returns-then-some_non_coordinate : goal.returns-then-some_non_coordinate
unfolding taking_response number_of
returns-then-some_non_coordinate c = λ entries statement.
    sym (stop 16 _ (coordinates_read _ _ ∙ sym c.some_non_coordinate.ensures ∙ c.if-some_non_coordinate.true))

pub returns-in_default : goal.returns-in_default
unfolding taking_response number_of
returns-in_default c = λ entries statement.
    sym (slots (goal.at.returns-in_default c).Else-some_non_coordinate entries statement
    ∙ stop 21 _ ((or-eq-true_iff _ _).1 (Or.inl ((or-eq-true_iff _ _).1 (Or.inl (not_asked _ c.in_default.not-Asked))))))

pub returns-then-bad_commitment : goal.returns-then-bad_commitment
unfolding taking_response number_of unfit_commitment
returns-then-bad_commitment c = λ entries statement.
    let unfit = sym (c.bad_commitment.ensures entries statement) ∙ c.if-bad_commitment.true in
    sym (slots (goal.at.returns-then-bad_commitment c).Else-some_non_coordinate entries statement
    ∙ stop 21 _ ((or-eq-true_iff _ _).1 (Or.inl ((or-eq-true_iff (not (verifier_in Asked _)) _).1 (Or.inr unfit)))))

pub returns-then-session-h : goal.returns-then-session-h
unfolding taking_response number_of
returns-then-session-h c = λ entries statement.
    sym (slots (goal.at.returns-then-session-h c).Else-some_non_coordinate entries statement
    ∙ stop 21 _ ((or-eq-true_iff (not (verifier_in Asked _) || unfit_commitment _ _) _).1
    (Or.inr ((says_bad_challenge _ _).complete (omega (arith, c.if-session-h.true))))))

pub returns : goal.returns
unfolding taking_response number_of unfit_commitment
returns c = λ entries statement.
    sym (slots (goal.at.returns c).Else-some_non_coordinate entries statement
    ∙ lowest_clear _ (
      (both_fail _ _).1 (
        (both_fail _ _).1 (
          (says_passes (says_verifier Asked _)).1 c.in-Asked.is,
          sym (c.bad_commitment.ensures entries statement) ∙ c.if-bad_commitment.false,
        ),
        (challenge_passes _ _).1 (omega (arith, c.if-session-h.false)),
      ),
      tt,
    ))
