-- `or_prover::loaded::test_response` meets its contract: each return is a law of the rules of responding, and each test that fails
-- leaves the rules behind it.
-- Assumes nothing.
use mathlib.Core.Path.{refl, sym, ap, ◌∙◌}
use mathlib.Core.Bool.{not, or-eq-true_iff}
use mathlib.Core.Logic.Or
use Rattle.types.specs.declared.ProverPhase.TheVariants.{Committed}
use Rattle.rules.specs.Call.{number_of}
use Rattle.rules.proofs.Lowest.{stop, lowest_clear}
use Rattle.sigma.proofs.Calculus.{says_passes, both_fail}
use Rattle.sigma.proofs.Tests.{says_bad_challenge}
use Rattle.disjunctions.specs.Prover.{or_prover_in, responding_or}
use Rattle.disjunctions.proofs.SessionTests.{says_or_prover}
use Rattle.or_session.proofs.States.{not_committed}
use native.Mathlib.Omega.{arith}
use Rattle.std.proofs.lemmas.Result.{err_from_is_err_and}
use Rattle.refusals.proofs.Positive.{number_positive}
use Rattle.or_session.proofs.OwnSide.{own_sheet}
use Rattle.rules.specs.Rule.{lowest}
use Rattle.sigma.specs.Instance.{Instance}
use Rattle.or_session.specs.Sides.{witness_rules}
use Rattle.or_prover.proofs.Tested.{session_left, witness_stops}
use Rattle.or_prover.proofs.loaded.test_response.Goals as goal

pub returns-then-challenge-pair : goal.returns-then-challenge-pair
unfolding responding_or number_of
returns-then-challenge-pair c = sym (stop 15 _ ((says_bad_challenge _ _).complete c.if-challenge-pair.true))

pub returns-in_err-test_witness : goal.returns-in_err-test_witness
returns-in_err-test_witness c =
    let passed_on = err_from_is_err_and c.from_residual.result c.from_residual.ensures.1 in
    let tested = c.in_err-test_witness.ensures
    ∙ ap (λ (inst : Instance). lowest (witness_rules inst c.args.witness)) (own_sheet _ _ _ c.own-mine.ensures) in
    rw (passed_on.1, passed_on.2)
    (witness_stops _ _ _ _ _ c.if-challenge-pair.false tested (λ e. omega (arith, e, number_positive c.in_err-test_witness.field-0.0)))

pub returns-in_default : goal.returns-in_default
returns-in_default c =
    let tested = c.in_ok-test_witness.ensures
    ∙ ap (λ (inst : Instance). lowest (witness_rules inst c.args.witness)) (own_sheet _ _ _ c.own-mine.ensures) in
    sym (session_left _ _ _ _ _ c.if-challenge-pair.false tested refl
    ∙ stop 21 _ ((or-eq-true_iff _ _).1 (Or.inl (not_committed _ c.in_default.not-Committed))))

pub returns-then-unfit : goal.returns-then-unfit
returns-then-unfit c =
    let tested = c.in_ok-test_witness.ensures
    ∙ ap (λ (inst : Instance). lowest (witness_rules inst c.args.witness)) (own_sheet _ _ _ c.own-mine.ensures) in
    sym (session_left _ _ _ _ _ c.if-challenge-pair.false tested refl
    ∙ stop 21 _ ((or-eq-true_iff (not (or_prover_in Committed _)) _).1 (Or.inr (sym c.unfit.ensures ∙ c.if-unfit.true))))

pub returns : goal.returns
returns c =
    let tested = c.in_ok-test_witness.ensures
    ∙ ap (λ (inst : Instance). lowest (witness_rules inst c.args.witness)) (own_sheet _ _ _ c.own-mine.ensures) in
    sym (session_left _ _ _ _ _ c.if-challenge-pair.false tested refl
    ∙ lowest_clear _ ((both_fail _ _).1 ((says_passes (says_or_prover Committed _)).1 c.in-Committed.is, sym c.unfit.ensures ∙ c.if-unfit.false), tt))
