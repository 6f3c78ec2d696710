-- `prover::loaded::test_respond` meets its contract: each return is a law of the refusals of responding, and each test that fails
-- leaves the rules behind it.
-- Assumes nothing.
use mathlib.Core.Path.{◌≡◌, sym, ◌∙◌}
use mathlib.Core.Bool.{not, or-eq-true_iff}
use mathlib.Core.Logic.Or
use Prim.Native.Nat.{ℕ}
use lib.ListN.{drop}
use Rattle.rules.specs.Call.{Call, number_of}
use Rattle.rules.specs.Rule.{lowest}
use Rattle.rules.proofs.Lowest.{pass, stop}
use Rattle.sigma.specs.Comparison.{differ}
use Rattle.sigma.proofs.Calculus.{says_passes, both_fail}
use Rattle.sigma.proofs.Passed.{challenge_passes}
use Rattle.sigma.proofs.Tests.{says_bad_challenge}
use Rattle.types.specs.declared.ProverStep.{ProverStep}
use Rattle.types.specs.declared.ProverPhase.TheVariants.{Committed}
use Rattle.runs.specs.Prover.{prover_in, responding}
use Rattle.runs.proofs.Tests.{says_prover}
use Rattle.instance.specs.Values.{values_of}
use Rattle.image.proofs.Tested.{coordinates_read, witness_read}
use Rattle.prover.specs.Parts.{list_rules, prover_with}
use Rattle.prover.proofs.States.{not_committed}
use Rattle.prover.proofs.loaded.test_respond.Goals as goal
use Rattle.prover.proofs.loaded.test_respond.Goals.{After-differ, Else-challenge-h, Else-differ, Else-some_non_coordinate}

-- the rules behind the first k are left: none of those applies
abbrev Rest : ℕ → Call ProverStep → Type 0
Rest k call = lowest call.refusals ≡ lowest (drop k call.refusals)

-- behind the challenge
challenge : (c : Else-challenge-h)
    → let args = c.args in
    Rest 1 (responding (values_of args.sheet.now) (prover_with args.held args.memory.now) args.challenge args.witness)
unfolding responding
challenge c = pass 15 _ ((challenge_passes _ _).1 c.if-challenge-h.false)

-- behind the search of the witness's slots
slots : (c : Else-some_non_coordinate)
    → let args = c.args in
    Rest 2 (responding (values_of args.sheet.now) (prover_with args.held args.memory.now) args.challenge args.witness)
unfolding responding
slots c =
    challenge c.before.before ∙ pass 16 _ (coordinates_read _ _ ∙ sym c.some_non_coordinate.ensures ∙ c.if-some_non_coordinate.false)

-- the witness's image is compared with the statement in all rows (17)
compared : (c : After-differ) →
    let args = c.args in
    c.differ.result ≡ differ args.sheet.now.header.rows c.image.result args.sheet.now.statement
compared c = c.differ.ensures

-- behind the comparison of its image
witness : (c : Else-differ)
    → let args = c.args in
    Rest 3 (responding (values_of args.sheet.now) (prover_with args.held args.memory.now) args.challenge args.witness)
unfolding responding
witness c =
    slots c.before.before.before.before.before
    ∙ pass 17 _ (witness_read _ c.args.sheet.now.valid _ c.image.ensures ∙ sym (compared c.before) ∙ c.if-differ.false)

pub returns-then-challenge-h : goal.returns-then-challenge-h
unfolding responding number_of
returns-then-challenge-h c = sym (stop 15 _ ((says_bad_challenge _ _).complete c.if-challenge-h.true))

pub returns-then-some_non_coordinate : goal.returns-then-some_non_coordinate
unfolding responding number_of
returns-then-some_non_coordinate c =
    sym (challenge (goal.at.returns-then-some_non_coordinate c).Else-challenge-h ∙ stop 16 _ (coordinates_read _ _ ∙ sym c.some_non_coordinate.ensures ∙ c.if-some_non_coordinate.true))

pub returns-then-differ : goal.returns-then-differ
unfolding responding number_of
returns-then-differ c =
    sym (slots (goal.at.returns-then-differ c).Else-some_non_coordinate
    ∙ stop 17 _ (witness_read _ c.args.sheet.now.valid _ c.image.ensures ∙ sym (compared (goal.at.returns-then-differ c).After-differ) ∙ c.if-differ.true))

pub returns-in_default : goal.returns-in_default
unfolding responding number_of
returns-in_default c =
    sym (witness (goal.at.returns-in_default c).Else-differ ∙ stop 21 _ ((or-eq-true_iff _ _).1 (Or.inl (not_committed _ c.in_default.not-Committed))))

pub returns-then-unfit : goal.returns-then-unfit
unfolding responding number_of
returns-then-unfit c =
    let held = c.unfit.ensures c.args.memory.now in
    sym (witness (goal.at.returns-then-unfit c).Else-differ
    ∙ stop 21 _ ((or-eq-true_iff (not (prover_in Committed _)) _).1 (Or.inr (sym held ∙ c.if-unfit.true))))

pub returns : goal.returns
unfolding responding number_of list_rules
returns c =
    let held = c.unfit.ensures c.args.memory.now in
    let state = (says_passes (says_prover Committed _)).1 c.in-Committed.is in
    c.test_list.ensures ∙ sym (witness (goal.at.returns c).Else-differ ∙ pass 21 _ ((both_fail _ _).1 (state, sym held ∙ c.if-unfit.false)))
