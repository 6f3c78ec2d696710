-- `or_session::held::unfit` meets its contract: each return is a law of the tests of what is held.
-- Assumes nothing.
use mathlib.Core.Path.{sym, ◌∙◌}
use borrow.Author.Tests.{le-ltb}
use Rattle.sigma.proofs.Passed.{challenge_passes}
use Rattle.sigma.proofs.Tests.{says_bad_challenge}
use Rattle.or_session.proofs.SideTests.{challenge_unfit, first_unfit, second_unfit, side_unfit, slots_unfit}
use Rattle.or_session.proofs.held.unfit.Goals as goal

pub returns-then-side-gt1 : goal.returns-then-side-gt1
returns-then-side-gt1 c =
    let pair = c.args.pair.now in
    side_unfit pair.first.valid pair.second.valid _ c.if-side-gt1.true

pub returns-then-bad_slots : goal.returns-then-bad_slots
returns-then-bad_slots c =
    let pair = c.args.pair.now in
    slots_unfit pair.first.valid pair.second.valid _ (sym (c.bad_slots.ensures _ _ _ _) ∙ c.if-bad_slots.true)

pub returns-then-d-pair : goal.returns-then-d-pair
returns-then-d-pair c =
    let pair = c.args.pair.now in
    challenge_unfit pair.first.valid pair.second.valid _ ((says_bad_challenge _ _).complete c.if-d-pair.true)

pub returns-then-differ : goal.returns-then-differ
returns-then-differ c =
    let pair = c.args.pair.now in
    first_unfit pair.first.valid pair.second.valid _ c.side_commitment.ensures (sym c.differ.ensures ∙ c.if-differ.true)

pub returns : goal.returns
returns c =
    let pair = c.args.pair.now in
    c.differ-2.ensures
    ∙ second_unfit pair.first.valid pair.second.valid _ (le-ltb _ _ c.if-side-gt1.false)
    (sym (c.bad_slots.ensures _ _ _ _) ∙ c.if-bad_slots.false)
    ((challenge_passes _ _).1 c.if-d-pair.false)
    c.side_commitment.ensures (sym c.differ.ensures ∙ c.if-differ.false)
    c.side_commitment-2.ensures
