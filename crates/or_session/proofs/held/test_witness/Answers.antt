-- `or_session::held::test_witness` meets its contract: each return is a law of the two rules of a witness.
-- Assumes nothing.
use mathlib.Core.Path.{◌≡◌, sym, ◌∙◌}
use Rattle.rules.proofs.Lowest.{pass, stop, lowest_clear}
use Rattle.sigma.specs.Comparison.{differ}
use Rattle.image.proofs.Tested.{coordinates_read, witness_read}
use Rattle.or_session.specs.Sides.{witness_rules}
use Rattle.or_session.proofs.held.test_witness.Goals as goal

pub returns-then-some_non_coordinate : goal.returns-then-some_non_coordinate
unfolding witness_rules
returns-then-some_non_coordinate c = sym (stop 16 _ (coordinates_read _ _ ∙ sym c.some_non_coordinate.ensures ∙ c.if-some_non_coordinate.true))

pub returns-then-differ : goal.returns-then-differ
unfolding witness_rules
returns-then-differ c =
    -- the witness's image is compared with the statement in all rows (17)
    let sheet = c.args.sheet.now in
    let compared : c.differ.result ≡ differ sheet.header.rows c.image.result sheet.statement = c.differ.ensures in
    sym (pass 16 _ (coordinates_read _ _ ∙ sym c.some_non_coordinate.ensures ∙ c.if-some_non_coordinate.false)
    ∙ stop 17 _ (witness_read _ sheet.valid _ c.image.ensures ∙ sym compared ∙ c.if-differ.true))

pub returns : goal.returns
unfolding witness_rules
returns c =
    -- the witness's image is compared with the statement in all rows (17)
    let sheet = c.args.sheet.now in
    let compared : c.differ.result ≡ differ sheet.header.rows c.image.result sheet.statement = c.differ.ensures in
    sym (lowest_clear _ (
      coordinates_read _ _ ∙ sym c.some_non_coordinate.ensures ∙ c.if-some_non_coordinate.false,
      (witness_read _ sheet.valid _ c.image.ensures ∙ sym compared ∙ c.if-differ.false, tt),
    ))
