-- `or_session::sides::side_commitment` meets its contract: it is the image where the side is known, else the simulated commitment.
-- Assumes nothing.
use mathlib.Core.Path.{ap, ◌∙◌}
use Rattle.lists.specs.Places.{pad8}
use Rattle.disjunctions.proofs.SessionTests.{simulated_read}
use Rattle.or_session.specs.Sides.{side_commitment}
use Rattle.or_session.proofs.sides.side_commitment.Goals as goal

pub returns-then-known : goal.returns-then-known
unfolding side_commitment
returns-then-known c = rw c.if-known.true c.image.ensures

pub returns : goal.returns
unfolding side_commitment
returns c =
    rw c.if-known.false (c.simulated.ensures ∙ ap (pad8 0) (simulated_read c.args.sheet.now.valid _ _))
