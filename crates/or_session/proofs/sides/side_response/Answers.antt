-- `or_session::sides::side_response` meets its contract: it is the response where the side is known, else the simulated one is kept.
-- Assumes nothing.
use Rattle.or_session.specs.Sides.{side_response}
use Rattle.or_session.proofs.sides.side_response.Goals as goal

pub returns-then-known : goal.returns-then-known
unfolding side_response
returns-then-known c = rw c.if-known.true c.response.ensures

pub returns : goal.returns
unfolding side_response
returns c = rw c.if-known.false c.first_places.ensures
