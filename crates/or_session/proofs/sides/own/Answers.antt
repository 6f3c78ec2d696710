-- `or_session::sides::own` meets its contract: side 0 is the first, every other the second.
-- Assumes nothing.
use Rattle.or_session.proofs.OwnSide.{own_first, own_second}
use Rattle.or_session.proofs.sides.own.Goals as goal

pub returns-then-side-eq0 : goal.returns-then-side-eq0
returns-then-side-eq0 g c = own_first _ _ _ c.if-side-eq0.true

pub returns-else-side-eq0 : goal.returns-else-side-eq0
returns-else-side-eq0 g c = own_second _ _ _ c.if-side-eq0.false
