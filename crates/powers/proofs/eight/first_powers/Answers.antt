-- `powers::eight::first_powers` meets its contract: each power is the one before it times the base.
-- Assumes nothing.
use Rattle.powers.proofs.Windows.{first_powers}
use Rattle.powers.proofs.eight.first_powers.Goals as goal

pub returns : goal.returns
returns c =
    first_powers _ _ _ _ _ _ c.splat-ones.ensures c.mul-first.ensures c.mul-second.ensures c.mul-third.ensures
