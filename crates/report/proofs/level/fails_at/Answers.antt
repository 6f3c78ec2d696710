-- `report::level::fails_at` meets its contract: the rounds are enough for a level exactly where the power is above the number one
-- below 2^w.
-- Assumes nothing.
use mathlib.Core.Path.{ap}
use mathlib.Core.Bool.{not}
use Rattle.report.proofs.AtLevel.{enough_above}
use Rattle.report.proofs.level.fails_at.Goals as goal

pub returns : goal.returns
returns c =
    let args = c.args in
    let enough = enough_above args.challenges args.count _ _ c.power_of_two_less_one-below.ensures c.power_exceeds.ensures in
    rw c.if-failed.false (ap not enough)
