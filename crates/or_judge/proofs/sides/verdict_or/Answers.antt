-- `or_judge::sides::verdict_or` meets its contract: both sides are judged, and their verdicts combined.
-- Assumes nothing.
use mathlib.Core.Path.{sym, ap₂, ◌∙◌}
use Rattle.disjunctions.specs.Judge.{combined, verdict_or}
use Rattle.disjunctions.specs.Round.{read_or}
use Rattle.or_judge.proofs.sides.verdict_or.Goals as goal

pub returns : goal.returns
unfolding verdict_or read_or
returns c =
    c.combined.ensures ∙ ap₂ combined c.verdict-left.ensures (rw (sym c.other_challenge-c.ensures.value) c.verdict-right.ensures)
