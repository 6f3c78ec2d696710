-- `ledger_lines::asked::bad_kind` meets its contract: three numbers stand for a kind.
-- Assumes nothing.
use mathlib.Core.Path.{ap, ◌∙◌}
use Rattle.std.specs.Result.{is_err}
use Rattle.ledger_lines.proofs.KindOf.{is_unknown}
use Rattle.ledger_lines.proofs.asked.bad_kind.Goals as goal

pub returns : goal.returns
returns c = c.is_err.ensures.value ∙ ap is_err c.try_from.ensures ∙ is_unknown c.args.kind
