-- `round_lines::lines::write_verdict` meets its contract: each arm stores the words of its verdict.
-- Assumes nothing.
use Rattle.encoding.specs.Text.{ascii}
use Rattle.encoding.proofs.Fitted.{fitted_then}
use Rattle.runs.specs.Marker.{verdict_text}
use Rattle.round_lines.proofs.lines.write_verdict.Goals as goal

pub returns-in-Accepted : goal.returns-in-Accepted
unfolding verdict_text ascii
returns-in-Accepted c =
    rw c.in-Accepted.is c.write_word.ensures

pub returns-in-Rejected : goal.returns-in-Rejected
unfolding verdict_text ascii
returns-in-Rejected c =
    rw c.in-Rejected.is (fitted_then c.write_word-next.ensures c.write_rows.ensures)

pub returns-in-Refused : goal.returns-in-Refused
unfolding verdict_text ascii
returns-in-Refused c =
    rw c.in-Refused.is c.write_numbered.ensures
