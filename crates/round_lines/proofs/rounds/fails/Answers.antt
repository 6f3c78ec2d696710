-- `round_lines::rounds::fails` meets its contract: an accepted verdict leaves what was, and any other fails.
-- Assumes nothing.
use mathlib.Core.Path.{sym}
use mathlib.Core.Bool.{or-false, or-true}
use Rattle.sigma.specs.Answer.{is_accepted}
use Rattle.round_lines.proofs.rounds.fails.Goals as goal

pub returns-in-Accepted : goal.returns-in-Accepted
unfolding is_accepted
returns-in-Accepted c = rw c.in-Accepted.is (sym (or-false c.args.before))

pub returns-in-Rejected : goal.returns-in-Rejected
unfolding is_accepted
returns-in-Rejected c = rw c.in-Rejected.is (sym (or-true c.args.before))

pub returns-in-Refused : goal.returns-in-Refused
unfolding is_accepted
returns-in-Refused c = rw c.in-Refused.is (sym (or-true c.args.before))
