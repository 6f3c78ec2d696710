-- `or_session::session::drop_session` meets its contract: the state's rule alone decides.
-- Assumes nothing.
use mathlib.Core.Path.{refl, sym}
use mathlib.Core.List.{[]}
use native.Mathlib.Omega.{arith}
use Rattle.lists.specs.Places.{zeros8}
use Rattle.rules.specs.Call.{number_of}
use Rattle.rules.specs.Rule.{lowest}
use Rattle.rules.proofs.Lowest.{pass, stop}
use Rattle.disjunctions.specs.Prover.{drop_or, dropping_or}
use Rattle.or_session.proofs.States.{is_started, not_started}
use Rattle.or_session.proofs.Steps.{step_refused, step_given}
use Rattle.or_session.proofs.session.drop_session.Goals as goal

pub returns-in-New : goal.returns-in-New
unfolding drop_or dropping_or number_of lowest zeros8
returns-in-New c =
    step_given (dropping_or _) (sym (pass 21 [] (is_started _ c.in-New.is))) refl
    (λ i. record { session = c.wiped.ensures i; values0 = zeros8; values1 = zeros8; challenge0 = 0; refusal = 0 })

pub returns-in-Answered : goal.returns-in-Answered
unfolding drop_or dropping_or number_of
returns-in-Answered c =
    step_refused (dropping_or _) (sym (stop 21 _ (not_started _ c.in-Answered.is))) (omega arith)
    (rw c.number.ensures at c.refused.ensures)
