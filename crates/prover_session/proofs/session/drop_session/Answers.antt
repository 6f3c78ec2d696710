-- `prover_session::session::drop_session` meets its contract: the state alone decides.
-- Assumes nothing.
use mathlib.Core.Path.{refl, sym}
use mathlib.Core.List.{[]}
use native.Mathlib.Omega.{arith}
use Rattle.lists.specs.Places.{zeros8}
use Rattle.rules.specs.Call.{number_of}
use Rattle.rules.specs.Rule.{lowest}
use Rattle.rules.proofs.Lowest.{pass, stop}
use Rattle.runs.specs.Prover.{drop_session, dropping, prover_state}
use Rattle.crossing.specs.Provers.{prover_of, prover_session}
use Rattle.prover_session.proofs.Answers.{answer_given, answer_refused}
use Rattle.prover_session.proofs.Sessions.{session_ended, session_started}
use Rattle.prover_session.proofs.session.drop_session.Goals as goal

pub returns-in-New : goal.returns-in-New
unfolding drop_session dropping number_of lowest zeros8 prover_session prover_of prover_state
returns-in-New c =
    rw c.prover_state.ensures
    (answer_given _ (dropping _) (sym (pass 21 [] (session_started _ c.prover_phase-phase.ensures c.in-New.is))) refl refl refl)

pub returns-in-Answered : goal.returns-in-Answered
unfolding drop_session dropping number_of zeros8
returns-in-Answered c =
    rw c.number.ensures
    (answer_refused _ (dropping _) (sym (stop 21 _ (session_ended _ c.prover_phase-phase.ensures c.in-Answered.is))) refl (omega arith))
