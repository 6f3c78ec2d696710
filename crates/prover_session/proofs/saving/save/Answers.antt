-- `prover_session::saving::save` meets its contract: the name decides, and one saved state is replaced.
-- Assumes nothing.
use mathlib.Core.Path.{refl, sym, ap, ◌∙◌}
use mathlib.Core.List.{[]}
use native.Mathlib.Omega.{arith}
use borrow.Author.Tests.{le-leb, lt-leb}
use Rattle.lists.specs.Places.{zeros8}
use Rattle.rules.specs.Call.{number_of}
use Rattle.rules.specs.Rule.{lowest}
use Rattle.rules.proofs.Lowest.{pass, stop}
use Rattle.runs.specs.Prover.{prover_state}
use Rattle.runs.specs.Saving.{save, saving}
use Rattle.crossing.specs.Provers.{prover_of}
use Rattle.prover_session.proofs.Answers.{answer_given, answer_refused}
use Rattle.prover_session.proofs.Sessions.{saved_session}
use Rattle.prover_session.proofs.saving.save.Goals as goal

pub returns-then-name-ge8 : goal.returns-then-name-ge8
unfolding save saving number_of zeros8
returns-then-name-ge8 c =
    let args = c.args in
    rw c.number.ensures
    (answer_refused _ (saving (prover_of args.session) args.name) (sym (stop 34 _ (le-leb _ _ c.if-name-ge8.true))) refl (omega arith))

pub returns : goal.returns
unfolding save saving number_of lowest zeros8
returns c =
    let number = c.prover_state-phase.ensures ∙ ap prover_state c.prover_phase.ensures in
    let args = c.args in
    answer_given _ (saving (prover_of args.session) args.name) (sym (pass 34 [] (lt-leb _ _ c.if-name-ge8.false))) refl refl
    (saved_session args.session args.name number)
