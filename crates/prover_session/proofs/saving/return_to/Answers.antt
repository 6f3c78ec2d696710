-- `prover_session::saving::return_to` meets its contract: the name decides, and the saved state comes back.
-- Assumes nothing.
use mathlib.Core.Path.{refl, sym, ap, ◌∙◌}
use mathlib.Core.List.{[]}
use native.Mathlib.Omega.{arith}
use Rattle.lists.specs.Places.{zeros8}
use Rattle.rules.specs.Call.{number_of}
use Rattle.rules.specs.Rule.{lowest}
use Rattle.rules.proofs.Lowest.{pass, stop}
use Rattle.runs.specs.Memory.{saved_at}
use Rattle.runs.specs.Prover.{prover_state}
use Rattle.runs.specs.Saving.{return_to, returning}
use Rattle.crossing.specs.Provers.{prover_of}
use Rattle.prover_session.proofs.Answers.{answer_given, answer_refused}
use Rattle.prover_session.proofs.Sessions.{never_kept, never_named, returned_session, was_saved}
use Rattle.prover_session.proofs.saving.return_to.Goals as goal

pub returns-then-name-ge8 : goal.returns-then-name-ge8
unfolding return_to returning number_of zeros8
returns-then-name-ge8 c =
    rw c.number.ensures
    (answer_refused _ (returning _ _) (sym (stop 34 _ (never_named _ _ c.if-name-ge8.true))) refl (omega arith))

pub returns-then-saved-eq0 : goal.returns-then-saved-eq0
unfolding return_to returning number_of saved_at zeros8 prover_of
returns-then-saved-eq0 c =
    rw c.number-then-saved-eq0.ensures
    (answer_refused _ (returning _ _) (sym (stop 34 _ (never_kept _ _ c.if-saved-eq0.true))) refl (omega arith))

pub returns : goal.returns
unfolding return_to returning number_of saved_at lowest zeros8 prover_of
returns c =
    let args = c.args in
    let number = c.prover_state-phase.ensures ∙ ap prover_state c.prover_phase.ensures in
    answer_given _ (returning _ _) (sym (pass 34 [] (was_saved _ _ c.if-name-ge8.false c.if-saved-eq0.false))) refl refl
    (returned_session args.session args.name number)
