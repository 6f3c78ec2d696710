-- `prover_session::responding::respond` meets its contract: it is the call on what the session holds, and
-- where this is carried out the commitment is listed.
-- Assumes nothing.
use Prim.Native.Nat.{◌<◌}
use mathlib.Core.Path.{◌≡◌, sym, ap}
use native.Mathlib.Omega.{arith}
use Rattle.std.specs.Prelude.{Ok}
use Rattle.types.specs.declared.ProverStep.{ProverStep}
use Rattle.lists.specs.Places.{zeros8}
use Rattle.runs.specs.Prover.{respond}
use Rattle.crossing.specs.Provers.{prover_of}
use Rattle.prover.specs.Parts.{answered_step}
use Rattle.prover_session.proofs.Answers.{parts_given, parts_refused}
use Rattle.prover_session.proofs.Listing.{given_room}
use Rattle.prover_session.proofs.Sessions.{listed_session}
use Rattle.prover_session.proofs.responding.respond.Goals as goal
use Rattle.prover_session.proofs.responding.respond.Goals.{In-Ok}

-- where the call is carried out, it is so in the whole session
told : (c : In-Ok) →
    let args = c.args in
    answered_step (prover_of args.session) (Ok c.in-Ok.values)
    ≡ respond args.sheet.now (prover_of args.session) args.challenge args.witness
unfolding prover_of
told c = rw (sym c.prover_phase.ensures) c.in-Ok.ensures.answer

-- and there is room in the list
room : (c : In-Ok) → c.args.session.memory.count < 64
unfolding prover_of answered_step
room c = given_room _ _ _ _ (sym (ap (λ (step : ProverStep). step.refusal) (told c)))

pub bounds-memory-at : goal.bounds-memory-at
bounds-memory-at c = omega (arith, room (goal.at.bounds-memory-at c).In-Ok)

pub overflow_add-memory : goal.overflow_add-memory
overflow_add-memory c = omega (arith, room (goal.at.overflow_add-memory c).In-Ok)

pub returns-in-Ok : goal.returns-in-Ok
unfolding answered_step zeros8
returns-in-Ok c = parts_given _ (told (goal.at.returns-in-Ok c).In-Ok) (listed_session _ c.prover_state.ensures)

pub returns-in-Err : goal.returns-in-Err
unfolding answered_step prover_of zeros8
returns-in-Err c =
    rw c.number.ensures
    (parts_refused _ (prover_of c.args.session) c.in-Err.refusal
    (rw (sym c.prover_phase.ensures) c.in-Err.ensures.answer))
