-- `prover_session::committing::commit` meets its contract: it is the call on what the session holds, and where this is carried out the
-- nonce and the commitment are stored.
-- Assumes nothing.
use Prim.Native.Nat.{ℕ}
use mathlib.Core.Path.{◌≡◌, sym, ap}
use Rattle.std.specs.Prelude.{Ok}
use Rattle.lists.specs.Places.{zeros8}
use Rattle.runs.specs.Prover.{commit}
use Rattle.crossing.specs.Provers.{prover_of, prover_session}
use Rattle.prover.specs.Parts.{committed_step}
use Rattle.prover_session.proofs.Answers.{parts_given, parts_refused}
use Rattle.prover_session.proofs.committing.commit.Goals as goal
use Rattle.prover_session.proofs.committing.commit.Goals.{In-Ok}

-- where the call is carried out, it is so in the whole session
told : (c : In-Ok) →
    let args = c.args in
    committed_step (prover_of args.session) (Ok c.in-Ok.told) ≡ commit args.sheet.now (prover_of args.session) args.nonce
unfolding prover_of
told c = rw (sym c.prover_phase.ensures) (c.in-Ok.ensures c.args.session.memory)

pub returns-in-Ok : goal.returns-in-Ok
unfolding committed_step prover_session prover_of
returns-in-Ok c = parts_given _ (told (goal.at.returns-in-Ok c).In-Ok) (ap (λ (k : ℕ). record { nonce = c.in-Ok.told.nonce; commitment = c.in-Ok.told.commitment; phase = k; memory = c.args.session.memory }) c.prover_state.ensures)

pub returns-in-Err : goal.returns-in-Err
unfolding committed_step prover_of zeros8
returns-in-Err c =
    rw c.number.ensures
    (parts_refused _ (prover_of c.args.session) c.in-Err.refusal
    (rw (sym c.prover_phase.ensures) (c.in-Err.ensures c.args.session.memory)))
