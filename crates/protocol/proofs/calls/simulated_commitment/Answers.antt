-- `protocol::calls::simulated_commitment` meets its contract: a refused sheet's number is the answer, else its values are loaded.
-- Assumes nothing.
use Rattle.std.proofs.lemmas.Result.{err_from_is_err_and}
use Rattle.runs.specs.Calls.{simulate_commitment}
use Rattle.sigma.specs.Simulator.{simulating, simulate_loaded}
use Rattle.instance.proofs.SheetLoads.{on_loaded, on_refused}
use Rattle.protocol.proofs.calls.simulated_commitment.Goals as goal

pub returns-in_err-loaded : goal.returns-in_err-loaded
unfolding simulate_commitment simulating
returns-in_err-loaded c =
    let args = c.args in
    let passed_on = err_from_is_err_and c.from_residual.result c.from_residual.ensures.1 in
    rw (passed_on.1, passed_on.2) (on_refused _ _ c.in_err-loaded.ensures.number (simulating _ args.c args.r))

pub returns : goal.returns
unfolding simulate_commitment simulate_loaded
returns c =
    let args = c.args in
    let told = c.in_ok-loaded.ensures in
    on_loaded _ told.number told.values (λ inst. simulating inst args.c args.r) c.simulate_loaded.ensures
