-- `protocol::loaded::simulate_loaded` meets its contract: each return is a law of simulating.
-- Assumes nothing.
use mathlib.Core.Path.{sym, ◌∙◌}
use native.Mathlib.Omega.{arith}
use Rattle.rules.proofs.Lowest.{pass, stop}
use Rattle.sigma.specs.Simulator.{simulating}
use Rattle.sigma.proofs.Passed.{challenge_passes}
use Rattle.sigma.proofs.Tests.{says_bad_challenge}
use Rattle.image.proofs.Tested.{coordinates_read}
use Rattle.protocol.proofs.Simulating.{simulate_refused, simulate_passed}
use Rattle.protocol.proofs.loaded.simulate_loaded.Goals as goal

pub returns-then-c-h : goal.returns-then-c-h
unfolding simulating
returns-then-c-h c =
    simulate_refused _ _ _ 15 (omega arith) (stop 15 _ ((says_bad_challenge _ _).complete c.if-c-h.true))

pub returns-then-some_non_coordinate : goal.returns-then-some_non_coordinate
unfolding simulating
returns-then-some_non_coordinate c =
    simulate_refused _ _ _ 16 (omega arith)
    (pass 15 _ ((challenge_passes _ _).1 c.if-c-h.false)
    ∙ stop 16 _ (coordinates_read _ _ ∙ sym c.some_non_coordinate.ensures ∙ c.if-some_non_coordinate.true))

pub returns : goal.returns
unfolding simulating
returns c =
    simulate_passed _ _ _ (
      (challenge_passes _ _).1 c.if-c-h.false,
      (coordinates_read _ _ ∙ sym c.some_non_coordinate.ensures ∙ c.if-some_non_coordinate.false, tt),
    ) c.simulated.ensures
