-- `crossing::verifiers::verifier_phase` meets its contract: three numbers have an arm each, and every other number is behind them.
-- Assumes nothing.
use mathlib.Core.Path.{sym}
use Rattle.crossing.specs.OfFour.{of_four}
use Rattle.crossing.specs.Verifiers.{verifier_phase}
use Rattle.crossing.proofs.Phases.{of_four_last}
use Rattle.crossing.proofs.verifiers.verifier_phase.Goals as goal

pub returns-in-0 : goal.returns-in-0
unfolding verifier_phase of_four
returns-in-0 c = rw c.in-0.is

pub returns-in-1 : goal.returns-in-1
unfolding verifier_phase of_four
returns-in-1 c = rw c.in-1.is

pub returns-in-2 : goal.returns-in-2
unfolding verifier_phase of_four
returns-in-2 c = rw c.in-2.is

pub returns-in-3-to-4294967295 : goal.returns-in-3-to-4294967295
unfolding verifier_phase
returns-in-3-to-4294967295 c =
    let rest = c.in-3-to-4294967295.in-3-to-4294967295-own.rest in
    sym (of_four_last _ _ _ _ _ rest.0.0.1 rest.0.1 rest.1)
