-- The calls that judge, simulate and extract from a sheet's bytes; the sheet's own refusals, 2 to 11, come first.
-- Assumes nothing.
use Rattle.std.specs.Prelude.{ℕ, List}
use Rattle.types.specs.declared.Computed.{Computed}
use Rattle.types.specs.declared.Round.{Round}
use Rattle.types.specs.declared.Verdict.{Verdict}
use Rattle.rules.specs.Call.{answer}
use Rattle.formats.specs.Load.{on_sheet}
use Rattle.formats.specs.Sheet.{instance_of}
use Rattle.sigma.specs.Extractor.{extracting}
use Rattle.sigma.specs.Judge.{judging}
use Rattle.sigma.specs.Simulator.{simulating}

-- the call that judges a round
unfoldable pub judge_round : List ℕ → Round → Verdict
judge_round sheet round = answer (on_sheet sheet (judging (instance_of sheet) round))

-- the call that simulates a commitment
unfoldable pub simulate_commitment : List ℕ → ℕ → List ℕ → Computed
simulate_commitment sheet c r = answer (on_sheet sheet (simulating (instance_of sheet) c r))

-- the call that extracts a witness
unfoldable pub extract_witness : List ℕ → Round → Round → Computed
extract_witness sheet first second = answer (on_sheet sheet (extracting (instance_of sheet) first second))
