-- On a sheet that loads, each call on its bytes is the call on its values.
-- Assumes nothing.
use Prim.Native.Nat.{ℕ}
use mathlib.Core.Path.{◌≡◌, sym, ◌∙◌}
use mathlib.Core.Logic.{◌↔◌}
use mathlib.Core.List.{List}
use Rattle.types.specs.declared.Round.{Round}
use Rattle.rules.specs.Rule.{Clear}
use Rattle.formats.specs.Load.{load_rules, load_refusal}
use Rattle.formats.specs.Sheet.{instance_of}
use Rattle.formats.proofs.Loads.{load_clear, loads}
use Rattle.formats.proofs.OnSheet.{on_sheet_loads}
use Rattle.sigma.specs.Extractor.{extracting, extract_loaded}
use Rattle.sigma.specs.Judge.{judging, judge_loaded}
use Rattle.sigma.specs.Knowledge.{AcceptedRound}
use Rattle.sigma.specs.Simulator.{simulating, simulate_loaded}
use Rattle.runs.specs.Calls.{judge_round, simulate_commitment, extract_witness}
use Rattle.runs.specs.Ours.{Accepts}

module _ (sheet : List ℕ) (loaded : load_refusal sheet ≡ 0) where
  -- no rule of the sheet applies
  pub sheet_clear : Clear (load_rules sheet)
  sheet_clear = (load_clear sheet).1 ((loads sheet).0 loaded)

  -- judging
  pub judge_loaded_law : (round : Round) → judge_round sheet round ≡ judge_loaded (instance_of sheet) round
  unfolding judge_round judge_loaded
  judge_loaded_law round = on_sheet_loads sheet (judging (instance_of sheet) round) loaded

  -- the same rounds are accepted
  pub accepts_loaded : (round : Round) → Accepts sheet round ↔ AcceptedRound (instance_of sheet) round
  accepts_loaded round = (λ e. sym (judge_loaded_law round) ∙ e, λ e. judge_loaded_law round ∙ e)

  -- simulating
  pub simulate_loaded_law : (c : ℕ) (r : List ℕ) → simulate_commitment sheet c r ≡ simulate_loaded (instance_of sheet) c r
  unfolding simulate_commitment simulate_loaded
  simulate_loaded_law c r = on_sheet_loads sheet (simulating (instance_of sheet) c r) loaded

  -- extracting
  pub extract_loaded_law : (first second : Round) → extract_witness sheet first second ≡ extract_loaded (instance_of sheet) first second
  unfolding extract_witness extract_loaded
  extract_loaded_law first second = on_sheet_loads sheet (extracting (instance_of sheet) first second) loaded
