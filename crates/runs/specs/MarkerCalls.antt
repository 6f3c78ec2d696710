-- The marker's text as a call (01, "The marker's lines"; 02, cards 3 and 8), whose definition is not named, and the verdict on a
-- round of a file, of which its lines speak.
-- Assumes nothing.
use Rattle.std.specs.Prelude.{ℕ, List}
use Rattle.types.specs.declared.Verdict.{Verdict}
use Rattle.formats.specs.FileCalls.{FileCalls}
use Rattle.runs.specs.RunCalls.{RunCalls}

-- the marker: sheet, file and level
pub record MarkerCalls : Type 0 where
  pub marker_text : List ℕ → List ℕ → List ℕ → List ℕ

module _ (files : FileCalls) (code : RunCalls) where
  open files use {fetch_round}
  open code use {judge_round}

  -- the verdict on round k of a file: what judging answers on the round as the read call gives it
  abbrev pub verdict_on : List ℕ → List ℕ → ℕ → Verdict
  verdict_on sheet f k = judge_round sheet (fetch_round sheet f k).round
