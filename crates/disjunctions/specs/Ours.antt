-- The calls of the OR proof as they are defined, by the definitions that the contracts cite, and the words on calls of these.
-- Assumes nothing.
use Rattle.std.specs.Prelude.{ℕ, List}
use Rattle.types.specs.declared.Round.{Round}
use Rattle.formats.specs.Ours.{file_calls}
use Rattle.runs.specs.Ours.{run_calls}
use Rattle.disjunctions.specs.declared.OrProver.{OrProver}
use Rattle.disjunctions.specs.declared.OrRound.{OrRound}
use Rattle.disjunctions.specs.declared.OrStep.{OrStep}
use Rattle.disjunctions.specs.Calls.{OrCall, call_or as call_or_by, or_after as or_after_by, or_trace as or_trace_by}
use Rattle.disjunctions.specs.Extractor.{extract_or}
use Rattle.disjunctions.specs.Judge.{judge_or}
use Rattle.disjunctions.specs.Knowledge.{
  AcceptedOrPair as AcceptedOrPairBy,
  AcceptsOr as AcceptsOrBy,
  ExtractsSide as ExtractsSideBy,
  MakesEachOnce as MakesEachOnceBy,
  OrChoice,
  Pair as PairBy,
  or_round as or_round_by,
}
use Rattle.disjunctions.specs.OneOfTwo.{SideMask as SideMaskBy}
use Rattle.disjunctions.specs.OrCalls.{OrCalls}
use Rattle.disjunctions.specs.Prover.{new_or_prover, commit_or, respond_or, drop_or}

abbrev pub or_calls : OrCalls
or_calls = record {
  judge_or = judge_or;
  extract_or = extract_or;
  new_or_prover = new_or_prover;
  commit_or = commit_or;
  respond_or = respond_or;
  drop_or = drop_or;
}

-- ---- lists of calls

unfoldable pub call_or : OrCall → OrProver → OrStep
call_or call p = call_or_by or_calls call p

unfoldable pub or_after : List OrCall → OrProver → OrProver
or_after calls p = or_after_by or_calls calls p

unfoldable pub or_trace : List OrCall → OrProver → List (OrCall × OrStep)
or_trace calls p = or_trace_by or_calls calls p

-- ---- sheets and rounds

abbrev pub Pair : List ℕ → List ℕ → Type 0
Pair s s' = PairBy file_calls s s'

abbrev pub AcceptsOr : List ℕ → List ℕ → OrRound → Type 0
AcceptsOr s s' round = AcceptsOrBy or_calls s s' round

unfoldable pub or_round : List ℕ → List ℕ → ℕ → List ℕ → ℕ → OrChoice → OrRound
or_round s s' side x c choice = or_round_by or_calls s s' side x c choice

abbrev pub MakesEachOnce : List ℕ → List ℕ → ℕ → ℕ → (OrChoice → OrRound) → Type 0
MakesEachOnce s s' side c make = MakesEachOnceBy or_calls s s' side c make

abbrev pub AcceptedOrPair : List ℕ → List ℕ → OrRound → OrRound → Type 0
AcceptedOrPair s s' a b = AcceptedOrPairBy or_calls s s' a b

abbrev pub ExtractsSide : List ℕ → List ℕ → List ℕ → ℕ → (OrRound → Round) → OrRound → OrRound → Type 0
ExtractsSide s s' sheet side part a b = ExtractsSideBy run_calls or_calls s s' sheet side part a b

abbrev pub SideMask : List ℕ → Round → ℕ → Type 0
SideMask s round mask = SideMaskBy run_calls s round mask
