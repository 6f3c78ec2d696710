-- The demands on the OR proof determine its calls: two codes that meet them over the same calls on rounds answer the same to every
-- input.
-- Assumes nothing.
use Rattle.formats.specs.FileCalls.{FileCalls}
use Rattle.runs.specs.RunCalls.{RunCalls}
use Rattle.runs.specs.Same.{SameRuns}
use Rattle.disjunctions.specs.OrCalls.{OrCalls}
use Rattle.disjunctions.specs.Same.{SameEither}
use Rattle.disjunctions.proofs.OnlyRounds.{EitherDemands, extract_same, judge_same}
use Rattle.disjunctions.proofs.OnlySessions.{commit_same, drop_same, new_same, respond_same}

pub only_either : {files files' : FileCalls} {code code' : RunCalls} {either either' : OrCalls}
    → EitherDemands files code either → EitherDemands files' code' either' → SameRuns code code'
    → SameEither either either'
only_either d d' runs = record {
  judge_or = judge_same d d' runs;
  extract_or = extract_same d d' runs;
  new_or_prover = new_same d d' runs;
  commit_or = commit_same d d' runs;
  respond_or = respond_same d d' runs;
  drop_or = drop_same d d' runs;
}
