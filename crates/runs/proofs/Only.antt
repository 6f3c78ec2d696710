-- The demands determine the calls on rounds and sessions: two codes that meet them answer the same to every input.
-- Assumes nothing.
use mathlib.Core.Path.{sym, ◌∙◌}
use Rattle.formats.specs.FileCalls.{FileCalls}
use Rattle.runs.specs.RunCalls.{RunCalls}
use Rattle.runs.specs.Same.{SameRuns}
use Rattle.runs.proofs.OnlyRounds.{extract_only, judge_only, simulate_only}
use Rattle.runs.proofs.OnlySessions.{commit_only, drop_only, respond_only, return_only, save_only}
use Rattle.runs.proofs.OnlySessions.{take_challenge_only, take_commitment_only, take_response_only}
use Rattle.runs.proofs.RunDemands.{RunDemands}

pub only_runs : {files files' : FileCalls} {code code' : RunCalls} → RunDemands files code → RunDemands files' code'
    → SameRuns code code'
only_runs d d' = record {
  judge_round = judge_only d d';
  simulate_commitment = simulate_only d d';
  extract_witness = extract_only d d';
  new_prover = d.sessions.prover.new ∙ sym d'.sessions.prover.new;
  commit = commit_only d d';
  respond = respond_only d d';
  drop_session = drop_only d d';
  save = save_only d d';
  return_to = return_only d d';
  new_verifier = d.sessions.verifier.new ∙ sym d'.sessions.verifier.new;
  take_commitment = take_commitment_only d d';
  take_challenge = take_challenge_only d d';
  take_response = take_response_only d d';
}
