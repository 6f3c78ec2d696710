-- Two codes answer alike on rounds and sessions, on every input: value, session and number, refused calls too.
-- Assumes nothing.
use Rattle.std.specs.Prelude.{ℕ, ◌≡◌, List}
use Rattle.types.specs.declared.Prover.{Prover}
use Rattle.types.specs.declared.Round.{Round}
use Rattle.types.specs.declared.Verifier.{Verifier}
use Rattle.runs.specs.RunCalls.{RunCalls}

pub record SameRuns (code code' : RunCalls) : Type 0 where
  pub judge_round : (sheet : List ℕ) (round : Round) → code.judge_round sheet round ≡ code'.judge_round sheet round
  pub simulate_commitment : (sheet : List ℕ) (c : ℕ) (r : List ℕ)
      → code.simulate_commitment sheet c r ≡ code'.simulate_commitment sheet c r
  pub extract_witness : (sheet : List ℕ) (first second : Round)
      → code.extract_witness sheet first second ≡ code'.extract_witness sheet first second
  pub new_prover : code.new_prover ≡ code'.new_prover
  pub commit : (sheet : List ℕ) (p : Prover) (k : List ℕ) → code.commit sheet p k ≡ code'.commit sheet p k
  pub respond : (sheet : List ℕ) (p : Prover) (c : ℕ) (x : List ℕ) → code.respond sheet p c x ≡ code'.respond sheet p c x
  pub drop_session : (p : Prover) → code.drop_session p ≡ code'.drop_session p
  pub save : (p : Prover) (name : ℕ) → code.save p name ≡ code'.save p name
  pub return_to : (p : Prover) (name : ℕ) → code.return_to p name ≡ code'.return_to p name
  pub new_verifier : code.new_verifier ≡ code'.new_verifier
  pub take_commitment : (sheet : List ℕ) (v : Verifier) (t : List ℕ)
      → code.take_commitment sheet v t ≡ code'.take_commitment sheet v t
  pub take_challenge : (sheet : List ℕ) (v : Verifier) (c : ℕ) → code.take_challenge sheet v c ≡ code'.take_challenge sheet v c
  pub take_response : (sheet : List ℕ) (v : Verifier) (r : List ℕ) → code.take_response sheet v r ≡ code'.take_response sheet v r
