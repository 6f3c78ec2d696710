-- The words of demand 3 on a sheet's bytes (00, demand 3; 01, "A round"): honest and simulated rounds as the calls make them.
-- Assumes nothing.
use Rattle.std.specs.Prelude.{ℕ, ◌≡◌, List}
use Rattle.types.specs.declared.ProverStep.{ProverStep}
use Rattle.types.specs.declared.Round.{Round}
use Rattle.types.specs.declared.Verdict.TheVariants.{Accepted}
use Rattle.lists.specs.Places.{pad8}
use Rattle.sigma.specs.Reads.{round_of}
use Rattle.runs.specs.RunCalls.{RunCalls}

module _ (code : RunCalls) where
  open code use {judge_round, simulate_commitment, new_prover, commit, respond}

  -- a round is accepted: the call that judges rounds, given the sheet and the round, answers accepted
  abbrev pub Accepts : List ℕ → Round → Type 0
  Accepts sheet round = judge_round sheet round ≡ Accepted

  -- the honest round of x, c and k: t is the commitment that Peggy makes for k in a new session, and r is what she answers
  -- when the session then handed back gets c and x
  abbrev pub honest_round : List ℕ → List ℕ → ℕ → List ℕ → Round
  honest_round sheet x c k =
      let committed : ProverStep = commit sheet new_prover k in
      round_of committed.values c (respond sheet committed.session c x).values

  -- the simulated round of c and r: t is what the simulator gives for them; r stands in eight places
  abbrev pub simulated_round : List ℕ → ℕ → List ℕ → Round
  simulated_round sheet c r = round_of (simulate_commitment sheet c r).values c (pad8 0 r)
