-- Worked sessions (01, "Sessions"; 02, card 4): page A in Peggy's session and in Vic's, and the worked pair of sheets in that of the OR
-- proof, with the whole answer to each call, carried out and refused: the state and all that is held, the values and the number.
-- Assumes nothing.
use Rattle.std.specs.Prelude.{ℕ, ◌-◌, ◌≡◌, List, [], ◌∷◌, ◌++◌, map, length, replicate}
use Rattle.types.specs.declared.Prover.{Prover}
use Rattle.types.specs.declared.ProverPhase.{ProverPhase}
use Rattle.types.specs.declared.ProverPhase.TheVariants.{New, Committed, Answered, Dropped}
use Rattle.types.specs.declared.Verdict.TheVariants.{Accepted, Rejected, Refused}
use Rattle.types.specs.declared.Verifier.{Verifier}
use Rattle.types.specs.declared.VerifierPhase.{VerifierPhase}
use Rattle.types.specs.declared.VerifierPhase.TheVariants.{Holding, Asked, Judged}
use Rattle.disjunctions.specs.declared.OrProver.{OrProver}
use Rattle.disjunctions.specs.Prover.{commit_or, drop_or, new_or_prover, respond_or}
use Rattle.runs.specs.Prover.{commit, drop_session, new_prover, respond}
use Rattle.runs.specs.Verifier.{new_verifier, take_challenge, take_commitment, take_response}
use Rattle.examples.specs.Corners.{root_bytes}
use Rattle.examples.specs.OrPage.{logarithm_sheet}
use Rattle.examples.specs.Pages.{array}
use Rattle.examples.specs.Sheets.{schnorr_sheet}
use Rattle.examples.specs.TwoRows.{eight}

-- Peggy's session in a state, with a nonce and a commitment of one place; nothing is saved, and these commitments were answered
unfoldable pub peggy_listed : List ℕ → ProverPhase → ℕ → ℕ → Prover
peggy_listed ts phase k t =
    record {
      nonce = eight (k ∷ []);
      commitment = eight (t ∷ []);
      phase = phase;
      memory =
          record {
            saved = replicate 8 (record { nonce = eight []; commitment = eight []; phase = 0; kept = 0 });
            answered =
                map (λ u. record { commitment = eight (u ∷ []) }) ts ++ replicate (64 - length ts) (record { commitment = eight [] });
            count = length ts;
          };
    }

-- the same where none was
unfoldable pub peggy_holds : ProverPhase → ℕ → ℕ → Prover
peggy_holds = peggy_listed []

-- Vic's in a state, with a commitment of one place and a challenge
unfoldable pub vic_holds : VerifierPhase → ℕ → ℕ → Verifier
vic_holds phase t c = record { commitment = eight (t ∷ []); challenge = c; phase = phase }

-- the OR proof's in a state: the nonce, the simulated response, both commitments, the simulated challenge and the side
unfoldable pub or_holds : ProverPhase → ℕ → ℕ → ℕ → ℕ → ℕ → ℕ → OrProver
or_holds phase k r t t' d side =
    record {
      nonce = eight (k ∷ []);
      response = eight (r ∷ []);
      commitment0 = eight (t ∷ []);
      commitment1 = eight (t' ∷ []);
      challenge = d;
      side = side;
      phase = phase;
    }

pub record SessionPage : Type 0 where
  -- Peggy commits to 5 and answers 3 with the witness 7; dropped once new, and once committed
  pub committed : commit schnorr_sheet new_prover (array (5 ∷ []))
      ≡ record { session = peggy_holds Committed 5 9; values = eight (9 ∷ []); refusal = 0 }
  pub answered : respond schnorr_sheet (peggy_holds Committed 5 9) 3 (array (7 ∷ []))
      ≡ record { session = peggy_listed (9 ∷ []) Answered 0 9; values = eight (4 ∷ []); refusal = 0 }
  pub dropped_new : drop_session (peggy_holds New 0 0) ≡ record { session = peggy_holds Dropped 0 0; values = eight (0 ∷ []); refusal = 0 }
  pub dropped : drop_session (peggy_holds Committed 5 9) ≡ record { session = peggy_holds Dropped 0 9; values = eight (0 ∷ []); refusal = 0 }
  -- Vic takes the commitment 9 and the challenge 3, and then the response 4, or 5
  pub holding : take_commitment schnorr_sheet new_verifier (array (9 ∷ [])) ≡ record { session = vic_holds Holding 9 0; refusal = 0 }
  pub asked : take_challenge schnorr_sheet (vic_holds Holding 9 0) 3 ≡ record { session = vic_holds Asked 9 3; refusal = 0 }
  pub judged : take_response schnorr_sheet (vic_holds Asked 9 3) (array (4 ∷ [])) ≡ record { verdict = Accepted; session = vic_holds Judged 9 3 }
  pub rejected : take_response schnorr_sheet (vic_holds Asked 9 3) (array (5 ∷ [])) ≡ record { verdict = Rejected 1; session = vic_holds Judged 9 3 }
  -- Peggy who knows side 0 commits to 5, 3 and 4 and answers 1 with the witness 7; c0 is 3
  pub or_committed : commit_or logarithm_sheet root_bytes new_or_prover 0 (array (5 ∷ [])) 3 (array (4 ∷ []))
      ≡ record { session = or_holds Committed 5 4 9 23 3 0; values0 = eight (9 ∷ []); values1 = eight (23 ∷ []); challenge0 = 0; refusal = 0 }
  pub or_answered : respond_or logarithm_sheet root_bytes (or_holds Committed 5 4 9 23 3 0) 1 (array (7 ∷ []))
      ≡ record { session = or_holds Answered 0 0 9 23 0 0; values0 = eight (4 ∷ []); values1 = eight (4 ∷ []); challenge0 = 3; refusal = 0 }
  pub or_dropped : drop_or (or_holds Committed 5 4 9 23 3 0)
      ≡ record { session = or_holds Dropped 0 0 9 23 0 0; values0 = eight (0 ∷ []); values1 = eight (0 ∷ []); challenge0 = 0; refusal = 0 }
  -- and one who knows side 1 commits to 3, 3 and 4 and answers 1 with the witness 2
  pub or_committed_second : commit_or logarithm_sheet root_bytes new_or_prover 1 (array (3 ∷ [])) 3 (array (4 ∷ []))
      ≡ record { session = or_holds Committed 3 4 9 33 3 1; values0 = eight (9 ∷ []); values1 = eight (33 ∷ []); challenge0 = 0; refusal = 0 }
  pub or_answered_second : respond_or logarithm_sheet root_bytes (or_holds Committed 3 4 9 33 3 1) 1 (array (2 ∷ []))
      ≡ record { session = or_holds Answered 0 0 9 33 0 0; values0 = eight (4 ∷ []); values1 = eight (24 ∷ []); challenge0 = 3; refusal = 0 }
  -- a refused call hands back the session as it was, and zeros
  pub commit_refused : commit schnorr_sheet (peggy_holds Committed 5 9) (array (5 ∷ []))
      ≡ record { session = peggy_holds Committed 5 9; values = eight []; refusal = 21 }
  pub respond_refused : respond schnorr_sheet (peggy_holds Committed 5 9) 3 (array (6 ∷ []))
      ≡ record { session = peggy_holds Committed 5 9; values = eight []; refusal = 17 }
  pub drop_refused : drop_session (peggy_holds Answered 0 9) ≡ record { session = peggy_holds Answered 0 9; values = eight []; refusal = 21 }
  pub commitment_refused : take_commitment schnorr_sheet (vic_holds Holding 9 0) (array (9 ∷ []))
      ≡ record { session = vic_holds Holding 9 0; refusal = 21 }
  pub challenge_refused : take_challenge schnorr_sheet (vic_holds Holding 9 0) 11 ≡ record { session = vic_holds Holding 9 0; refusal = 15 }
  pub response_refused : take_response schnorr_sheet (vic_holds Asked 9 3) (array (11 ∷ []))
      ≡ record { verdict = Refused 16; session = vic_holds Asked 9 3 }
  pub or_commit_refused : commit_or logarithm_sheet root_bytes (or_holds Committed 5 4 9 23 3 0) 0 (array (5 ∷ [])) 3 (array (4 ∷ []))
      ≡ record { session = or_holds Committed 5 4 9 23 3 0; values0 = eight []; values1 = eight []; challenge0 = 0; refusal = 21 }
  pub or_respond_refused : respond_or logarithm_sheet root_bytes (or_holds Committed 5 4 9 23 3 0) 1 (array (6 ∷ []))
      ≡ record { session = or_holds Committed 5 4 9 23 3 0; values0 = eight []; values1 = eight []; challenge0 = 0; refusal = 17 }
  pub or_drop_refused : drop_or (or_holds Answered 0 0 9 23 0 0)
      ≡ record { session = or_holds Answered 0 0 9 23 0 0; values0 = eight []; values1 = eight []; challenge0 = 0; refusal = 21 }
