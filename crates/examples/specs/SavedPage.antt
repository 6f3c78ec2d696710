-- A worked demonstrator (02, card 13), on page A's sheet: Peggy is saved as new and as committed, answers, returns to Committed and is
-- refused with 32, returns to New and goes on. The whole answer to each call, with the whole record that it hands back, and what is
-- answered over calls in a row.
-- Assumes nothing.
use Rattle.std.specs.Prelude.{ℕ, ◌-◌, ◌≡◌, List, [], ◌∷◌, ◌++◌, map, length, replicate}
use Rattle.types.specs.declared.Prover.{Prover}
use Rattle.types.specs.declared.ProverPhase.{ProverPhase}
use Rattle.types.specs.declared.ProverPhase.TheVariants.{New, Committed, Answered, Dropped}
use Rattle.types.specs.declared.ProverStep.{ProverStep}
use Rattle.types.specs.declared.Saved.{Saved}
use Rattle.runs.specs.Ours.{prover_trace}
use Rattle.runs.specs.Prover.{commit, drop_session, new_prover, respond}
use Rattle.runs.specs.ProverCalls.{ProverCall, Commit, Respond, Return, answered_on, challenges_of}
use Rattle.runs.specs.Run.{answered}
use Rattle.runs.specs.Saving.{return_to, save}
use Rattle.examples.specs.Pages.{array}
use Rattle.examples.specs.Sheets.{schnorr_sheet}
use Rattle.examples.specs.TwoRows.{eight}

-- a saved copy: the state's number, the nonce and the commitment, of one place each
unfoldable pub copy : ℕ → ℕ → ℕ → Saved
copy state k t = record { nonce = eight (k ∷ []); commitment = eight (t ∷ []); phase = state; kept = 1 }

-- a session that has these copies under the first names and nothing under the others, that has answered these commitments, and holds
-- a nonce and a commitment of one place in a state
unfoldable pub peggy_keeps : List Saved → List ℕ → ProverPhase → ℕ → ℕ → Prover
peggy_keeps copies ts phase k t =
    record {
      nonce = eight (k ∷ []);
      commitment = eight (t ∷ []);
      phase = phase;
      memory =
          record {
            saved =
                copies ++ replicate (8 - length copies) (record { nonce = eight []; commitment = eight []; phase = 0; kept = 0 });
            answered =
                map (λ u. record { commitment = eight (u ∷ []) }) ts ++ replicate (64 - length ts) (record { commitment = eight [] });
            count = length ts;
          };
    }

-- a call that is carried out answers this session and a value of one place, and a refused one the session as it was, and zeros
unfoldable pub given : Prover → ℕ → ProverStep
given p value = record { session = p; values = eight (value ∷ []); refusal = 0 }

unfoldable pub refused : Prover → ℕ → ProverStep
refused p number = record { session = p; values = eight []; refusal = number }

-- the copies of the new session, and of it once she has committed to 5
unfoldable pub both : List Saved
both = copy 0 0 0 ∷ copy 1 5 9 ∷ []

-- she answers 3, returns to Committed and is refused, returns to New, commits to 6 and answers 1: the calls that are carried out
unfoldable pub in_a_row : List (ProverCall × ProverStep)
in_a_row =
    prover_trace
    (Respond schnorr_sheet 3 (array (7 ∷ [])) ∷ Return 1 ∷ Respond schnorr_sheet 1 (array (7 ∷ [])) ∷ Return 0 ∷
    Commit schnorr_sheet (array (6 ∷ [])) ∷ Respond schnorr_sheet 1 (array (7 ∷ [])) ∷ [])
    (peggy_keeps both [] Committed 5 9)

pub record SavedPage : Type 0 where
  -- Peggy is saved under 0, commits to 5, is saved under 1, and answers 3 with 4; the copy keeps the nonce
  pub saved_new : save new_prover 0 ≡ given (peggy_keeps (copy 0 0 0 ∷ []) [] New 0 0) 0
  pub committed : commit schnorr_sheet (peggy_keeps (copy 0 0 0 ∷ []) [] New 0 0) (array (5 ∷ []))
      ≡ given (peggy_keeps (copy 0 0 0 ∷ []) [] Committed 5 9) 9
  pub saved : save (peggy_keeps (copy 0 0 0 ∷ []) [] Committed 5 9) 1 ≡ given (peggy_keeps both [] Committed 5 9) 0
  pub responded : respond schnorr_sheet (peggy_keeps both [] Committed 5 9) 3 (array (7 ∷ []))
      ≡ given (peggy_keeps both (9 ∷ []) Answered 0 9) 4
  -- back in Committed she is asked for 1 and refused with 32; dropped, she can be brought back again
  pub returned : return_to (peggy_keeps both (9 ∷ []) Answered 0 9) 1 ≡ given (peggy_keeps both (9 ∷ []) Committed 5 9) 0
  pub refused_again : respond schnorr_sheet (peggy_keeps both (9 ∷ []) Committed 5 9) 1 (array (7 ∷ []))
      ≡ refused (peggy_keeps both (9 ∷ []) Committed 5 9) 32
  pub dropped : drop_session (peggy_keeps both (9 ∷ []) Committed 5 9) ≡ given (peggy_keeps both (9 ∷ []) Dropped 0 9) 0
  pub returned_again : return_to (peggy_keeps both (9 ∷ []) Dropped 0 9) 1 ≡ given (peggy_keeps both (9 ∷ []) Committed 5 9) 0
  -- back in New she commits to 5 again, which is not refused, or to 6, and answers 1 for that with 2
  pub started_again : return_to (peggy_keeps both (9 ∷ []) Committed 5 9) 0 ≡ given (peggy_keeps both (9 ∷ []) New 0 0) 0
  pub same_nonce : commit schnorr_sheet (peggy_keeps both (9 ∷ []) New 0 0) (array (5 ∷ []))
      ≡ given (peggy_keeps both (9 ∷ []) Committed 5 9) 9
  pub other_nonce : commit schnorr_sheet (peggy_keeps both (9 ∷ []) New 0 0) (array (6 ∷ []))
      ≡ given (peggy_keeps both (9 ∷ []) Committed 6 18) 18
  pub goes_on : respond schnorr_sheet (peggy_keeps both (9 ∷ []) Committed 6 18) 1 (array (7 ∷ []))
      ≡ given (peggy_keeps both (9 ∷ 18 ∷ []) Answered 0 18) 2
  -- saved in Answered under 1, what was there is replaced; saved in Dropped under 2
  pub replaced : save (peggy_keeps both (9 ∷ 18 ∷ []) Answered 0 18) 1
      ≡ given (peggy_keeps (copy 0 0 0 ∷ copy 2 0 18 ∷ []) (9 ∷ 18 ∷ []) Answered 0 18) 0
  pub saved_dropped : save (peggy_keeps both (9 ∷ []) Dropped 0 9) 2
      ≡ given (peggy_keeps (copy 0 0 0 ∷ copy 1 5 9 ∷ copy 3 0 9 ∷ []) (9 ∷ []) Dropped 0 9) 0
  -- over calls in a row, of which two return, two challenges are answered, for two commitments
  pub challenges : answered challenges_of in_a_row ≡ 3 ∷ 1 ∷ []
  pub commitments : answered_on in_a_row ≡ eight (9 ∷ []) ∷ eight (18 ∷ []) ∷ []
  -- a name outside 0 to 7, and one that was never saved
  pub save_refused : save (peggy_keeps both [] Committed 5 9) 8 ≡ refused (peggy_keeps both [] Committed 5 9) 34
  pub return_refused : return_to (peggy_keeps both [] Committed 5 9) 2 ≡ refused (peggy_keeps both [] Committed 5 9) 34
