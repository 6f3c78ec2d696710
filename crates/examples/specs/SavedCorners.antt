-- 32, 33 and 34 (02, card 13) by each part of their conditions: where the held commitment stands in a list made by hand, the count, the
-- name and the flag. And what is asked before them, what plays no part, and the whole records that the calls hand back.
-- Assumes nothing.
use Rattle.std.specs.Prelude.{ℕ, ◌≡◌, replicate, take}
use mathlib.Core.List.{List, [], ◌∷◌, ◌++◌, flatten, map}
use Rattle.std.proofs.lemmas.List.Edits.{sets}
use Rattle.types.specs.declared.Memory.{Memory}
use Rattle.types.specs.declared.Prover.{Prover}
use Rattle.types.specs.declared.ProverPhase.{ProverPhase}
use Rattle.types.specs.declared.ProverPhase.TheVariants.{New, Committed, Answered, Dropped}
use Rattle.types.specs.declared.ProverStep.{ProverStep}
use Rattle.types.specs.declared.Saved.{Saved}
use Rattle.runs.specs.Prover.{commit, drop_session, respond}
use Rattle.runs.specs.Saving.{return_to, save}
use Rattle.examples.specs.Corners.{Corner, responding}
use Rattle.examples.specs.Pages.{array}
use Rattle.examples.specs.Sheets.{schnorr_sheet, small_sheet}
use Rattle.examples.specs.TwoRows.{eight, spoilt}

-- ---- records made by hand

-- the greatest number that a place of the record holds
unfoldable pub greatest : ℕ
greatest = 4294967295

-- a memory with these flags, each beside the state with this number, nonce and commitment, with these commitments in the list and
-- others behind them, and with a count
unfoldable pub memory_of : List ℕ → ℕ → List (List ℕ) → ℕ → Memory
memory_of flags state entries count =
    record {
      saved = map (λ flag. record { nonce = array (5 ∷ []); commitment = array (9 ∷ []); phase = state; kept = flag }) flags;
      answered = map (λ t. record { commitment = t }) (take 64 (entries ++ replicate 64 (eight (2 ∷ []))));
      count = count;
    }

-- Peggy in a state with a memory; she holds the nonce 5 of page A's sheet and its commitment 9
unfoldable pub peggy_with : ProverPhase → Memory → Prover
peggy_with phase m = record { nonce = array (5 ∷ []); commitment = eight (9 ∷ []); phase = phase; memory = m }

-- once she is committed, with these commitments listed and a count
unfoldable pub peggy_lists : List (List ℕ) → ℕ → Prover
peggy_lists entries count = peggy_with Committed (memory_of (replicate 8 0) 0 entries count)

-- the list in which her commitment stands at this entry, others before it
unfoldable pub at : ℕ → List (List ℕ)
at i = replicate i (eight (2 ∷ [])) ++ eight (9 ∷ []) ∷ []

-- the list of 65 entries, longer than any record's, with her commitment as the last
unfoldable pub peggy_beyond : ℕ → Prover
peggy_beyond count =
    peggy_with Committed
    (record {
      saved = (memory_of (replicate 8 0) 0 [] 0).saved;
      answered = map (λ t. record { commitment = t }) (at 64);
      count = count;
    })

-- ---- the calls' numbers

-- responding to 3 with the witness
unfoldable pub answering : List (List ℕ) → ℕ → ℕ
answering entries count = responding 3 7 (peggy_lists entries count)

-- on a sheet with the entry 3, on which 9 is the commitment to 2, and the statement 3 has the witness 1
unfoldable pub answering_elsewhere : List (List ℕ) → ℕ → ℕ
answering_elsewhere entries count =
    (respond (small_sheet 23 11 11 3 3)
    (record {
      nonce = array (2 ∷ []);
      commitment = eight (9 ∷ []);
      phase = Committed;
      memory = memory_of (replicate 8 0) 0 entries count;
    }) 5 (array (1 ∷ []))).refusal

-- the four states
unfoldable pub every_state : List ProverPhase
every_state = New ∷ Committed ∷ Answered ∷ Dropped ∷ []

-- saving under a name in each state, the record being full
unfoldable pub saving_in : ℕ → List ℕ
saving_in name = map (λ phase. (save (peggy_with phase (memory_of (replicate 8 1) 1 (at 0) 64)) name).refusal) every_state

-- returning to a name in each state, with these flags
unfoldable pub returning_in : List ℕ → ℕ → List ℕ
returning_in flags name = map (λ phase. (return_to (peggy_with phase (memory_of flags 1 (at 0) 64)) name).refusal) every_state

-- the flags that have one flag at a name and another at each other name
unfoldable pub flag : ℕ → ℕ → ℕ → List ℕ
flag name here elsewhere = sets (replicate 8 elsewhere) name (here ∷ [])

-- ---- whole records

-- a record whose copies, list and count are all made by hand, before and after a call: under the name 7 stands this copy, at the
-- entry 1 this commitment
unfoldable pub by_hand : ProverPhase → List ℕ → List ℕ → Saved → List ℕ → ℕ → Prover
by_hand phase k t last entry count =
    record {
      nonce = k;
      commitment = t;
      phase = phase;
      memory =
          record {
            saved = replicate 7 (record { nonce = array (3 ∷ []); commitment = array (8 ∷ []); phase = 4; kept = 2 }) ++ last ∷ [];
            answered =
                record { commitment = array (4 ∷ []) } ∷ record { commitment = entry } ∷
                replicate 62 (record { commitment = array (6 ∷ []) });
            count = count;
          };
    }

-- what stands under the name 7 before: a copy by hand
unfoldable pub old : Saved
old = record { nonce = array (1 ∷ []); commitment = array (2 ∷ []); phase = 1; kept = 9 }

-- the record with the last copy and the second commitment as they are
unfoldable pub as_before : ProverPhase → ℕ → Prover
as_before phase count = by_hand phase (array (5 ∷ [])) (eight (9 ∷ [])) old (array (7 ∷ [])) count

-- what a call hands back
unfoldable pub handed : ProverStep → Prover
handed step = step.session

pub record SavedCorners : Type 0 where
  -- the commitment is none of those that are counted: it stands at the count, or behind it, or each of its eight places alone is
  -- another in every entry
  pub refusal32 :
      Corner 32
      (answering [] 0 ∷ answering (at 0) 0 ∷ answering (at 1) 1 ∷ answering (at 2) 1 ∷ answering (at 62) 62 ∷ answering (at 63) 63 ∷
      answering_elsewhere [] 0 ∷ map (λ t. answering (replicate 63 t) 63) (spoilt (eight (9 ∷ [])) 7))
      (answering (at 0) 1 ∷ answering (at 1) 2 ∷ answering (at 0) 63 ∷ answering (at 62) 63 ∷ answering (at 0) 64 ∷
      answering (at 62) 64 ∷ answering (at 63) 64 ∷ answering (at 0) 65 ∷ answering (at 63) 65 ∷ answering (at 0) greatest ∷
      answering (at 63) greatest ∷ answering_elsewhere (at 0) 1 ∷
      map (λ c. responding c 7 (peggy_lists (at 0) 1)) (0 ∷ 1 ∷ 2 ∷ 3 ∷ 4 ∷ 5 ∷ 6 ∷ 7 ∷ 8 ∷ 9 ∷ 10 ∷ []))
  -- the count of a list in which the commitment does not stand
  pub refusal33 :
      Corner 33 (answering [] 62 ∷ answering [] 63 ∷ [])
      (answering [] 64 ∷ answering [] 65 ∷ answering [] greatest ∷ map (λ t. answering (replicate 64 t) 64) (spoilt (eight (9 ∷ [])) 7))
  -- no entry beyond 64 is looked at for 32
  pub beyond33 : Corner 33 [] (responding 3 7 (peggy_beyond 65) ∷ responding 3 7 (peggy_beyond greatest) ∷ [])
  -- the name, in every state, though its flag is 1
  pub save34 : Corner 34 (saving_in 0 ++ saving_in 7) (saving_in 8 ++ saving_in 9 ++ saving_in greatest)
  pub return34 :
      Corner 34 (returning_in (replicate 8 1) 0 ++ returning_in (replicate 8 1) 7)
      (returning_in (replicate 8 1) 8 ++ returning_in (replicate 9 1) 8 ++ returning_in (replicate 10 1) 9 ++
      returning_in (replicate 8 1) greatest)
  -- the flag of the name alone: any number but 0 is saved
  pub flag34 :
      Corner 34
      (returning_in (flag 0 1 0) 0 ++ returning_in (flag 3 1 0) 3 ++ returning_in (flag 7 1 0) 7 ++ returning_in (flag 7 2 0) 7 ++
      returning_in (flag 0 greatest 0) 0)
      (returning_in (flag 0 0 1) 0 ++ returning_in (flag 3 0 1) 3 ++ returning_in (flag 7 0 2) 7 ++ returning_in (replicate 8 0) 0)
  -- 15, 16, 17 and 21 come before 32 and 33: 21 by the state, though the commitment is listed, and by the held nonce
  pub before15 : Corner 15 [] (responding 11 7 (peggy_lists (at 0) 64) ∷ responding 11 11 (peggy_lists [] 64) ∷ [])
  pub before16 : Corner 16 [] (responding 3 18 (peggy_lists (at 0) 64) ∷ responding 3 11 (peggy_lists [] 64) ∷ [])
  pub before17 : Corner 17 [] (responding 3 6 (peggy_lists (at 0) 64) ∷ responding 3 8 (peggy_lists [] 64) ∷ [])
  pub before21 :
      Corner 21 []
      (map (λ phase. responding 3 7 (peggy_with phase (memory_of [] 0 (at 0) 1))) (New ∷ Answered ∷ Dropped ∷ []) ++
      map (λ phase. responding 3 7 (peggy_with phase (memory_of [] 0 [] 64))) (New ∷ Answered ∷ Dropped ∷ []) ++
      map (λ t. responding 3 7 (record { nonce = array (5 ∷ []); commitment = t; phase = Committed; memory = memory_of [] 0 (t ∷ []) 64 }))
      (spoilt (eight (9 ∷ [])) 7))
  -- committing to what is listed and dropping are not refused, however full the list is
  pub let_through :
      (commit schnorr_sheet (peggy_with New (memory_of [] 0 (at 0) 64)) (array (5 ∷ []))).refusal ∷
      (drop_session (peggy_with Committed (memory_of [] 0 (at 0) greatest))).refusal ∷ []
      ≡ 0 ∷ 0 ∷ []
  -- the state of a saved number, and the number of a state
  pub states :
      map (λ n. (return_to (peggy_with Committed (memory_of (replicate 8 1) n [] 0)) 5).session.phase) (0 ∷ 1 ∷ 2 ∷ 3 ∷ 4 ∷ greatest ∷ [])
      ≡ New ∷ Committed ∷ Answered ∷ Dropped ∷ Dropped ∷ Dropped ∷ []
  pub numbers :
      flatten (map (λ phase. map (λ (s : Saved). s.phase) (save (peggy_with phase (memory_of (0 ∷ []) 4 [] 0)) 0).session.memory.saved) every_state)
      ≡ 0 ∷ 1 ∷ 2 ∷ 3 ∷ []
  -- whole records, with other values in all places that are not read: a response is listed at the count, saving replaces one name's
  -- copy, and returning brings one back; all else stays as it is
  pub listed : handed (respond schnorr_sheet (as_before Committed 1) 3 (array (7 ∷ [])))
      ≡ by_hand Answered (eight []) (eight (9 ∷ [])) old (eight (9 ∷ [])) 2
  pub listed_last : handed (respond schnorr_sheet (peggy_lists [] 63) 3 (array (7 ∷ [])))
      ≡ record {
        nonce = eight [];
        commitment = eight (9 ∷ []);
        phase = Answered;
        memory = memory_of (replicate 8 0) 0 (at 63) 64;
      }
  pub kept_by_commit : handed (commit schnorr_sheet (as_before New 65) (array (5 ∷ [])))
      ≡ by_hand Committed (eight (5 ∷ [])) (eight (9 ∷ [])) old (array (7 ∷ [])) 65
  pub kept_by_drop : handed (drop_session (as_before Committed 65)) ≡ by_hand Dropped (eight []) (eight (9 ∷ [])) old (array (7 ∷ [])) 65
  pub saved : handed (save (as_before Answered 65) 7)
      ≡ by_hand Answered (array (5 ∷ [])) (eight (9 ∷ []))
      (record { nonce = array (5 ∷ []); commitment = eight (9 ∷ []); phase = 2; kept = 1 }) (array (7 ∷ [])) 65
  pub returned : handed (return_to (as_before Answered 65) 7) ≡ by_hand Committed (array (1 ∷ [])) (array (2 ∷ [])) old (array (7 ∷ [])) 65
  -- a refused call hands the record back as it was, in every place
  pub unmoved :
      map handed
      (respond schnorr_sheet (as_before Dropped 1) 3 (array (7 ∷ [])) ∷ respond schnorr_sheet (as_before Dropped 1) 11 (array (7 ∷ [])) ∷
      save (as_before Dropped 1) 8 ∷ return_to (as_before Dropped 1) greatest ∷ [])
      ≡ replicate 4 (as_before Dropped 1)
  pub unmoved_full : handed (respond schnorr_sheet (as_before Committed 64) 3 (array (7 ∷ []))) ≡ as_before Committed 64
  pub unmoved_listed : handed (respond schnorr_sheet (peggy_lists (at 5) 6) 3 (array (7 ∷ []))) ≡ peggy_lists (at 5) 6
