-- A worked pair of sheets for the OR proof (02, card 4), a logarithm and a root, with its rounds, verdicts and witnesses, and its
-- refusals at their bounds.
-- Assumes nothing.
use Rattle.std.specs.Prelude.{ℕ, ◌≡◌, List, [], ◌∷◌, ◌++◌, map}
use Rattle.types.specs.declared.ProverPhase.{ProverPhase}
use Rattle.types.specs.declared.ProverPhase.TheVariants.{New, Committed, Answered, Dropped}
use Rattle.disjunctions.specs.declared.OrExtracted.{OrExtracted}
use Rattle.disjunctions.specs.declared.OrProver.{OrProver}
use Rattle.disjunctions.specs.declared.OrRound.{OrRound}
use Rattle.disjunctions.specs.Extractor.{extract_or}
use Rattle.disjunctions.specs.Judge.{judge_or}
use Rattle.disjunctions.specs.OneOfTwo.{or_outcome}
use Rattle.disjunctions.specs.Ours.{or_round}
use Rattle.disjunctions.specs.Prover.{commit_or, drop_or, new_or_prover, respond_or}
use Rattle.lists.specs.Places.{places}
use Rattle.examples.specs.Corners.{Corner, changed, root_bytes}
use Rattle.examples.specs.Pages.{array}
use Rattle.examples.specs.Sheets.{small_sheet}

-- side 0: m 23, q 11, K 5, entry 2, z 13, of which 7 is the witness; side 1 is page G's sheet, of which 2 is the witness
unfoldable pub logarithm_sheet : List ℕ
logarithm_sheet = small_sheet 23 11 5 2 13

-- a round of two sheets of one row and one column: t0, t1, c, c0, r0 and r1
unfoldable pub small_or : ℕ → ℕ → ℕ → ℕ → ℕ → ℕ → OrRound
small_or t t' c c0 r r' =
    record {
      commitment0 = array (t ∷ []);
      commitment1 = array (t' ∷ []);
      response0 = array (r ∷ []);
      response1 = array (r' ∷ []);
      challenge = c;
      challenge0 = c0;
    }

-- what a verdict says: its number, and 1, or 0 with each row that differs behind its side
unfoldable pub judging_or : List ℕ → List ℕ → OrRound → List ℕ
judging_or s s' round = (or_outcome (judge_or s s' round)).number ∷ (or_outcome (judge_or s s' round)).values

-- the round that Peggy makes with the witness x of a side for the challenge c, from the nonce k and the simulated challenge d and
-- response r, in the order of small_or, and its verdict
unfoldable pub or_run : ℕ → ℕ → ℕ → ℕ → ℕ → ℕ → List ℕ
or_run side x c k d r =
    let round : OrRound =
    or_round logarithm_sheet root_bytes side (array (x ∷ [])) c
    (record { nonce = array (k ∷ []); challenge = d; response = array (r ∷ []) }) in
    places 1 round.commitment0 ++ places 1 round.commitment1 ++ round.challenge ∷ round.challenge0 ∷
    places 1 round.response0 ++ places 1 round.response1 ++ judging_or logarithm_sheet root_bytes round

-- the number, the side and the witness that two rounds give, and that the same rounds give when swapped
unfoldable pub both_ways_or : OrRound → OrRound → List ℕ
both_ways_or a b =
    let one : OrExtracted = extract_or logarithm_sheet root_bytes a b in
    let swapped : OrExtracted = extract_or logarithm_sheet root_bytes b a in
    one.refusal ∷ one.side ∷ places 1 one.values ++ swapped.refusal ∷ swapped.side ∷ places 1 swapped.values

-- the numbers that judging and extracting are refused with
unfoldable pub or_judging : OrRound → ℕ
or_judging round = (or_outcome (judge_or logarithm_sheet root_bytes round)).number

unfoldable pub or_extracting : OrRound → ℕ
or_extracting round = (extract_or logarithm_sheet root_bytes (small_or 9 23 1 3 4 4) round).refusal

-- Peggy in a state, holding a side, a nonce k and a simulated challenge d and response 4, and the commitments t0 and t1; the last of
-- eight places of t1 is given
unfoldable pub or_peggy : ProverPhase → ℕ → ℕ → ℕ → ℕ → ℕ → OrProver
or_peggy phase side k d t' last =
    record {
      nonce = array (k ∷ []);
      response = array (4 ∷ []);
      commitment0 = 9 ∷ 0 ∷ 0 ∷ 0 ∷ 0 ∷ 0 ∷ 0 ∷ 0 ∷ [];
      commitment1 = t' ∷ 0 ∷ 0 ∷ 0 ∷ 0 ∷ 0 ∷ 0 ∷ last ∷ [];
      challenge = d;
      side = side;
      phase = phase;
    }

-- Peggy as she is once committed, knowing side 0
unfoldable pub knows_first : OrProver
knows_first = or_peggy Committed 0 5 3 23 0

-- the number that committing is refused with
unfoldable pub or_committing : ℕ → ℕ → ℕ → ℕ → ℕ
or_committing side k d r =
    (commit_or logarithm_sheet root_bytes new_or_prover side (array (k ∷ [])) d (array (r ∷ []))).refusal

-- the number that responding is refused with
unfoldable pub or_responding : OrProver → ℕ → ℕ → ℕ
or_responding p c x = (respond_or logarithm_sheet root_bytes p c (array (x ∷ []))).refusal

-- the numbers that all four calls on two sheets are refused with
unfoldable pub or_numbers : List ℕ → List ℕ → List ℕ
or_numbers s s' =
    (or_outcome (judge_or s s' (small_or 9 23 1 3 4 4))).number ∷
    (extract_or s s' (small_or 9 23 1 3 4 4) (small_or 9 23 2 4 0 4)).refusal ∷
    (commit_or s s' new_or_prover 0 (array (5 ∷ [])) 3 (array (4 ∷ []))).refusal ∷
    (respond_or s s' knows_first 1 (array (7 ∷ []))).refusal ∷ []

-- page G's sheet with K 4
unfoldable pub fewer_challenges : List ℕ
fewer_challenges = changed root_bytes 17 4

-- the worked numbers
pub record OrPage : Type 0 where
  -- a Peggy who knows side 0, and one who knows side 1; c is below c0
  pub knows_first_law : or_run 0 7 1 5 3 4 ≡ 9 ∷ 23 ∷ 1 ∷ 3 ∷ 4 ∷ 4 ∷ 0 ∷ 1 ∷ []
  pub knows_second : or_run 1 2 1 3 3 4 ≡ 9 ∷ 33 ∷ 1 ∷ 3 ∷ 4 ∷ 24 ∷ 0 ∷ 1 ∷ []
  -- where one side's response is wrong, and where both are
  pub rejected : map (judging_or logarithm_sheet root_bytes)
      (small_or 9 23 1 3 5 4 ∷ small_or 9 23 1 3 4 1 ∷ small_or 9 23 1 3 5 1 ∷ [])
      ≡ (0 ∷ 0 ∷ 0 ∷ 0 ∷ []) ∷ (0 ∷ 0 ∷ 1 ∷ 0 ∷ []) ∷ (0 ∷ 0 ∷ 0 ∷ 0 ∷ 1 ∷ 0 ∷ []) ∷ []
  -- 7 is found where the c0 differ, and 2 where only the c1 do; there c1 wraps in neither or in one round
  pub extracts_first : both_ways_or (small_or 9 23 1 3 4 4) (small_or 9 23 2 4 0 4) ≡ 0 ∷ 0 ∷ 7 ∷ 0 ∷ 0 ∷ 7 ∷ []
  pub extracts_second : both_ways_or (small_or 9 33 1 3 4 24) (small_or 9 33 2 3 4 13) ≡ 0 ∷ 1 ∷ 2 ∷ 0 ∷ 1 ∷ 2 ∷ []
  pub extracts_wrapped : both_ways_or (small_or 9 33 1 3 4 24) (small_or 9 33 4 3 4 6) ≡ 0 ∷ 1 ∷ 2 ∷ 0 ∷ 1 ∷ 2 ∷ []
  -- 26 stands behind 2 to 11 of either sheet, the lower number coming first, and before the call's own
  pub refusal26 :
      Corner 26 (or_numbers logarithm_sheet root_bytes)
      (or_numbers logarithm_sheet fewer_challenges ++ or_numbers (small_sheet 23 11 6 2 13) root_bytes ++
      (or_outcome (judge_or logarithm_sheet fewer_challenges (small_or 5 5 9 9 99 99))).number ∷ [])
  pub refusal11 : Corner 11 [] (or_numbers logarithm_sheet (changed fewer_challenges 23 35))
  pub refusal3 :
      Corner 3 []
      (or_numbers (changed logarithm_sheet 4 2) (changed root_bytes 23 35) ++
      or_numbers (changed logarithm_sheet 27 5) (changed root_bytes 4 2))
  -- the calls' own; the nonce is tested by the sheet of the side, the simulated response by the other
  pub refusal14 : Corner 14 [] (map or_judging (small_or 5 23 1 3 4 4 ∷ small_or 9 35 1 3 4 4 ∷ small_or 9 14 9 9 99 35 ∷ []))
  pub refusal15 :
      Corner 15 (or_judging (small_or 9 23 4 4 0 4) ∷ or_committing 0 5 4 4 ∷ or_responding knows_first 4 7 ∷ [])
      (map or_judging (small_or 9 23 5 3 4 4 ∷ small_or 9 23 1 5 4 4 ∷ []) ++ or_committing 0 5 5 4 ∷
      or_committing 0 11 5 14 ∷ or_responding knows_first 5 7 ∷ or_extracting (small_or 9 23 2 5 0 4) ∷ [])
  pub refusal16 :
      Corner 16 (or_committing 0 10 3 34 ∷ or_committing 1 34 3 10 ∷ [])
      (map or_judging (small_or 9 23 1 3 11 4 ∷ small_or 9 23 1 3 4 14 ∷ []) ++
      or_committing 0 11 3 4 ∷ or_committing 0 5 3 14 ∷ or_committing 1 14 3 4 ∷ or_committing 1 3 3 11 ∷ or_committing 2 14 3 4 ∷
      or_responding knows_first 1 18 ∷ [])
  pub refusal17 :
      Corner 17 []
      (or_responding knows_first 1 6 ∷ or_responding (or_peggy Committed 1 3 3 33 0) 1 3 ∷
      or_responding (or_peggy New 0 5 3 23 0) 1 2 ∷ [])
  pub refusal18 : Corner 18 [] (map or_extracting (small_or 8 23 2 4 0 4 ∷ small_or 9 33 2 4 0 4 ∷ []))
  pub refusal19 : Corner 19 [] (map or_extracting (small_or 9 23 1 3 4 4 ∷ small_or 9 23 1 4 0 4 ∷ []))
  pub refusal20 : Corner 20 [] (map or_extracting (small_or 9 23 2 4 1 4 ∷ small_or 9 23 2 4 0 1 ∷ []))
  -- sessions: the state, then what is held, a side of 2 included; dropping asks for the state alone
  pub refusal21 :
      Corner 21
      (or_responding knows_first 1 7 ∷ or_responding (or_peggy Committed 1 3 3 33 0) 1 2 ∷ (drop_or new_or_prover).refusal ∷
      (drop_or (or_peggy Committed 2 99 99 99 99)).refusal ∷ [])
      ((commit_or logarithm_sheet root_bytes knows_first 0 (array (5 ∷ [])) 3 (array (4 ∷ []))).refusal ∷
      map (λ p. or_responding p 1 7)
      (or_peggy New 0 5 3 23 0 ∷ or_peggy Answered 0 5 3 23 0 ∷ or_peggy Dropped 0 5 3 23 0 ∷ or_peggy Committed 0 16 3 23 0 ∷
      or_peggy Committed 0 6 3 23 0 ∷ or_peggy Committed 0 5 2 23 0 ∷ or_peggy Committed 0 5 8 23 0 ∷
      or_peggy Committed 0 5 3 33 0 ∷ or_peggy Committed 0 5 3 23 1 ∷ []) ++
      or_responding (or_peggy Committed 2 3 3 33 0) 1 2 ∷ (drop_or (or_peggy Answered 0 5 3 23 0)).refusal ∷
      (drop_or (or_peggy Dropped 0 5 3 23 0)).refusal ∷ [])
