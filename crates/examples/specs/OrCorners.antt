-- Refusals 14 to 21 and 26 of the OR proof's calls (02, card 4) by each part of their conditions: a row for each round, each side, each
-- row of a side's table, each slot and each held place, that is wrong in it alone. Side 0 has two rows and three columns, side 1 two
-- roots.
-- Assumes nothing.
use Rattle.std.specs.Prelude.{ℕ}
use mathlib.Core.List.{List, [], ◌∷◌, ◌++◌, flatten, map}
use Rattle.types.specs.declared.ProverPhase.{ProverPhase}
use Rattle.types.specs.declared.ProverPhase.TheVariants.{New, Committed, Answered, Dropped}
use Rattle.disjunctions.specs.declared.OrProver.{OrProver}
use Rattle.disjunctions.specs.declared.OrRound.{OrRound}
use Rattle.disjunctions.specs.Extractor.{extract_or}
use Rattle.disjunctions.specs.Judge.{judge_or}
use Rattle.disjunctions.specs.OneOfTwo.{or_outcome}
use Rattle.disjunctions.specs.Prover.{commit_or, new_or_prover, respond_or}
use Rattle.lists.specs.Places.{pad8}
use Rattle.examples.specs.Corners.{Corner, changed, root_bytes}
use Rattle.examples.specs.OrPage.{fewer_challenges, logarithm_sheet, or_numbers}
use Rattle.examples.specs.Pages.{array}
use Rattle.examples.specs.TwoRows.{raised, reworded, spoilt, table, two_roots}

-- ---- rounds

-- a round with the commitments t0 and t1, c, c0, and the responses r0 and r1
unfoldable pub or_with : List ℕ → List ℕ → ℕ → ℕ → List ℕ → List ℕ → OrRound
or_with t t' c c0 r r' =
    record {
      commitment0 = array t;
      commitment1 = array t';
      response0 = array r;
      response1 = array r';
      challenge = c;
      challenge0 = c0;
    }

-- an accepted round with c 1, which is 3 for each side, and the same with other commitments, challenges or responses
unfoldable pub honest_or : OrRound
honest_or = or_with (3 ∷ 4 ∷ []) (33 ∷ 32 ∷ []) 1 3 (4 ∷ 4 ∷ 9 ∷ []) (24 ∷ 19 ∷ [])

unfoldable pub commitments_or : List ℕ → List ℕ → OrRound
commitments_or t t' = or_with t t' 1 3 (4 ∷ 4 ∷ 9 ∷ []) (24 ∷ 19 ∷ [])

unfoldable pub challenges_or : ℕ → ℕ → OrRound
challenges_or c c0 = or_with (3 ∷ 4 ∷ []) (33 ∷ 32 ∷ []) c c0 (4 ∷ 4 ∷ 9 ∷ []) (24 ∷ 19 ∷ [])

unfoldable pub responses_or : List ℕ → List ℕ → OrRound
responses_or r r' = or_with (3 ∷ 4 ∷ []) (33 ∷ 32 ∷ []) 1 3 r r'

-- an accepted round with the same commitments, c 4, and 1 and 3 for the sides
unfoldable pub second_or : OrRound
second_or = or_with (3 ∷ 4 ∷ []) (33 ∷ 32 ∷ []) 4 1 (1 ∷ 2 ∷ 5 ∷ []) (24 ∷ 19 ∷ [])

-- the numbers of extracting from a round and the second, in both orders
unfoldable pub extracting_or : OrRound → List ℕ
extracting_or round = (extract_or table two_roots round second_or).refusal ∷ (extract_or table two_roots second_or round).refusal ∷ []

-- and of judging it as well
unfoldable pub on_or : OrRound → List ℕ
on_or round = (or_outcome (judge_or table two_roots round)).number ∷ extracting_or round

-- ---- sessions

-- a Peggy who knows a side: her witness, her nonce and the other side's simulated response
pub record Knower : Type 0 where
  pub side : ℕ
  pub witness : List ℕ
  pub nonce : List ℕ
  pub simulated : List ℕ
  -- what is added to a slot of her own sheet, and of the other, so that it is no slot but has the same image
  pub period : ℕ
  pub other_period : ℕ
  -- a challenge above K that makes the same simulated commitment as 3
  pub high : ℕ

-- 32 and 33 have the order 12 mod 35
unfoldable pub knows_table : Knower
knows_table =
    record {
      side = 0;
      witness = 7 ∷ 1 ∷ 2 ∷ [];
      nonce = 5 ∷ 1 ∷ 3 ∷ [];
      simulated = 24 ∷ 19 ∷ [];
      period = 11;
      other_period = 35;
      high = 15;
    }

-- 3 and 6 have the order 11 mod 23
unfoldable pub knows_roots : Knower
knows_roots =
    record {
      side = 1;
      witness = 2 ∷ 3 ∷ [];
      nonce = 3 ∷ 2 ∷ [];
      simulated = 4 ∷ 4 ∷ 9 ∷ [];
      period = 35;
      other_period = 11;
      high = 14;
    }

-- the number of committing in a new session
unfoldable pub committing_or : Knower → List ℕ → ℕ → List ℕ → ℕ
committing_or p k d r = (commit_or table two_roots new_or_prover p.side (array k) d (array r)).refusal

-- her session in a state, with these held
unfoldable pub holding : ProverPhase → Knower → List ℕ → ℕ → List ℕ → List ℕ → List ℕ → OrProver
holding phase p k d r t t' =
    record {
      nonce = array k;
      response = array r;
      commitment0 = pad8 0 t;
      commitment1 = pad8 0 t';
      challenge = d;
      side = p.side;
      phase = phase;
    }

-- as it is once committed, but for the state
unfoldable pub holding_honest : ProverPhase → Knower → OrProver
holding_honest phase p = holding phase p p.nonce 3 p.simulated (3 ∷ 4 ∷ []) (33 ∷ 32 ∷ [])

-- the number of responding to 1 with the witness in a session
unfoldable pub responding_with : Knower → OrProver → ℕ
responding_with p session = (respond_or table two_roots session 1 (array p.witness)).refusal

-- and of responding to c with x once committed, on two sheets
unfoldable pub answering_or : List ℕ → List ℕ → Knower → ℕ → List ℕ → ℕ
answering_or s s' p c x = (respond_or s s' (holding_honest Committed p) c (array x)).refusal

-- ---- what is wrong in one place, for a Peggy who knows a side

-- nothing is
unfoldable pub clean_or : Knower → List ℕ
clean_or p = committing_or p p.nonce 4 p.simulated ∷ answering_or table two_roots p 4 p.witness ∷ []

-- the simulated challenge, and the challenge, of which 6 is 1 mod K
unfoldable pub high_or : Knower → List ℕ
high_or p = committing_or p p.nonce 5 p.simulated ∷ answering_or table two_roots p 6 p.witness ∷ []

-- each slot of the nonce, of the simulated response and of the witness
unfoldable pub strange_or : Knower → List ℕ
strange_or p =
    map (λ k. committing_or p k 3 p.simulated) (raised p.nonce p.period) ++
    map (committing_or p p.nonce 3) (raised p.simulated p.other_period) ++
    map (answering_or table two_roots p 1) (raised p.witness p.period)

-- the state, in committing and in responding
unfoldable pub states_or : Knower → List ℕ
states_or p =
    map
    (λ phase. (commit_or table two_roots (holding_honest phase p) p.side (array p.nonce) 3 (array p.simulated)).refusal)
    (Committed ∷ Answered ∷ Dropped ∷ []) ++
    map (λ phase. responding_with p (holding_honest phase p)) (New ∷ Answered ∷ Dropped ∷ [])

-- each slot of the held nonce and of the held response, the held challenge, and each of eight places of both held commitments
unfoldable pub unfit_or_peggy : Knower → List ℕ
unfit_or_peggy p =
    map (λ k. responding_with p (holding Committed p k 3 p.simulated (3 ∷ 4 ∷ []) (33 ∷ 32 ∷ []))) (raised p.nonce p.period) ++
    map (λ r. responding_with p (holding Committed p p.nonce 3 r (3 ∷ 4 ∷ []) (33 ∷ 32 ∷ []))) (raised p.simulated p.other_period) ++
    responding_with p (holding Committed p p.nonce p.high p.simulated (3 ∷ 4 ∷ []) (33 ∷ 32 ∷ [])) ∷
    map (λ t. responding_with p (holding Committed p p.nonce 3 p.simulated t (33 ∷ 32 ∷ []))) (spoilt (pad8 0 (3 ∷ 4 ∷ [])) 2) ++
    map (λ t. responding_with p (holding Committed p p.nonce 3 p.simulated (3 ∷ 4 ∷ []) t)) (spoilt (pad8 0 (33 ∷ 32 ∷ [])) 6)

-- a number's inputs for either side
abbrev pub either_side : (Knower → List ℕ) → List ℕ
either_side calls = calls knows_table ++ calls knows_roots

pub record OrCorners : Type 0 where
  -- a count that is smaller on side 0, and one that is smaller on side 1
  pub refusal26 :
      Corner 26 (or_numbers logarithm_sheet root_bytes)
      (or_numbers (changed logarithm_sheet 17 4) root_bytes ++ or_numbers logarithm_sheet fewer_challenges)
  -- each row of both commitments, of either round; also if a slot of the other side's response is wrong
  pub refusal14 :
      Corner 14 (on_or honest_or)
      (flatten
      (map (λ t. on_or (commitments_or t (33 ∷ 32 ∷ []))) (spoilt (3 ∷ 4 ∷ []) 5) ++
      map (λ t. on_or (commitments_or (3 ∷ 4 ∷ []) t)) (spoilt (33 ∷ 32 ∷ []) 14)) ++
      on_or (or_with (3 ∷ 4 ∷ []) (33 ∷ 14 ∷ []) 1 3 (15 ∷ 4 ∷ 9 ∷ []) (24 ∷ 19 ∷ [])) ++
      on_or (or_with (3 ∷ 5 ∷ []) (33 ∷ 32 ∷ []) 1 3 (4 ∷ 4 ∷ 9 ∷ []) (59 ∷ 19 ∷ [])))
  -- c and c0 of either round, and what Peggy brings for either side; 6 is 1 mod K
  pub refusal15 :
      Corner 15 (either_side clean_or) (on_or (challenges_or 6 3) ++ on_or (challenges_or 1 8) ++ either_side high_or)
  -- each slot of both responses, of either round, and what Peggy brings for either side
  pub refusal16 :
      Corner 16 (either_side clean_or)
      (flatten
      (map (λ r. on_or (responses_or r (24 ∷ 19 ∷ []))) (raised (4 ∷ 4 ∷ 9 ∷ []) 11) ++
      map (λ r. on_or (responses_or (4 ∷ 4 ∷ 9 ∷ []) r)) (raised (24 ∷ 19 ∷ []) 35)) ++
      either_side strange_or)
  -- each row of either side's statement
  pub refusal17 :
      Corner 17 []
      (map (λ s. answering_or s two_roots knows_table 1 knows_table.witness) (reworded table 2 (44 ∷ 48 ∷ [])) ++
      map (λ s. answering_or table s knows_roots 1 knows_roots.witness) (reworded two_roots 6 (20 ∷ 24 ∷ [])))
  -- each row of both commitments
  pub refusal18 :
      Corner 18 (extracting_or honest_or)
      (flatten
      (map (λ t. extracting_or (commitments_or t (33 ∷ 32 ∷ []))) (spoilt (3 ∷ 4 ∷ []) 2) ++
      map (λ t. extracting_or (commitments_or (3 ∷ 4 ∷ []) t)) (spoilt (33 ∷ 32 ∷ []) 6)))
  pub refusal19 : Corner 19 [] (extracting_or second_or)
  -- each side of either round, rejected in one row
  pub refusal20 :
      Corner 20 []
      (flatten
      (map (λ r. extracting_or (responses_or r (24 ∷ 19 ∷ []))) ((5 ∷ 4 ∷ 2 ∷ []) ∷ (2 ∷ 4 ∷ 10 ∷ []) ∷ []) ++
      map (λ r. extracting_or (responses_or (4 ∷ 4 ∷ 9 ∷ []) r)) ((6 ∷ 19 ∷ []) ∷ (24 ∷ 6 ∷ []) ∷ [])))
  -- the states and what is held, for either side
  pub refusal21 : Corner 21 (either_side clean_or) (either_side states_or ++ either_side unfit_or_peggy)
