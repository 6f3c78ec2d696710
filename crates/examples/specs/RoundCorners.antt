-- Refusals 14 to 21 of 01's calls on rounds and in sessions: a row for each round, each row of a table, each slot and each held place,
-- that is wrong in it alone. Sheets of two rows and three columns, and of two roots.
-- Assumes nothing.
use Rattle.std.specs.Prelude.{ℕ}
use mathlib.Core.List.{List, [], ◌∷◌, ◌++◌, flatten, map}
use Rattle.types.specs.declared.Prover.{Prover}
use Rattle.types.specs.declared.ProverPhase.TheVariants.{Committed}
use Rattle.types.specs.declared.Round.{Round}
use Rattle.types.specs.declared.VerifierPhase.TheVariants.{Holding, Asked}
use Rattle.lists.specs.Places.{pad8}
use Rattle.runs.specs.Calls.{extract_witness, judge_round, simulate_commitment}
use Rattle.runs.specs.Prover.{commit, new_prover, respond}
use Rattle.runs.specs.Verifier.{new_verifier, take_challenge, take_commitment, take_response}
use Rattle.sigma.specs.Answer.{outcome}
use Rattle.examples.specs.Corners.{Corner}
use Rattle.examples.specs.Pages.{array}
use Rattle.examples.specs.TwoRows.{Case, exponents, first, raised, reworded, roots, round_with, second, spoilt}

-- ---- the calls' numbers

-- extracting from two rounds, in both orders
unfoldable pub extracting_both : Case → Round → Round → List ℕ
extracting_both p a b = (extract_witness p.sheet a b).refusal ∷ (extract_witness p.sheet b a).refusal ∷ []

-- judging a round, and extracting from it and the second, in both orders
unfoldable pub on_round : Case → Round → List ℕ
on_round p round = (outcome (judge_round p.sheet round)).number ∷ extracting_both p round (second p)

-- simulating
unfoldable pub simulating_on : Case → ℕ → List ℕ → ℕ
simulating_on p c r = (simulate_commitment p.sheet c (array r)).refusal

-- committing in a new session
unfoldable pub committing_on : Case → List ℕ → ℕ
committing_on p k = (commit p.sheet new_prover (array k)).refusal

-- Peggy as she is once committed, with this nonce and this commitment, 0 beyond its places
unfoldable pub holder : List ℕ → List ℕ → Prover
holder k t = record { nonce = array k; commitment = pad8 0 t; phase = Committed; memory = new_prover.memory }

-- responding to 3 with the witness, in a session and on a sheet; and to c with x in the session that committing left
unfoldable pub responding_in : List ℕ → Case → Prover → ℕ
responding_in sheet p session = (respond sheet session 3 (array p.witness)).refusal

unfoldable pub responding_to : Case → ℕ → List ℕ → ℕ
responding_to p c x = (respond p.sheet (holder p.nonce p.commitment) c (array x)).refusal

-- Vic's three calls; the second and the third in a session that holds this commitment, and this challenge
unfoldable pub hearing_on : Case → List ℕ → ℕ
hearing_on p t = (take_commitment p.sheet new_verifier (array t)).refusal

unfoldable pub asking_on : Case → List ℕ → ℕ → ℕ
asking_on p t c = (take_challenge p.sheet (record { commitment = array t; challenge = 0; phase = Holding }) c).refusal

unfoldable pub telling_on : Case → List ℕ → ℕ → List ℕ → ℕ
telling_on p t c r =
    (outcome (take_response p.sheet (record { commitment = array t; challenge = c; phase = Asked }) (array r)).verdict).number

-- ---- what is wrong in one place

-- nothing is
unfoldable pub clean : Case → List ℕ
clean p =
    on_round p (first p) ++ simulating_on p 4 p.response ∷ committing_on p p.nonce ∷ responding_to p 4 p.witness ∷
    hearing_on p p.commitment ∷ asking_on p p.commitment 4 ∷ telling_on p p.commitment 3 p.response ∷
    map (λ r. telling_on p p.commitment 3 r) p.wrong

-- each row of the commitment
unfoldable pub strange_rows : Case → List ℕ
strange_rows p =
    flatten (map (λ t. on_round p (round_with t 3 p.response) ++ hearing_on p t ∷ []) (spoilt p.commitment p.stranger))

-- the challenge
unfoldable pub high_challenge : Case → List ℕ
high_challenge p =
    on_round p (round_with p.commitment 5 p.response) ++ simulating_on p 5 p.response ∷ responding_to p 5 p.witness ∷
    asking_on p p.commitment 5 ∷ []

-- each slot of the response, of the nonce and of the witness
unfoldable pub strange_slots : Case → List ℕ
strange_slots p =
    flatten
    (map
    (λ r. on_round p (round_with p.commitment 3 r) ++ simulating_on p 3 r ∷ telling_on p p.commitment 3 r ∷ [])
    (raised p.response p.period)) ++
    map (committing_on p) (raised p.nonce p.period) ++ map (responding_to p 3) (raised p.witness p.period)

-- each row of the statement, of which the witness is none
unfoldable pub other_statement : Case → List ℕ
other_statement p =
    map (λ sheet. responding_in sheet p (holder p.nonce p.commitment)) (reworded p.sheet p.other p.statement)

-- each row of one of two commitments
unfoldable pub other_commitment : Case → List ℕ
other_commitment p =
    flatten (map (λ t. extracting_both p (round_with t 3 p.response) (second p)) (spoilt p.commitment p.other))

-- the response of one of two rounds, which is rejected in one row
unfoldable pub wrong_rows : Case → List ℕ
wrong_rows p =
    flatten
    (map (λ r. extracting_both p (round_with p.commitment 3 r) (second p)) p.wrong ++
    map (λ r. extracting_both p (first p) (round_with p.commitment 1 r)) p.wrong')

-- each slot of the held nonce, whose image is the held commitment, and each of the eight places of the held commitment
unfoldable pub unfit_peggy : Case → List ℕ
unfit_peggy p =
    map (λ k. responding_in p.sheet p (holder k p.commitment)) (raised p.nonce p.period) ++
    map (λ t. responding_in p.sheet p (holder p.nonce t)) (spoilt (pad8 0 p.commitment) p.other)

-- each row of the held commitment, and the held challenge
unfoldable pub unfit_vic : Case → List ℕ
unfit_vic p =
    flatten
    (map (λ t. asking_on p t 3 ∷ telling_on p t 3 p.response ∷ []) (spoilt p.commitment p.stranger)) ++
    telling_on p p.commitment 5 p.response ∷ []

-- a number for both sheets
abbrev pub CaseCorner : ℕ → (Case → List ℕ) → Type 0
CaseCorner number calls = Corner number (clean exponents ++ clean roots) (calls exponents ++ calls roots)

pub record RoundCorners : Type 0 where
  pub refusal14 : CaseCorner 14 strange_rows
  pub refusal15 : CaseCorner 15 high_challenge
  pub refusal16 : CaseCorner 16 strange_slots
  pub refusal17 : CaseCorner 17 other_statement
  pub refusal18 : CaseCorner 18 other_commitment
  pub refusal19 : CaseCorner 19 (λ p. extracting_both p (first p) (first p))
  pub refusal20 : CaseCorner 20 wrong_rows
  pub refusal21 : CaseCorner 21 (λ p. unfit_peggy p ++ unfit_vic p)
