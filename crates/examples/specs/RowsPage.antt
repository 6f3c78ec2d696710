-- Worked rows that differ (02, card 8): page A's table in eight rows and page E's in two, with the verdicts, the marker's lines and the
-- reason's, and both sides of an OR round.
-- Assumes nothing.
use Rattle.std.specs.Prelude.{ℕ, ◌≡◌, List, [], ◌∷◌, ◌++◌, map, replicate}
use Rattle.types.specs.declared.Round.{Round}
use Rattle.types.specs.declared.Verdict.TheVariants.{Accepted, Rejected}
use Rattle.types.specs.declared.VerifierPhase.TheVariants.{Asked}
use Rattle.disjunctions.specs.declared.OrRound.{OrRound}
use Rattle.disjunctions.specs.declared.OrVerdict.TheVariants.{OrRejected}
use Rattle.disjunctions.specs.Judge.{judge_or}
use Rattle.disjunctions.specs.OneOfTwo.{or_outcome}
use Rattle.encoding.specs.Text.{ascii}
use Rattle.formats.specs.Rounds.{file_in}
use Rattle.formats.specs.Sheet.{header_of}
use Rattle.reasons.specs.Reason.{reason_text}
use Rattle.runs.specs.Calls.{judge_round}
use Rattle.runs.specs.Marker.{marker_text}
use Rattle.runs.specs.Verifier.{take_response}
use Rattle.sigma.specs.Answer.{outcome}
use Rattle.sigma.specs.Reads.{round_of}
use Rattle.examples.specs.Pages.{array}
use Rattle.examples.specs.Sheets.{sheet_bytes}
use Rattle.examples.specs.TeamPage.{pair_bytes}

-- eight rows of page A: m 23, q 11, K 11, entries 2, z 13
unfoldable pub eight_rows : List ℕ
eight_rows = sheet_bytes 1 23 11 11 8 1 (replicate 8 2 ++ replicate 8 13)

-- a round with page A's challenge and response, which is accepted where t is 9 in each row
unfoldable pub with_rows : List ℕ → Round
with_rows t = round_of t 3 (array (4 ∷ []))

-- rows 1, 4 and 7 differ
unfoldable pub three_differ : Round
three_differ = with_rows (9 ∷ 1 ∷ 9 ∷ 9 ∷ 1 ∷ 9 ∷ 9 ∷ 1 ∷ [])

-- a round of page E's sheet on both sides, with the challenge 3 for each: both commitments and both responses
unfoldable pub pair_round : List ℕ → List ℕ → ℕ → ℕ → OrRound
pair_round t t' r r' =
    record {
      commitment0 = array t;
      commitment1 = array t';
      response0 = array (r ∷ []);
      response1 = array (r' ∷ []);
      challenge = 6;
      challenge0 = 3;
    }

-- the worked numbers
pub record RowsPage : Type 0 where
  -- none, three and all of eight rows: a mask has 2^i for row i
  pub none : judge_round eight_rows (with_rows (replicate 8 9)) ≡ Accepted
  pub three : judge_round eight_rows three_differ ≡ Rejected 146
  pub all : judge_round eight_rows (with_rows (replicate 8 1)) ≡ Rejected 255
  pub last : judge_round eight_rows (with_rows (replicate 7 9 ++ 1 ∷ [])) ≡ Rejected 128
  pub rows : outcome (judge_round eight_rows three_differ) ≡ record { number = 0; values = 0 ∷ 1 ∷ 4 ∷ 7 ∷ [] }
  -- the same in Vic's session
  pub in_session :
      (take_response eight_rows (record { commitment = three_differ.commitment; challenge = 3; phase = Asked }) (array (4 ∷ []))).verdict
      ≡ Rejected 146
  -- two rows: the first alone, the second alone, and both
  pub pair : map (judge_round pair_bytes)
      (round_of (array (6 ∷ 6 ∷ [])) 3 (array (4 ∷ [])) ∷ round_of (array (9 ∷ 9 ∷ [])) 3 (array (4 ∷ [])) ∷
      round_of (array (9 ∷ 6 ∷ [])) 3 (array (5 ∷ [])) ∷ [])
      ≡ Rejected 1 ∷ Rejected 2 ∷ Rejected 3 ∷ []
  -- the marker's lines
  pub marked :
      marker_text eight_rows (file_in 1 (header_of eight_rows) (with_rows (replicate 8 9) ∷ three_differ ∷ with_rows (replicate 8 1) ∷ [])) (1 ∷ [])
      ≡ ascii "rounds 3\n0 accepted\n1 rejected 1 4 7\n2 rejected 0 1 2 3 4 5 6 7\nfail\n"
  -- the reason's: 2^4 is 16, and 1 · 13^3 is 12
  pub told : reason_text eight_rows (file_in 1 (header_of eight_rows) (three_differ ∷ [])) ≡ ascii "rejected 1 16 12 4 16 12 7 16 12\n"
  -- both sides of an OR round, and one side of which the other is accepted
  pub both : judge_or pair_bytes pair_bytes (pair_round (9 ∷ 9 ∷ []) (9 ∷ 6 ∷ []) 4 5) ≡ OrRejected 2 3
  pub first : judge_or pair_bytes pair_bytes (pair_round (9 ∷ 9 ∷ []) (9 ∷ 6 ∷ []) 4 4) ≡ OrRejected 2 0
  pub second : judge_or pair_bytes pair_bytes (pair_round (9 ∷ 6 ∷ []) (9 ∷ 6 ∷ []) 4 5) ≡ OrRejected 0 3
  -- each row stands behind its side
  pub sides : or_outcome (judge_or pair_bytes pair_bytes (pair_round (9 ∷ 9 ∷ []) (9 ∷ 6 ∷ []) 4 5))
      ≡ record { number = 0; values = 0 ∷ 0 ∷ 1 ∷ 1 ∷ 0 ∷ 1 ∷ 1 ∷ [] }
