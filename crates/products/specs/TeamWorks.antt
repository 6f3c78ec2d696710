-- What 02's sixth card asks: a combiner makes of a team's rounds the round of a single Peggy, for every sheet that loads, and its
-- answers and refusals for any bytes.
-- Assumes nothing.
use Rattle.std.specs.Prelude.{ℕ, suc, ◌<◌, ◌≡◌, true, ◌≢◌, List, [], ◌∷◌}
use Rattle.types.specs.declared.Verdict.TheVariants.{Rejected}
use Rattle.encoding.specs.Bytes.{AllBytes}
use Rattle.lists.specs.Places.{pad8, zeros8}
use Rattle.rules.specs.Order.{is_sublist, refusal_order}
use Rattle.rules.specs.Refuses.{Refuses}
use Rattle.formats.specs.Encode.{sheet_of}
use Rattle.formats.specs.FileCalls.{FileCalls}
use Rattle.formats.specs.Sheet.{instance_of}
use Rattle.runs.specs.Knowledge.{Accepts}
use Rattle.runs.specs.OnSheet.{Below, read_values}
use Rattle.runs.specs.RunCalls.{RunCalls}
use Rattle.sigma.specs.Joined.{join_slots, with_statement}
use Rattle.sigma.specs.Meaning.{Elements}
use Rattle.sigma.specs.Reads.{Agree}
use Rattle.products.specs.Players.{
  BothRun,
  Hold,
  Honest,
  IsTeam,
  Joined,
  Multiplied,
  Sends,
  ZeroBeyond,
  part_round,
  player_sheet,
  whole_round,
}
use Rattle.products.specs.Refusals.{join_conditions, multiply_conditions}
use Rattle.products.specs.Team.{part}
use Rattle.products.specs.TeamCalls.{TeamCalls}

module _ (combiner : TeamCalls) where
  open combiner use {join_responses, multiply_commitments}

  -- the refusals, for any bytes and numbers; a refused call gives zeros beside the number
  pub record TeamRefusals : Type 0 where
    pub multiplying : (sheet : List ℕ) (count : ℕ) (images commitments : List (List ℕ))
        → Refuses (2 ∷ 3 ∷ 4 ∷ 5 ∷ 6 ∷ 7 ∷ 8 ∷ 9 ∷ 27 ∷ 10 ∷ 11 ∷ 14 ∷ 28 ∷ []) (multiply_conditions sheet count images commitments)
        (multiply_commitments sheet count images commitments).refusal
        ((multiply_commitments sheet count images commitments).values ≡ zeros8)
    pub joining : (sheet : List ℕ) (count : ℕ) (images responses : List (List ℕ))
        → Refuses (2 ∷ 3 ∷ 4 ∷ 5 ∷ 6 ∷ 7 ∷ 8 ∷ 9 ∷ 27 ∷ 10 ∷ 11 ∷ 16 ∷ 28 ∷ []) (join_conditions sheet count images responses)
        (join_responses sheet count images responses).refusal ((join_responses sheet count images responses).values ≡ zeros8)
    -- in the order of all numbers 27 stands behind 9 and before 10, and 28 behind 16 and before 17
    pub inserted : is_sublist (9 ∷ 27 ∷ 10 ∷ 16 ∷ 28 ∷ 17 ∷ []) refusal_order ≡ true

  -- what a call that is not refused answers, for any bytes and numbers, whether the players are honest or not
  pub record TeamAnswers : Type 0 where
    -- the commitments multiplied, row by row
    pub multiplied : (sheet : List ℕ) (count : ℕ) (images commitments : List (List ℕ))
        → (multiply_commitments sheet count images commitments).refusal ≡ 0
        → Multiplied (instance_of sheet) count commitments (multiply_commitments sheet count images commitments).values
        × ZeroBeyond (instance_of sheet).header.rows (multiply_commitments sheet count images commitments).values
    -- the responses joined, slot by slot
    pub joined : (sheet : List ℕ) (count : ℕ) (images responses : List (List ℕ))
        → (join_responses sheet count images responses).refusal ≡ 0
        → Joined (instance_of sheet) count responses (join_responses sheet count images responses).values
        × ZeroBeyond (instance_of sheet).header.columns (join_responses sheet count images responses).values

module _ (files : FileCalls) (code : RunCalls) (combiner : TeamCalls) where
  open files use {load}
  open code use {judge_round}

  -- the team, on a sheet that loads
  pub record TeamOn (sheet : List ℕ) : Type 0 where
    -- joined means by the domain's operation: one player more is joined to the others by it, slot by slot
    pub one_more : (count : ℕ) (parts : List (List ℕ)) (x y : List ℕ)
        → Joined (instance_of sheet) count parts x → Joined (instance_of sheet) (suc count) parts y
        → Agree (instance_of sheet).header.columns y (join_slots (instance_of sheet).header x (part parts count))
    -- the sheet of any s group elements as statement loads, and has the values of the sheet with these as statement
    pub player_sheet_law : (z : List ℕ) → Elements (instance_of sheet) z
        → ((load (sheet_of (with_statement (instance_of sheet) z))).refusal ≡ 0)
        × (instance_of (sheet_of (with_statement (instance_of sheet) z)) ≡ with_statement (instance_of sheet) (pad8 0 (read_values sheet z)))
    -- where each part is a witness of its own image and the players' rounds are honest, the joined witness is a witness, and both calls
    -- give the round that a single Peggy sends for it and the joined nonce
    pub single : (count : ℕ) (images xs ks commitments responses : List (List ℕ)) (x : List ℕ) (c : ℕ) (k : List ℕ)
        → IsTeam sheet count images → Hold sheet count images xs ks → Below sheet c
        → Joined (instance_of sheet) count xs x → Joined (instance_of sheet) count ks k
        → Honest code sheet count images xs c ks commitments responses
        → BothRun combiner sheet count images commitments responses
        × Sends code sheet x c k (whole_round combiner sheet count images commitments c responses)
    -- for any parts with one challenge, whether or not any image has a witness: where all are accepted on the players' sheets, so is
    -- the whole
    pub all_accepted : (count : ℕ) (images commitments responses : List (List ℕ)) (c : ℕ) → IsTeam sheet count images
        → ((p : ℕ) → p < count → Accepts code (player_sheet sheet images p) (part_round commitments c responses p))
        → BothRun combiner sheet count images commitments responses
        × Accepts code sheet (whole_round combiner sheet count images commitments c responses)
    -- where exactly one is rejected and all others are accepted, the whole is rejected with that one's rows
    pub one_rejected : (count : ℕ) (images commitments responses : List (List ℕ)) (c : ℕ) → IsTeam sheet count images
        → (p mask : ℕ) → p < count → judge_round (player_sheet sheet images p) (part_round commitments c responses p) ≡ Rejected mask
        → ((o : ℕ) → o < count → o ≢ p → Accepts code (player_sheet sheet images o) (part_round commitments c responses o))
        → BothRun combiner sheet count images commitments responses
        × (judge_round sheet (whole_round combiner sheet count images commitments c responses) ≡ Rejected mask)

  -- the card; that the sheet is of bytes is asked so that its numbers are below 2^32, as a player's sheet stores them
  pub record TeamWorks : Type 0 where
    pub answers : TeamAnswers combiner
    pub team : (sheet : List ℕ) → AllBytes sheet → (load sheet).refusal ≡ 0 → TeamOn sheet
