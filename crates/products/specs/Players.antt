-- The players of a team (02, card 6; 002, figure 1): what they bring multiplied and joined, the sheet on which each proves by 01's
-- calls, and their rounds.
-- Assumes nothing.
use Rattle.std.specs.Prelude.{ℕ, ◌%◌, ◌<◌, ◌≤◌, ◌≡◌, List, get_or, length}
use Rattle.types.specs.declared.Round.{Round}
use Rattle.numbers.specs.Product.{product, sum}
use Rattle.formats.specs.Encode.{sheet_of}
use Rattle.formats.specs.Sheet.{instance_of}
use Rattle.runs.specs.Knowledge.{honest_round}
use Rattle.runs.specs.OnSheet.{read_slots}
use Rattle.runs.specs.RunCalls.{RunCalls}
use Rattle.sigma.specs.Instance.{Instance}
use Rattle.sigma.specs.Joined.{with_statement}
use Rattle.sigma.specs.Knowledge.{Choice, Witness}
use Rattle.sigma.specs.Meaning.{Elements}
use Rattle.sigma.specs.Reads.{Agree, SameRound, round_of}
use Rattle.products.specs.Team.{part}
use Rattle.products.specs.TeamCalls.{TeamCalls}

-- ---- what the players bring

-- t is what the players bring multiplied mod m, row by row
abbrev pub Multiplied : Instance → ℕ → List (List ℕ) → List ℕ → Type 0
Multiplied inst count parts t =
    (i : ℕ) → i < inst.header.rows → get_or t i 0 ≡ product count (λ p. get_or (part parts p) i 0) % inst.header.modulus

-- x is what the players bring joined, slot by slot: added mod q in kind 1, multiplied mod m in kind 2
pub record Joined (inst : Instance) (count : ℕ) (parts : List (List ℕ)) (x : List ℕ) : Type 0 where
  pub exponent : inst.header.kind ≡ 1 → (j : ℕ) → j < inst.header.columns
      → get_or x j 0 ≡ sum count (λ p. get_or (part parts p) j 0) % inst.header.order
  pub root : inst.header.kind ≡ 2 → (j : ℕ) → j < inst.header.columns
      → get_or x j 0 ≡ product count (λ p. get_or (part parts p) j 0) % inst.header.modulus

-- two arrays agree in what is read of them: n places of what each player brings
abbrev pub AgreeParts : ℕ → ℕ → List (List ℕ) → List (List ℕ) → Type 0
AgreeParts count n parts parts' = (p : ℕ) → p < count → Agree n (part parts p) (part parts' p)

-- eight places, with 0 beyond the first n
abbrev pub ZeroBeyond : ℕ → List ℕ → Type 0
ZeroBeyond n array = (length array ≡ 8) × ((j : ℕ) → n ≤ j → get_or array j 0 ≡ 0)

-- ---- the players

-- two to eight players, whose images are group elements and multiply to the statement
pub record IsTeam (sheet : List ℕ) (count : ℕ) (images : List (List ℕ)) : Type 0 where
  pub two : 2 ≤ count
  pub eight : count ≤ 8
  pub elements : (p : ℕ) → p < count → Elements (instance_of sheet) (part images p)
  pub whole : Multiplied (instance_of sheet) count images (instance_of sheet).statement

-- the sheet of player p: the sheet's values with the player's image as statement
abbrev pub player_sheet : List ℕ → List (List ℕ) → ℕ → List ℕ
player_sheet sheet images p = sheet_of (with_statement (instance_of sheet) (part images p))

-- each player holds a nonce in ks and in xs a part of the witness, which is a witness of the player's own image
pub record Hold (sheet : List ℕ) (count : ℕ) (images xs ks : List (List ℕ)) : Type 0 where
  pub nonces : (p : ℕ) → p < count → Choice (instance_of sheet) (read_slots sheet (part ks p))
  pub witnesses : (p : ℕ) → p < count → Witness (instance_of (player_sheet sheet images p)) (read_slots sheet (part xs p))

-- ---- rounds

-- the round (t, c, r) of player p
abbrev pub part_round : List (List ℕ) → ℕ → List (List ℕ) → ℕ → Round
part_round commitments c responses p = round_of (part commitments p) c (part responses p)

module _ (code : RunCalls) where
  open code use {commit, new_prover, respond}

  -- each player's round is 01's honest one on the player's own sheet
  abbrev pub Honest : List ℕ → ℕ → List (List ℕ) → List (List ℕ) → ℕ → List (List ℕ) → List (List ℕ) → List (List ℕ) → Type 0
  Honest sheet count images xs c ks commitments responses =
      (p : ℕ) → p < count
      → SameRound (instance_of sheet).header (part_round commitments c responses p)
      (honest_round code (player_sheet sheet images p) (part xs p) c (part ks p))

  -- a single Peggy has the witness x, and for it, the challenge c and the nonce k she sends this round: neither of her calls is
  -- refused
  pub record Sends (sheet x : List ℕ) (c : ℕ) (k : List ℕ) (round : Round) : Type 0 where
    pub witness : Witness (instance_of sheet) (read_slots sheet x)
    pub commits : (commit sheet new_prover k).refusal ≡ 0
    pub responds : (respond sheet (commit sheet new_prover k).session c x).refusal ≡ 0
    pub sent : round ≡ honest_round code sheet x c k

module _ (combiner : TeamCalls) where
  open combiner use {join_responses, multiply_commitments}

  -- neither call is refused
  abbrev pub BothRun : List ℕ → ℕ → List (List ℕ) → List (List ℕ) → List (List ℕ) → Type 0
  BothRun sheet count images commitments responses =
      ((multiply_commitments sheet count images commitments).refusal ≡ 0) × ((join_responses sheet count images responses).refusal ≡ 0)

  -- the round of what both calls answer
  abbrev pub whole_round : List ℕ → ℕ → List (List ℕ) → List (List ℕ) → ℕ → List (List ℕ) → Round
  whole_round sheet count images commitments c responses =
      round_of (multiply_commitments sheet count images commitments).values c (join_responses sheet count images responses).values
