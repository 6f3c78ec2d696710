-- What follows from the demands on the OR proof: the rounds that Peggy makes read as lists, and that only the places that are read
-- count.
-- Assumes nothing.
use Rattle.std.specs.Prelude.{ℕ, ◌<◌, ◌≡◌, ◌↔◌, true}
use mathlib.Core.List.{List, flat_map, map}
use Rattle.disjunctions.specs.declared.OrRound.{OrRound}
use Rattle.lists.specs.Member.{EachOnce, Member}
use Rattle.lists.specs.Choices.{selected}
use Rattle.lists.specs.Places.{pad8}
use Rattle.formats.specs.FileCalls.{FileCalls}
use Rattle.formats.specs.Sheet.{instance_of}
use Rattle.runs.specs.OnSheet.{Below}
use Rattle.sigma.specs.Knowledge.{Witness}
use Rattle.sigma.specs.Listed.{all_choices}
use Rattle.disjunctions.specs.Knowledge.{AcceptsOr, IsOrChoice, OrChoice, Pair, or_round}
use Rattle.disjunctions.specs.OrCalls.{OrCalls}
use Rattle.disjunctions.specs.Prover.{other, own}
use Rattle.disjunctions.specs.Round.{read_or}

-- a round in eight places, with 0 in those that are not read
unfoldable pub padded_or : List ℕ → List ℕ → OrRound → OrRound
padded_or s s' round =
    let read : OrRound = read_or (instance_of s) (instance_of s') round in
    record {
      commitment0 = pad8 0 read.commitment0;
      commitment1 = pad8 0 read.commitment1;
      response0 = pad8 0 read.response0;
      response1 = pad8 0 read.response1;
      challenge = read.challenge;
      challenge0 = read.challenge0;
    }

-- all choices of a side, listed: each nonce with each challenge below K and each simulated response
unfoldable pub all_or_choices : List ℕ → List ℕ → ℕ → List OrChoice
all_or_choices s s' side =
    flat_map
    (λ k. flat_map
    (λ d. map (λ r. record { nonce = k; challenge = d; response = r }) (all_choices (instance_of (other side s s'))))
    (selected (instance_of s).header.challenges (λ d. true))) (all_choices (instance_of (own side s s')))

module _ (either : OrCalls) where
  open either use {extract_or, judge_or}

  -- of two sheets that load with one K
  pub record PairCorollaries (s s' : List ℕ) : Type 0 where
    -- all choices are listed, each once
    pub choices : (side : ℕ) → side < 2
        → ((choice : OrChoice) → Member choice (all_or_choices s s' side) ↔ IsOrChoice s s' side choice)
        × EachOnce (all_or_choices s s' side)
    -- and the rounds over this list are the accepted rounds with challenge c, each once
    pub prover_list : (side c : ℕ) → side < 2 → Below s c → (x : List ℕ) → Witness (instance_of (own side s s')) x
        → EachOnce (map (or_round either s s' side x c) (all_or_choices s s' side))
        × ((round : OrRound) → Member round (map (or_round either s s' side x c) (all_or_choices s s' side))
        ↔ (AcceptsOr either s s' round × (round.challenge ≡ c) × (padded_or s s' round ≡ round)))
    -- so that holders of either witness make the same rounds
    pub same_rounds : (c : ℕ) → Below s c → (x y : List ℕ) → Witness (instance_of s) x → Witness (instance_of s') y → (round : OrRound)
        → Member round (map (or_round either s s' 0 x c) (all_or_choices s s' 0))
        ↔ Member round (map (or_round either s s' 1 y c) (all_or_choices s s' 1))
    -- places that are not read play no part
    pub judged_read : (round : OrRound) → judge_or s s' round ≡ judge_or s s' (padded_or s s' round)
    pub extracted_read : (a b : OrRound) → extract_or s s' a b ≡ extract_or s s' (padded_or s s' a) (padded_or s s' b)

module _ (files : FileCalls) (either : OrCalls) where
  pub record OrCorollaries : Type 0 where
    pub pairs : (s s' : List ℕ) → Pair files s s' → PairCorollaries either s s'
