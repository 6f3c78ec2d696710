-- Judging a round of the OR proof (02, cards 4 and 8; refusals 2 to 11 of either sheet, 26, then 14 to 16).
-- Assumes nothing.
use Rattle.std.specs.Prelude.{ℕ, Bool, not, ◌||◌, List, [], ◌∷◌, ◌++◌, eqb}
use Rattle.types.specs.declared.Verdict.{Verdict}
use Rattle.types.specs.declared.Verdict.TheVariants.{Accepted, Rejected, Refused}
use Rattle.disjunctions.specs.declared.OrRound.{OrRound}
use Rattle.disjunctions.specs.declared.OrVerdict.{OrVerdict}
use Rattle.disjunctions.specs.declared.OrVerdict.TheVariants.{OrAccepted, OrRejected, OrRefused}
use Rattle.rules.specs.Call.{Call, after, answer}
use Rattle.rules.specs.Either.{either_rules}
use Rattle.rules.specs.Rule.{Rule, ◌when◌}
use Rattle.formats.specs.Load.{load_rules}
use Rattle.formats.specs.Sheet.{instance_of}
use Rattle.sigma.specs.Instance.{Instance}
use Rattle.sigma.specs.Round.{bad_challenge, bad_commitment, bad_coordinates, verdict}
use Rattle.disjunctions.specs.Round.{other_challenge, read_or}

-- the rules of two sheets: each number of 2 to 11 is asked of both before the next, and 26 is for different counts K
unfoldable pub pair_rules : List ℕ → List ℕ → List Rule
pair_rules s s' =
    either_rules (load_rules s) (load_rules s') ++
    (26 when not (eqb (instance_of s).header.challenges (instance_of s').header.challenges)) ∷ []

-- a call on two sheets: the refusals of both sheets are put in front of its own
abbrev pub on_pair : {A : Type 0} → List ℕ → List ℕ → Call A → Call A
on_pair s s' call = after (pair_rules s s') call

-- some value of one of a round's commitments is no group element of its sheet (14)
unfoldable pub bad_commitments : Instance → Instance → OrRound → Bool
bad_commitments i j round = bad_commitment i round.commitment0 || bad_commitment j round.commitment1

-- c or c0 is K or more (15)
unfoldable pub bad_challenges : Instance → OrRound → Bool
bad_challenges i round = bad_challenge i round.challenge || bad_challenge i round.challenge0

-- some slot of one of a round's responses is no domain slot of its sheet (16)
unfoldable pub bad_responses : Instance → Instance → OrRound → Bool
bad_responses i j round = bad_coordinates i round.response0 || bad_coordinates j round.response1

-- the verdict on both: accepted where both sides are, else rejected with the rows of both, none for a side that is accepted
unfoldable pub combined : Verdict → Verdict → OrVerdict
combined Accepted Accepted = OrAccepted
combined Accepted (Rejected mask) = OrRejected 0 mask
combined Accepted (Refused number) = OrRefused number
combined (Rejected mask) Accepted = OrRejected mask 0
combined (Rejected mask) (Rejected mask') = OrRejected mask mask'
combined (Rejected mask) (Refused number) = OrRefused number
combined (Refused number) _ = OrRefused number

-- the verdicts on both sides of a round as it is read, combined
unfoldable pub verdict_or : Instance → Instance → OrRound → OrVerdict
verdict_or i j round =
    combined (verdict i round.commitment0 round.challenge0 round.response0)
    (verdict j round.commitment1 (other_challenge i.header.challenges round.challenge round.challenge0)
    round.response1)

-- judging a round: 14 to 16 of what is read of it, else the verdict on both sides
unfoldable pub judging_or : Instance → Instance → OrRound → Call OrVerdict
judging_or i j given =
    let round : OrRound = read_or i j given in
    record {
      refusals =
          (14 when bad_commitments i j round) ∷ (15 when bad_challenges i round) ∷ (16 when bad_responses i j round) ∷ [];
      value = verdict_or i j round;
      refused = OrRefused;
    }

-- the call that judges a round of two sheets
unfoldable pub judge_or : List ℕ → List ℕ → OrRound → OrVerdict
judge_or s s' round = answer (on_pair s s' (judging_or (instance_of s) (instance_of s') round))
