-- Each list of rules of the OR proof tests its conditions, so that the number it gives is that of the first condition that holds.
-- Assumes nothing.
use Prim.Native.Nat.{ℕ}
use mathlib.Core.Path.{◌≡◌, refl}
use mathlib.Core.Bool.{◌&&◌, ◌||◌}
use mathlib.Core.Logic.{◌≢◌, ◌⊎◌}
use mathlib.Core.List.{List, [], ◌∷◌}
use lib.Dec.{eqb}
use Rattle.types.specs.declared.Verdict.{Verdict}
use Rattle.types.specs.declared.Verdict.TheVariants.{Accepted, Rejected, Refused}
use Rattle.disjunctions.specs.declared.OrRound.{OrRound}
use Rattle.rules.specs.Condition.{Tests, ◌if◌}
use Rattle.rules.specs.Either.{either_conditions, either_rules}
use Rattle.rules.specs.Says.{Says}
use Rattle.rules.proofs.Condition.{tests_append}
use Rattle.rules.proofs.Either.{tests_either}
use Rattle.rules.proofs.Says.{says_and, says_equal, says_not, says_or}
use Rattle.formats.specs.Load.{load_rules}
use Rattle.formats.specs.Refusals.{load_conditions}
use Rattle.formats.specs.Sheet.{instance_of}
use Rattle.formats.proofs.Refusals.{load_tests}
use Rattle.sigma.specs.Answer.{is_accepted}
use Rattle.sigma.specs.Comparison.{differ}
use Rattle.sigma.specs.Instance.{Instance}
use Rattle.sigma.specs.Reads.{Differ}
use Rattle.sigma.specs.Valid.{Valid}
use Rattle.sigma.proofs.Refusals.{commitment_read, commitments_read, coordinates_read, holds_read}
use Rattle.sigma.proofs.Tests.{says_bad_challenge}
use Rattle.disjunctions.specs.Extractor.{extracting_or, is_or_accepted}
use Rattle.disjunctions.specs.Judge.{bad_challenges, bad_commitments, bad_responses, combined, judging_or, pair_rules, verdict_or}
use Rattle.disjunctions.specs.Refusals.{Or14, Or15, Or16, OrHolds, extract_or_conditions, judge_or_conditions, pair_conditions}
use Rattle.disjunctions.specs.Round.{first_round, read_or, second_round}

-- two sheets: 2 to 11 of either, and 26
pub pair_tests : (s s' : List ℕ) → Tests (pair_rules s s') (pair_conditions s s')
unfolding pair_rules
pair_tests s s' =
    let different = (instance_of s).header.challenges ≢ (instance_of s').header.challenges in
    tests_append (either_rules (load_rules s) (load_rules s')) _ (either_conditions (load_conditions s) (load_conditions s'))
    ((26 if different) ∷ [])
    (tests_either (load_rules s) (load_conditions s) (load_rules s') (load_conditions s') (load_tests s) (load_tests s'))
    (refl, says_not (says_equal _ _), tt)

-- ---- a round as it is read

module _ (i j : Instance) (round : OrRound) where
  -- 14
  pub says_14 : Says (bad_commitments i j (read_or i j round)) (Or14 i j round)
  unfolding bad_commitments read_or
  says_14 = says_or (commitment_read i _) (commitment_read j _)

  -- 15
  pub says_15 : Says (bad_challenges i (read_or i j round)) (Or15 i round)
  unfolding bad_challenges read_or
  says_15 = says_or (says_bad_challenge i _) (says_bad_challenge i _)

  -- 16
  pub says_16 : Says (bad_responses i j (read_or i j round)) (Or16 i j round)
  unfolding bad_responses read_or
  says_16 = says_or (coordinates_read i _) (coordinates_read j _)

  -- judging
  pub judge_or_tests : Tests (judging_or i j round).refusals (judge_or_conditions i j round)
  unfolding judging_or
  judge_or_tests = (refl, says_14, (refl, says_15, (refl, says_16, tt)))

-- ---- two rounds

module _ (i j : Instance) (a b : OrRound) where
  -- 18
  says_18 : Says (differ i.header.rows (read_or i j a).commitment0 (read_or i j b).commitment0 ||
      differ j.header.rows (read_or i j a).commitment1 (read_or i j b).commitment1)
      (Differ i.header.rows a.commitment0 b.commitment0 ⊎ Differ j.header.rows a.commitment1 b.commitment1)
  unfolding read_or
  says_18 = says_or (commitments_read i _ _) (commitments_read j _ _)

  -- 19
  says_19 : Says (eqb (read_or i j a).challenge (read_or i j b).challenge) (a.challenge ≡ b.challenge)
  unfolding read_or
  says_19 = says_equal _ _

-- both sides together are accepted where each is
pub combined_accepted : (v w : Verdict) → is_or_accepted (combined v w) ≡ (is_accepted v && is_accepted w)
unfolding is_or_accepted combined is_accepted
combined_accepted Accepted Accepted = refl
combined_accepted Accepted (Rejected mask) = refl
combined_accepted Accepted (Refused number) = refl
combined_accepted (Rejected mask) Accepted = refl
combined_accepted (Rejected mask) (Rejected mask') = refl
combined_accepted (Rejected mask) (Refused number) = refl
combined_accepted (Refused number) w = refl

module _ {i j : Instance} (v : Valid i) (w : Valid j) where
  -- a round is accepted exactly where the two sides of every row agree, in both sides
  pub or_holds_read : (round : OrRound) → Says (is_or_accepted (verdict_or i j (read_or i j round))) (OrHolds i j round)
  unfolding verdict_or read_or first_round second_round
  or_holds_read round =
      rw (combined_accepted _ _) (says_and (holds_read v (first_round round)) (holds_read w (second_round i.header.challenges round)))

  -- extracting
  pub extract_or_tests : (a b : OrRound) → Tests (extracting_or i j a b).refusals (extract_or_conditions i j a b)
  unfolding extracting_or
  extract_or_tests a b = (
    refl,
    says_or (says_14 i j a) (says_14 i j b),
    (
      refl,
      says_or (says_15 i j a) (says_15 i j b),
      (
        refl,
        says_or (says_16 i j a) (says_16 i j b),
        (
          refl,
          says_18 i j a b,
          (refl, says_19 i j a b, (refl, says_or (says_not (or_holds_read a)) (says_not (or_holds_read b)), tt)),
        ),
      ),
    ),
  )
