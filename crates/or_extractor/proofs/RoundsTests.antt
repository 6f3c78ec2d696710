-- The tests of two rounds: their number is the lower of the numbers of both, or 18 or 19, which look at what is read.
-- Assumes nothing.
use Prim.Native.Nat.{ℕ, ◌<◌}
use mathlib.Core.Path.{◌≡◌, refl, sym, ap₂, ◌∙◌}
use mathlib.Core.Bool.{◌||◌, false, true}
use mathlib.Core.List.{List, ◌++◌}
use mathlib.Core.Logic.{◌≢◌}
use native.Mathlib.Omega.{arith}
use lib.Dec.{T, eqb}
use lib.ListN.{drop}
use borrow.Author.Tests.{eq-eqb, ne_eqb}
use Rattle.rules.specs.Call.{number_of}
use Rattle.rules.specs.Either.{either_rules}
use Rattle.rules.specs.Rule.{Rule, all_positive, lowest}
use Rattle.rules.proofs.Either.{Rising, SameNumbers, lower_of, lowest_either}
use Rattle.rules.proofs.Lowest.{lowest_earlier, lowest_later_zero}
use Rattle.image.proofs.Tested.{difference_read}
use Rattle.sigma.specs.Comparison.{differ}
use Rattle.sigma.specs.Instance.{Instance}
use Rattle.sigma.proofs.Calculus.{both_fail}
use Rattle.disjunctions.specs.declared.OrRound.{OrRound}
use Rattle.disjunctions.specs.Extractor.{extracting_or}
use Rattle.disjunctions.specs.Judge.{bad_challenges, judging_or}
use Rattle.disjunctions.specs.Round.{read_or}
use Rattle.or_judge.proofs.RoundTests.{challenges_pass}
use Rattle.or_extractor.specs.Rounds.{rounds_rules}

module _ (i j : Instance) where
  -- the numbers of these rules are the same for all rounds
  same_numbers : (a b : OrRound) → SameNumbers (judging_or i j a).refusals (judging_or i j b).refusals
  unfolding judging_or
  same_numbers a b = (refl, (refl, (refl, tt)))

  -- and rise
  rising : (round : OrRound) → Rising 13 (judging_or i j round).refusals
  unfolding judging_or
  rising round = (omega arith, (omega arith, (omega arith, tt)))

  module _ (a b : OrRound) where
    -- 18
    pub differences_read :
        (differ i.header.rows (read_or i j a).commitment0 (read_or i j b).commitment0
        || differ j.header.rows (read_or i j a).commitment1 (read_or i j b).commitment1)
        ≡ (differ i.header.rows a.commitment0 b.commitment0 || differ j.header.rows a.commitment1 b.commitment1)
    unfolding read_or
    differences_read = ap₂ ◌||◌ (difference_read _ _ _) (difference_read _ _ _)

    -- 19
    pub challenges_same : a.challenge ≡ b.challenge → eqb (read_or i j a).challenge (read_or i j b).challenge ≡ true
    unfolding read_or
    challenges_same e = eq-eqb a.challenge b.challenge e

    pub challenges_apart : a.challenge ≢ b.challenge → eqb (read_or i j a).challenge (read_or i j b).challenge ≡ false
    unfolding read_or
    challenges_apart other = ne_eqb a.challenge b.challenge other

    -- 15 of neither round: both c and both c0 are below K
    pub both_below : (bad_challenges i (read_or i j a) || bad_challenges i (read_or i j b)) ≡ false
        → ((a.challenge < i.header.challenges) × (a.challenge0 < i.header.challenges))
        × ((b.challenge < i.header.challenges) × (b.challenge0 < i.header.challenges))
    both_below e =
        let parts = (both_fail (bad_challenges i (read_or i j a)) (bad_challenges i (read_or i j b))).0 e in
        ((challenges_pass i j a).0 parts.0, (challenges_pass i j b).0 parts.1)

    -- 14 to 16 are asked of both rounds
    abbrev both_rules : List Rule
    both_rules = either_rules (judging_or i j a).refusals (judging_or i j b).refusals

    -- their number is the lower of both
    both_number : lowest both_rules ≡ lower_of (number_of (judging_or i j a)) (number_of (judging_or i j b))
    unfolding number_of
    both_number = lowest_either 13 (judging_or i j a).refusals (judging_or i j b).refusals (same_numbers a b) (rising a) (rising b)

    -- they come first
    split : lowest (rounds_rules i j a b) ≡ lowest (both_rules ++ drop 3 (rounds_rules i j a b))
    unfolding extracting_or judging_or either_rules
    split = refl

    both_positive : T (all_positive both_rules)
    unfolding judging_or either_rules
    both_positive = tt

    module _ {n k l : ℕ} (is_lower : n ≡ lower_of k l) (is_first : k ≡ number_of (judging_or i j a)) (is_second : l ≡ number_of (judging_or i j b)) where
      -- the lower of the two numbers is that of both rounds
      is_both : n ≡ lowest both_rules
      is_both = is_lower ∙ ap₂ lower_of is_first is_second ∙ sym both_number

      -- above 0 it is the number of all rules
      pub rounds_lower : n ≢ 0 → n ≡ lowest (rounds_rules i j a b)
      rounds_lower some = is_both ∙ sym (split ∙ lowest_earlier both_rules _ (omega (arith, is_both)))

      -- where it is 0, 18 and 19 are left
      pub rounds_left : n ≡ 0 → lowest (rounds_rules i j a b) ≡ lowest (drop 3 (rounds_rules i j a b))
      rounds_left none = split ∙ lowest_later_zero both_rules _ both_positive (sym is_both ∙ none)
