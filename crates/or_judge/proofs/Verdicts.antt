-- Judging by the number of 14 to 16 that a round is refused with, or by the verdict on both sides if there is none.
-- Assumes nothing.
use Prim.Native.Nat.{ℕ, ◌<◌}
use mathlib.Core.Path.{◌≡◌, sym, ap, ◌∙◌}
use mathlib.Core.Logic.{◌≢◌}
use native.Mathlib.Omega.{arith}
use Rattle.rules.specs.Call.{answer, number_of}
use Rattle.rules.proofs.Call.{answer_refused, answer_value}
use Rattle.rules.proofs.Lowest.{clear_lowest}
use Rattle.sigma.specs.Instance.{Instance}
use Rattle.sigma.specs.Valid.{Valid}
use Rattle.sigma.proofs.Valid.{valid_modulus}
use Rattle.disjunctions.specs.declared.OrRound.{OrRound}
use Rattle.disjunctions.specs.declared.OrVerdict.{OrVerdict}
use Rattle.disjunctions.specs.declared.OrVerdict.TheVariants.{OrRefused}
use Rattle.disjunctions.specs.Judge.{judging_or, verdict_or}
use Rattle.disjunctions.specs.Round.{read_or}
use Rattle.pairs.specs.declared.Pair.{Pair}
use Rattle.instance.specs.Values.{values_of}
use Rattle.or_judge.specs.Values.{FewPlaces, FitTogether}
use Rattle.or_judge.proofs.RoundTests.{challenges_pass}

-- the fixed fields of a Valid instance have a modulus and at most eight rows and columns
pub valid_few : {inst : Instance} → Valid inst → FewPlaces inst.header
valid_few v = (omega (arith, valid_modulus v.table), v.table.few_rows, v.table.few_columns)

-- two sheets that are loaded together fit
pub pair_fits : (pair : Pair) → FitTogether (values_of pair.first) (values_of pair.second)
pair_fits pair = record { first = pair.first.valid; second = pair.second.valid; one_count = pair.one_count }

module _ (i j : Instance) (round : OrRound) {n : ℕ} (is_number : n ≡ number_of (judging_or i j round)) where
  -- a number above 0 is the whole answer
  pub or_number_law : n ≢ 0 → OrRefused n ≡ answer (judging_or i j round)
  unfolding judging_or
  or_number_law some = ap OrRefused is_number ∙ sym (answer_refused (judging_or i j round) (omega (arith, is_number)))

  module _ (none : n ≡ 0) where
    -- if it is 0 the verdict is given
    pub or_verdict : {given : OrVerdict} → given ≡ verdict_or i j (read_or i j round) → given ≡ answer (judging_or i j round)
    unfolding judging_or
    or_verdict is_given = is_given ∙ sym (answer_value (judging_or i j round) (sym is_number ∙ none))

    -- and c0 is below K
    pub or_below : round.challenge0 < i.header.challenges
    unfolding judging_or number_of
    or_below =
        let clear = clear_lowest (judging_or i j round).refusals tt (sym is_number ∙ none) in
        ((challenges_pass i j round).0 clear.1.0).1
