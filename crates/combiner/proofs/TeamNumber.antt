-- The numbers of a team, test by test, and the answers that they give.
-- Assumes nothing.
use Prim.Native.Nat.{ℕ, ◌<◌, ◌≤◌}
use mathlib.Core.Path.{◌≡◌, sym, ◌∙◌}
use mathlib.Core.Bool.{Bool, false, true, or-eq-true_iff}
use mathlib.Core.List.{List, [], ◌∷◌, ◌++◌}
use mathlib.Core.Logic.Or
use mathlib.Core.Logic.{◌≢◌}
use native.Mathlib.Omega.{arith}
use lib.Dec.{ltb}
use borrow.Author.Tests.{le-ltb, lt-ltb, ltb-false}
use Rattle.lists.specs.Places.{pad8}
use Rattle.lists.proofs.Places.{get_d_pad8}
use Rattle.numbers.specs.Search.{any}
use Rattle.numbers.proofs.Search.{any_agree}
use Rattle.rules.specs.Rule.{Rule, ◌when◌, lowest}
use Rattle.rules.proofs.Lowest.{clear_lowest, lowest_clear, lowest_earlier, lowest_later_zero, pass, stop}
use Rattle.sigma.specs.Admission.{bad_statement, element_rules}
use Rattle.sigma.specs.Comparison.{differ, first_difference}
use Rattle.sigma.specs.Instance.{Instance}
use Rattle.sigma.specs.Valid.{Valid}
use Rattle.sigma.proofs.Calculus.{both_fail}
use Rattle.sigma.proofs.Valid.{clear_valid}
use Rattle.combiner.specs.Parts.{non_element_part}
use Rattle.products.specs.Team.{bad_images, bad_product, bad_team, multiply_all, team_rules}

module _ (count : ℕ) where
  -- the rule of a team's size
  abbrev size : List Rule
  size = (27 when bad_team count) ∷ []

  -- where it does not apply there are at most eight players
  pub few_players : bad_team count ≡ false → count ≤ 8
  unfolding bad_team
  few_players good = ltb-false 8 count ((both_fail (ltb count 2) (ltb 8 count)).0 good).1

  -- a team of fewer than two
  pub team_small : count < 2 → 27 ≡ lowest size
  unfolding bad_team
  team_small small = sym (stop 27 _ (rw (lt-ltb count 2 small)))

  -- a team of more than eight
  pub team_large : 2 ≤ count → 8 < count → 27 ≡ lowest size
  unfolding bad_team
  team_large some large = sym (stop 27 _ (rw (le-ltb count 2 some, lt-ltb 8 count large)))

  -- any other
  pub team_right : 2 ≤ count → count ≤ 8 → 0 ≡ lowest size
  unfolding bad_team
  team_right some few = sym (lowest_clear _ (rw (le-ltb count 2 some, le-ltb 8 count few), tt))

-- no rule of the elements applies to a sheet that is Valid
pub valid_elements : (inst : Instance) → Valid inst → lowest (element_rules inst) ≡ 0
valid_elements inst valid = lowest_clear (element_rules inst) ((clear_valid inst).1 valid).1

module _ (inst : Instance) (count : ℕ) (images : List (List ℕ)) where
  module _ (team : bad_team count ≡ false) (elements : lowest (element_rules inst) ≡ 0) where
    -- behind the team's size and the sheet's elements comes an image that is no group element
    pub image_bad : any count (non_element_part inst.header images) ≡ true → 11 ≡ lowest (team_rules inst count images)
    unfolding team_rules element_rules bad_images non_element_part
    image_bad bad =
        let (entries, (statement, _)) = clear_lowest (element_rules inst) tt elements in
        sym (pass 27 _ team ∙ pass 10 _ entries ∙ stop 11 _ ((or-eq-true_iff (bad_statement inst) _).1 (Or.inr bad)))

    -- and then nothing
    pub images_right : any count (non_element_part inst.header images) ≡ false → 0 ≡ lowest (team_rules inst count images)
    unfolding team_rules element_rules bad_images non_element_part
    images_right good =
        let (entries, (statement, _)) = clear_lowest (element_rules inst) tt elements in
        sym (lowest_clear _ (team, (entries, ((both_fail _ _).1 (statement, good), tt))))

  -- 28 compares the product of the images, with zeros behind it, and the statement
  pub product_read : {whole : List ℕ} → whole ≡ pad8 0 (multiply_all inst.header count images)
      → differ inst.header.rows whole inst.statement ≡ bad_product inst count images
  unfolding bad_product differ first_difference any
  product_read is_whole =
      rw is_whole (any_agree inst.header.rows _ _ (λ i h. rw (get_d_pad8 0 (multiply_all inst.header count images) i)))

  -- ---- the rules of the parts, 14 or 16, and 28 behind those of the team

  module _ (number : ℕ) (parts whole : Bool) where
    -- the rules
    abbrev rest : List Rule
    rest = (number when parts) ∷ (28 when whole) ∷ []

    module _ {n : ℕ} (is_number : n ≡ lowest (team_rules inst count images)) where
      -- the team's number is the first
      pub team_first : n ≢ 0 → n ≡ lowest (team_rules inst count images ++ rest)
      team_first other = is_number ∙ sym (lowest_earlier (team_rules inst count images) rest (omega (arith, is_number)))

      module _ (none : n ≡ 0) where
        -- where it is 0 the others count
        passed : lowest (team_rules inst count images ++ rest) ≡ lowest rest
        unfolding team_rules
        passed = lowest_later_zero (team_rules inst count images) rest tt (sym is_number ∙ none)

        -- that of the parts
        pub parts_bad : parts ≡ true → number ≡ lowest (team_rules inst count images ++ rest)
        parts_bad bad = sym (passed ∙ stop number _ bad)

        -- then that of the test of the product, 28 or nothing
        pub product_tested : {m : ℕ} → parts ≡ false → m ≡ lowest ((28 when whole) ∷ []) → m ≡ lowest (team_rules inst count images ++ rest)
        product_tested good is_last = is_last ∙ sym (passed ∙ pass number _ good)
