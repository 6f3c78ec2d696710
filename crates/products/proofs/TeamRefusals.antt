-- The combiner's refusals: the number is that of the first condition that holds, and a refused call gives zeros.
-- Assumes nothing.
use Prim.Native.Nat.{ℕ, ◌<◌}
use mathlib.Core.Path.{◌≡◌, refl, sym, ◌∙◌}
use mathlib.Core.Logic.{◌⊎◌}
use mathlib.Core.List.{List, ◌++◌}
use Rattle.types.specs.declared.Computed.{Computed}
use Rattle.lists.specs.Places.{zeros8}
use Rattle.rules.specs.Call.{after}
use Rattle.rules.specs.Condition.{Condition, Tests}
use Rattle.rules.specs.Order.{is_sublist, refusal_order}
use Rattle.rules.specs.Refuses.{condition_numbers}
use Rattle.rules.specs.Rule.{Rule}
use Rattle.rules.specs.Says.{Says}
use Rattle.rules.proofs.Condition.{tests_append}
use Rattle.rules.proofs.Refuses.{refuses_call}
use Rattle.rules.proofs.Says.{says_iff, says_less, says_or}
use Rattle.formats.specs.Load.{shape_rules}
use Rattle.formats.specs.Refusals.{shape_conditions}
use Rattle.formats.specs.Sheet.{instance_of}
use Rattle.formats.proofs.Refusals.{shape_tests}
use Rattle.sigma.specs.Instance.{Instance, statement_at}
use Rattle.sigma.specs.Refusals.{Refusal11, SomeNonElement}
use Rattle.sigma.proofs.Calculus.{says_any}
use Rattle.sigma.proofs.Comparison.{says_differ}
use Rattle.sigma.proofs.Tests.{
  says_bad_commitment,
  says_bad_coordinates,
  says_bad_entries,
  says_bad_statement,
  says_some_non_element,
}
use Rattle.products.specs.Ours.{team_calls}
use Rattle.products.specs.Refusals.{Refusal28, join_conditions, multiply_conditions, team_conditions}
use Rattle.products.specs.Team.{
  bad_images,
  bad_product,
  bad_team,
  join_responses,
  joining,
  multiply_commitments,
  multiplying,
  part,
  team_rules,
}
use Rattle.products.specs.TeamWorks.{TeamRefusals}
use Rattle.products.proofs.Combined.{multiply_all_at}

-- 27: the team is outside 2 to 8
pub says_bad_team : (count : ℕ) → Says (bad_team count) ((count < 2) ⊎ (8 < count))
unfolding bad_team
says_bad_team count = says_or (says_less count 2) (says_less 8 count)

module _ (inst : Instance) (count : ℕ) (images : List (List ℕ)) where
  -- 11: some value of the statement or of a player's image is no group element
  pub says_bad_images : Says (bad_images inst count images)
      (Refusal11 inst ⊎ ((p : ℕ) × (p < count) × SomeNonElement inst.header inst.header.rows (part images p)))
  unfolding bad_images
  says_bad_images =
      says_or (says_bad_statement inst) (says_any count _ _ (λ p. says_some_non_element inst.header inst.header.rows (part images p)))

  -- 28: the images do not multiply to the statement
  pub says_bad_product : Says (bad_product inst count images) (Refusal28 inst count images)
  unfolding bad_product statement_at
  says_bad_product =
      let at = multiply_all_at inst.header images count in
      says_iff (says_differ inst.header.rows _ inst.statement)
      (λ (i, b, other). (i, b, λ e. other (at i b ∙ e)), λ (i, b, other). (i, b, λ e. other (sym (at i b) ∙ e)))

module _ (sheet : List ℕ) (count : ℕ) (images : List (List ℕ)) where
  -- rules that test a call's own conditions, behind those of the sheet, the team and the images
  behind_team : (rules : List Rule) (conditions : List Condition) → Tests rules conditions
      → Tests (shape_rules sheet ++ (team_rules (instance_of sheet) count images ++ rules)) (team_conditions sheet count images ++ conditions)
  unfolding team_rules
  behind_team rules conditions tests =
      let inst = instance_of sheet in
      tests_append (shape_rules sheet) _ (shape_conditions sheet) _ (shape_tests sheet)
      (refl, says_bad_team count, (refl, says_bad_entries inst, (refl, says_bad_images inst count images, tests)))

  -- the rules of the commitments test their conditions
  multiply_tests : (commitments : List (List ℕ))
      → Tests (shape_rules sheet ++ (multiplying (instance_of sheet) count images commitments).refusals)
      (multiply_conditions sheet count images commitments)
  unfolding multiplying
  multiply_tests commitments =
      let inst = instance_of sheet in
      behind_team _ _
      (refl, says_any count _ _ (λ p. says_bad_commitment inst (part commitments p)), (refl, says_bad_product inst count images, tt))

  -- the rules of the responses test theirs
  join_tests : (responses : List (List ℕ))
      → Tests (shape_rules sheet ++ (joining (instance_of sheet) count images responses).refusals)
      (join_conditions sheet count images responses)
  unfolding joining
  join_tests responses =
      let inst = instance_of sheet in
      behind_team _ _
      (refl, says_any count _ _ (λ p. says_bad_coordinates inst (part responses p)), (refl, says_bad_product inst count images, tt))

-- ---- both calls

pub team_refusals : TeamRefusals team_calls
unfolding condition_numbers is_sublist refusal_order multiply_commitments multiplying join_responses joining
team_refusals = record {
  multiplying = λ sheet count images commitments.
      refuses_call _ _ refl refl (after (shape_rules sheet) (multiplying (instance_of sheet) count images commitments))
      (λ (c : Computed). c.refusal) refl (λ n. refl) (λ c. c.values ≡ zeros8) (multiply_tests sheet count images commitments) (λ n. refl);
  joining = λ sheet count images responses.
      refuses_call _ _ refl refl (after (shape_rules sheet) (joining (instance_of sheet) count images responses))
      (λ (c : Computed). c.refusal) refl (λ n. refl) (λ c. c.values ≡ zeros8) (join_tests sheet count images responses) (λ n. refl);
  inserted = refl;
}
