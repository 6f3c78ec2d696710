-- Each call of the combiner is not refused exactly when TeamRuns says so.
-- Assumes nothing.
use Prim.Native.Nat.{ℕ, ◌<◌}
use mathlib.Core.Path.{◌≡◌, sym, ap, ◌∙◌}
use mathlib.Core.Logic.{◌↔◌, ◌⊎◌, inl, inr}
use mathlib.Core.List.{List}
use native.Mathlib.Omega.{arith}
use Rattle.types.specs.declared.Computed.{Computed}
use Rattle.numbers.proofs.Search.{any_false}
use Rattle.rules.specs.Call.{number_of}
use Rattle.rules.specs.Rule.{Clear}
use Rattle.rules.proofs.Says.{says_equal, says_false}
use Rattle.formats.specs.Load.{load, load_refusal}
use Rattle.formats.specs.Ours.{file_calls}
use Rattle.formats.specs.Sheet.{instance_of}
use Rattle.runs.proofs.OnlyRounds.{are_elements}
use Rattle.sigma.specs.Instance.{statement_at}
use Rattle.sigma.specs.Meaning.{Coordinates, Elements}
use Rattle.sigma.proofs.Calculus.{says_stable}
use Rattle.sigma.proofs.Passed.{commitment_passes, coordinates_pass}
use Rattle.products.specs.Ours.{team_calls}
use Rattle.products.specs.Players.{IsTeam}
use Rattle.products.specs.Refusals.{Refusal28}
use Rattle.products.specs.RunsWhere.{TeamRuns}
use Rattle.products.specs.Team.{
  join_responses,
  joining,
  multiply_commitments,
  multiplying,
  part,
  team_rules,
}
use Rattle.products.proofs.TeamAnswers.{answered_clear, join_number, join_runs, multiply_number, multiply_runs}
use Rattle.products.proofs.TeamRefusals.{says_bad_images, says_bad_product, says_bad_team}

module _ (sheet : List ℕ) (count : ℕ) (images : List (List ℕ)) where
  -- if neither 27 nor 11 nor 28 applies, there is a team
  is_team : Clear (team_rules (instance_of sheet) count images) → ¬ Refusal28 (instance_of sheet) count images
      → IsTeam sheet count images
  unfolding team_rules statement_at
  is_team (size, (entries, (elements, none))) product =
      let inst = instance_of sheet in
      let between : ¬ ((count < 2) ⊎ (8 < count)) = (says_false (says_bad_team count)).0 size in
      let few : ¬ (count < 2) = λ l. between (inl l) in
      let many : ¬ (8 < count) = λ l. between (inr l) in
      let sound = (says_false (says_bad_images inst count images)).0 elements in
      record {
        two = omega (arith, few);
        eight = omega (arith, many);
        elements = λ p b. are_elements inst (part images p) (λ some. sound (inr (p, b, some)));
        whole = λ i b. sym (says_stable (says_equal _ _) (λ other. product (i, b, other)));
      }

  -- multiplying
  multiply_where : (commitments : List (List ℕ))
      → ((multiply_commitments sheet count images commitments).refusal ≡ 0) ↔ ((load_refusal sheet ≡ 0)
      × IsTeam sheet count images × ((p : ℕ) → p < count → Elements (instance_of sheet) (part commitments p)))
  unfolding multiplying number_of
  multiply_where commitments =
      let inst = instance_of sheet in (
        λ e.
            let (loaded, team, (own, (product, none))) =
            answered_clear sheet count images _ tt (sym (multiply_number sheet count images commitments) ∙ e) in (
              loaded,
              is_team team ((says_false (says_bad_product inst count images)).0 product),
              λ p b. (commitment_passes inst (part commitments p)).0 ((any_false count _).0 own p b),
            ),
        λ (loaded, team, elements).
            ap (λ (answer : Computed). answer.refusal) (multiply_runs sheet count images loaded team commitments elements),
      )

  -- joining
  join_where : (responses : List (List ℕ))
      → ((join_responses sheet count images responses).refusal ≡ 0) ↔ ((load_refusal sheet ≡ 0)
      × IsTeam sheet count images × ((p : ℕ) → p < count → Coordinates (instance_of sheet) (part responses p)))
  unfolding joining number_of
  join_where responses =
      let inst = instance_of sheet in (
        λ e.
            let (loaded, team, (own, (product, none))) =
            answered_clear sheet count images _ tt (sym (join_number sheet count images responses) ∙ e) in (
              loaded,
              is_team team ((says_false (says_bad_product inst count images)).0 product),
              λ p b. (coordinates_pass inst (part responses p)).0 ((any_false count _).0 own p b),
            ),
        λ (loaded, team, slots).
            ap (λ (answer : Computed). answer.refusal) (join_runs sheet count images loaded team responses slots),
      )

pub team_runs : TeamRuns file_calls team_calls
unfolding load
team_runs = record { multiplies = multiply_where; joins = join_where }
