-- The number of a sheet and a team's size, of the number that loading the sheet gives; and a call behind it: it is refused with
-- that number, or is the call on the sheet's values.
-- Assumes nothing.
use Prim.Native.Nat.{ℕ, ◌<◌, ◌≤◌}
use mathlib.Core.Path.{◌≡◌, refl, sym, ap, ◌∙◌}
use mathlib.Core.Bool.{Bool, false, true, ◌||◌}
use mathlib.Core.List.{List, [], ◌∷◌, ◌++◌}
use mathlib.Core.Logic.{◌≢◌}
use native.Mathlib.Decide.{dec_lt}
use native.Mathlib.Omega.{arith}
use Rattle.types.specs.declared.Computed.{Computed}
use Rattle.rules.specs.Call.{Call, after, answer}
use Rattle.rules.specs.Rule.{Rule, ◌when◌, lowest}
use Rattle.rules.proofs.Call.{after_clear}
use Rattle.rules.proofs.Lowest.{
  clear_lowest,
  lowest_append_zero,
  lowest_behind,
  lowest_clear,
  lowest_earlier,
  lowest_later_zero,
  pass,
}
use Rattle.sigma.specs.Admission.{bad_entries, bad_statement, element_rules, header_rules}
use Rattle.sigma.specs.Instance.{Instance}
use Rattle.formats.specs.Load.{load_refusal, load_rules, shape_rules}
use Rattle.formats.specs.Sheet.{instance_of}
use Rattle.products.specs.Team.{bad_images, bad_team, team_rules}
use Rattle.combiner.proofs.TeamNumber.{few_players}

-- a rule before others whose numbers are at most 9
at_most : (n : ℕ) (b : Bool) (rules : List Rule) → n ≤ 9 → lowest rules ≤ 9 → lowest ((n when b) ∷ rules) ≤ 9
unfolding lowest
at_most n true rules few rest = few
at_most n false rules few rest = rest

-- the numbers of a sheet's shape are at most 9
shape_small : (s : List ℕ) → lowest (shape_rules s) ≤ 9
unfolding shape_rules header_rules
shape_small s =
    at_most 2 _ _ (omega arith)
    (at_most 3 _ _ (omega arith)
    (at_most 4 _ _ (omega arith)
    (at_most 5 _ _ (omega arith)
    (at_most 6 _ _ (omega arith)
    (at_most 7 _ _ (omega arith)
    (at_most 8 _ _ (omega arith) (at_most 9 _ [] (omega arith) (omega (arith, lowest_clear [] tt)))))))))

-- those of its elements are 10 and 11
elements_large : (a b : Bool) → 0 < lowest ((10 when a) ∷ (11 when b) ∷ []) → 10 ≤ lowest ((10 when a) ∷ (11 when b) ∷ [])
unfolding lowest
elements_large true b some = omega arith
elements_large false true some = omega arith
elements_large false false some = absurd (omega arith)

-- a number of 27, 10 and 11 is given too where 11 has a further test and further rules follow
covered : (a b c d : Bool) (rules : List Rule) → 0 < lowest ((27 when a) ∷ (10 when b) ∷ (11 when c) ∷ [])
    → lowest ((27 when a) ∷ (10 when b) ∷ (11 when c) ∷ []) ≡ lowest ((27 when a) ∷ (10 when b) ∷ (11 when (c || d)) ∷ rules)
unfolding lowest
covered true b c d rules some = refl
covered false true c d rules some = refl
covered false false true d rules some = refl
covered false false false d rules some = absurd (omega arith)

module _ (s : List ℕ) where
  -- where the shape has no number, the rules behind it count
  behind_shape : (rules : List Rule) → lowest (shape_rules s) ≡ 0 → lowest (shape_rules s ++ rules) ≡ lowest rules
  unfolding shape_rules header_rules
  behind_shape rules none = lowest_later_zero (shape_rules s) rules tt none

  -- ---- the number of the sheet, and that of the team's size

  module _ {n : ℕ} (loading : n ≡ load_refusal s) where
    -- where the number is 0 the shape has none
    pub shape_none : n ≡ 0 → lowest (shape_rules s) ≡ 0
    unfolding load_refusal load_rules shape_rules header_rules element_rules
    shape_none none = ((lowest_append_zero (shape_rules s) (element_rules (instance_of s)) tt tt).0 (sym loading ∙ none)).0

    -- and neither where it is 10 or more
    pub shape_past : 10 ≤ n → lowest (shape_rules s) ≡ 0
    unfolding load_refusal load_rules
    shape_past large = elim (dec_lt 0 (lowest (shape_rules s))) [
      | yes some ↦
          let first = loading ∙ lowest_earlier (shape_rules s) (element_rules (instance_of s)) some in
          absurd (omega (arith, first, shape_small s))
      | no none ↦ omega arith
    ]

  module _ (count : ℕ) where
    -- the rules of a sheet with that of the team's size between its shape and its elements
    abbrev pub sized : List Rule
    sized = shape_rules s ++ (27 when bad_team count) ∷ element_rules (instance_of s)

    module _ {n : ℕ} (loading : n ≡ load_refusal s) where
      -- a team that has no number leaves the sheet's
      pub size_passed : {k : ℕ} → k ≡ lowest ((27 when bad_team count) ∷ []) → k ≡ 0 → n ≡ lowest sized
      unfolding load_refusal load_rules
      size_passed team none =
          let good = (clear_lowest ((27 when bad_team count) ∷ []) tt (sym team ∙ none)).0 in
          loading ∙ lowest_behind (shape_rules s) _ _ (sym (pass 27 _ good))

      -- a number below 10 is that of the shape
      pub shape_first : n ≢ 0 → n < 10 → n ≡ lowest sized
      unfolding load_refusal load_rules element_rules
      shape_first other small = elim (dec_lt 0 (lowest (shape_rules s))) [
        | yes some ↦
            loading ∙ lowest_earlier (shape_rules s) (element_rules (instance_of s)) some ∙ sym (lowest_earlier (shape_rules s) _ some)
        | no none ↦
            let elements = loading ∙ behind_shape (element_rules (instance_of s)) (omega arith) in
            let large = elements_large (bad_entries (instance_of s)) (bad_statement (instance_of s)) (omega (arith, elements)) in
            absurd (omega (arith, elements, large))
      ]

    -- where the shape has no number, the team's is the first
    pub size_first : lowest (shape_rules s) ≡ 0 → {k : ℕ} → k ≡ lowest ((27 when bad_team count) ∷ []) → k ≢ 0 → k ≡ lowest sized
    size_first none team other =
        team ∙ sym (behind_shape _ none ∙ lowest_earlier ((27 when bad_team count) ∷ []) _ (omega (arith, team)))

    -- ---- a call behind both

    module _ {n : ℕ} (number : n ≡ lowest sized) where
      -- their number is that of all rules
      pub sized_number : (images : List (List ℕ)) (rules : List Rule) → n ≢ 0
          → n ≡ lowest (shape_rules s ++ (team_rules (instance_of s) count images ++ rules))
      unfolding team_rules element_rules bad_images
      sized_number images rules other = elim (dec_lt 0 (lowest (shape_rules s))) [
        | yes some ↦ number ∙ lowest_earlier (shape_rules s) _ some ∙ sym (lowest_earlier (shape_rules s) _ some)
        | no none ↦
            let clear : lowest (shape_rules s) ≡ 0 = omega arith in
            let left = number ∙ behind_shape ((27 when bad_team count) ∷ element_rules (instance_of s)) clear in
            left ∙ covered _ _ (bad_statement (instance_of s)) _ rules (omega (arith, left)) ∙ sym (behind_shape _ clear)
      ]

      module _ (none : n ≡ 0) where
        -- where there is none the sheet's shape has none, the team has two to eight players, and the sheet's elements are right
        pub sized_passes : (lowest (shape_rules s) ≡ 0) × ((bad_team count ≡ false) × (lowest (element_rules (instance_of s)) ≡ 0))
        unfolding shape_rules header_rules element_rules
        sized_passes =
            let (shape, (team, elements)) =
            (lowest_append_zero (shape_rules s) ((27 when bad_team count) ∷ element_rules (instance_of s)) tt tt).0 (sym number ∙ none) in
            (shape, (team, lowest_clear (element_rules (instance_of s)) elements))

        -- so the sheet loads
        pub sized_loads : load_refusal s ≡ 0
        unfolding load_refusal load_rules
        sized_loads = let (shape, (team, elements)) = sized_passes in behind_shape _ shape ∙ elements

        -- and the players are eight at most
        pub sized_few : count ≤ 8
        sized_few = few_players count sized_passes.1.0

        -- and a call is the call on its values
        pub sized_call : (call : Instance → Call Computed) {inst : Instance} → inst ≡ instance_of s → {result : Computed}
            → result ≡ answer (call inst) → result ≡ answer (after (shape_rules s) (call (instance_of s)))
        unfolding shape_rules header_rules
        sized_call call same is_result =
            is_result ∙ ap (λ (inst : Instance). answer (call inst)) same
            ∙ sym (after_clear (call (instance_of s)) (shape_rules s) (clear_lowest (shape_rules s) tt sized_passes.0))
