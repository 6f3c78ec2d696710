-- The tests of a plan, test by test: the number that its counts, its coefficients and its generators give, and what holds where they
-- give none.
-- Assumes nothing.
use Prim.Native.Nat.{ℕ, ◌*◌, ◌≤◌, ◌<◌}
use mathlib.Core.Path.{◌≡◌, sym, ◌∙◌}
use mathlib.Core.Bool.{true, false, not}
use mathlib.Core.List.{List, []}
use mathlib.Core.Logic.{inl, inr}
use native.Mathlib.Nat.{mul-le-mul}
use native.Mathlib.Omega.{arith}
use lib.Dec.{eqb}
use lib.ListN.{length}
use borrow.Author.Tests.{eq-eqb, le-ltb}
use Rattle.types.specs.declared.Header.{Header}
use Rattle.lists.specs.Places.{pad8}
use Rattle.lists.proofs.Places.{get_d_pad8}
use Rattle.rules.specs.Rule.{lowest}
use Rattle.rules.proofs.Lowest.{clear_lowest, lowest_clear, pass, stop}
use Rattle.rules.proofs.Says.{says_equal, says_false}
use Rattle.sigma.specs.Admission.{header_rules}
use Rattle.sigma.specs.Element.{some_non_element}
use Rattle.sigma.proofs.Calculus.{says_stable}
use Rattle.sigma.proofs.Passed.{modulus_passes, order_passes, size_passes}
use Rattle.formats.proofs.Unread.{some_non_element_agree}
use Rattle.linear_forms.specs.Linear.{bad_coefficient, bad_counts}
use Rattle.linear_forms.specs.LinearPlan.{LinearPlan}
use Rattle.linear_forms.specs.Refusals.{Refusal29}
use Rattle.linear_forms.proofs.Tests.{says_29}
use Rattle.linear_maker.specs.Plan.{Counted, plan_of, plan_rules}

-- ---- the counts

-- products of numbers of at most 8
pub products_few : (a b c : ℕ) → a ≤ 8 → b ≤ 8 → c ≤ 8 → (a * b ≤ 64) × (a * b * c ≤ 512)
products_few a b c few few' few'' =
    let two : a * b ≤ 64 = mul-le-mul few few' in
    let three : a * b * c ≤ 512 = mul-le-mul two few'' in
    (two, three)

module _ (p : LinearPlan) where
  -- a count is wrong
  pub counts_wrong : Refusal29 p → true ≡ bad_counts p
  counts_wrong bad = sym ((says_29 p).complete bad)

  -- generators and coefficients are as many as they should be, and the statement's count decides
  pub counts_left : 1 ≤ length p.generators → length p.generators ≤ 8
      → length p.coefficients ≡ p.rows * length p.generators * p.columns
      → not (eqb (length p.statement) p.rows) ≡ bad_counts p
  unfolding bad_counts
  counts_left some few counted =
      rw (le-ltb (length p.generators) 1 some, le-ltb 8 (length p.generators) few, eq-eqb (length p.coefficients) _ counted)

  -- no count is wrong
  pub counts_right : bad_counts p ≡ false → (length p.generators ≤ 8)
      × (length p.coefficients ≡ p.rows * length p.generators * p.columns) × (length p.statement ≡ p.rows)
  counts_right right =
      let none = (says_false (says_29 p)).0 right in
      let few : ¬ (8 < length p.generators) = λ l. none (inr (inl l)) in (
        omega arith,
        says_stable (says_equal _ _) (λ other. none (inr (inr (inl other)))),
        says_stable (says_equal _ _) (λ other. none (inr (inr (inr other)))),
      )

-- ---- the numbers

module _ (h : Header) (generators coefficients statement : List ℕ) where
  -- the number that the three tests give
  abbrev number : ℕ
  number = lowest (plan_rules h generators coefficients statement)

  -- a wrong count gives 29
  pub counts_number : bad_counts (plan_of h generators coefficients statement) ≡ true → 29 ≡ number
  unfolding plan_rules
  counts_number bad = sym (stop 29 _ bad)

  module _ (counts : bad_counts (plan_of h generators coefficients statement) ≡ false) where
    -- where there is none, a coefficient of q or more gives 30
    pub coefficient_number : bad_coefficient (plan_of h [] coefficients []) ≡ true → 30 ≡ number
    unfolding plan_rules bad_coefficient
    coefficient_number bad = sym (pass 29 _ counts ∙ stop 30 _ bad)

    module _ (small : bad_coefficient (plan_of h [] coefficients []) ≡ false) {eight : List ℕ} (padded : eight ≡ pad8 0 generators) where
      -- the test of the array is that of the generators
      array_tested : some_non_element h (length generators) eight ≡ some_non_element h (length generators) generators
      array_tested = rw padded (some_non_element_agree h (length generators) _ generators (λ j b. get_d_pad8 0 generators j))

      -- where there is neither, a generator that is no group element gives 10
      pub generator_number : some_non_element h (length generators) eight ≡ true → 10 ≡ number
      unfolding plan_rules bad_coefficient
      generator_number bad = sym (pass 29 _ counts ∙ pass 30 _ small ∙ stop 10 _ (sym array_tested ∙ bad))

      -- and where there is none of the three, nothing is refused
      pub plan_right : some_non_element h (length generators) eight ≡ false → 0 ≡ number
      unfolding plan_rules bad_coefficient
      plan_right right = sym (lowest_clear _ (counts, (small, (sym array_tested ∙ right, tt))))

-- ---- what holds where nothing is refused

-- fixed fields that are not refused
pub fields_pass : (h : Header) → lowest (header_rules h) ≡ 0 → (3 ≤ h.modulus) × (2 ≤ h.order) × (h.rows ≤ 8) × (h.columns ≤ 8)
unfolding header_rules
fields_pass h e =
    let (kind, (modulus, (order, (size, rest)))) = clear_lowest (header_rules h) tt e in
    let sized = (size_passes h).0 size in
    ((modulus_passes h).0 modulus, (order_passes h).0 order, sized.1, sized.3)

-- a plan that is not refused either
pub plan_passes : (h : Header) (generators coefficients statement : List ℕ) → lowest (header_rules h) ≡ 0
    → lowest (plan_rules h generators coefficients statement) ≡ 0
    → Counted h generators coefficients × (length statement ≡ h.rows)
    × (some_non_element h (length generators) generators ≡ false)
unfolding plan_rules
plan_passes h generators coefficients statement fields e =
    let (modulus, order, rows, columns) = fields_pass h fields in
    let (counts, (small, (elements, none))) = clear_lowest (plan_rules h generators coefficients statement) tt e in
    let (few, counted, rowed) = counts_right (plan_of h generators coefficients statement) counts in
    (record { modulus = omega arith; few_rows = rows; few_columns = columns; counted = counted }, rowed, elements)
