-- What each test of the linear maker says (02, card 10; refusals 7, 29, 30, 11 and 22).
-- Assumes nothing.
use Prim.Native.Nat.{ℕ, ◌+◌, ◌*◌, ◌<◌}
use mathlib.Core.Path.{◌≡◌, refl, sym, subst}
use mathlib.Core.Bool.{Bool, or_assoc}
use mathlib.Core.Logic.{◌⊎◌, inl, inr, ⊎_elim}
use mathlib.Core.List.{List}
use native.Mathlib.Omega.{arith}
use lib.ListN.{get_or, length}
use Rattle.lists.specs.Places.{pad8}
use Rattle.lists.proofs.Places.{get_d_pad8}
use Rattle.rules.specs.Condition.{Tests}
use Rattle.rules.specs.Says.{Says}
use Rattle.rules.proofs.Says.{says_at_most, says_equal, says_iff, says_less, says_not, says_or}
use Rattle.sigma.specs.Admission.{bad_size, bad_statement}
use Rattle.sigma.specs.Instance.{is_exponent}
use Rattle.sigma.specs.Refusals.{SomeNonElement}
use Rattle.sigma.proofs.Calculus.{says_any}
use Rattle.sigma.proofs.Tests.{says_bad_count, says_bad_modulus, says_bad_order, says_bad_size, says_some_non_element}
use Rattle.formats.specs.Sheet.{entry_count, sheet_length}
use Rattle.formats.specs.Write.{short}
use Rattle.formats.proofs.Tests.{says_short}
use Rattle.formats.proofs.Unread.{some_non_element_agree}
use Rattle.linear_forms.specs.Linear.{bad_coefficient, bad_counts, linear_instance, linear_rules}
use Rattle.linear_forms.specs.LinearPlan.{LinearPlan}
use Rattle.linear_forms.specs.Refusals.{Refusal29, Refusal30, linear_conditions, linear_header}

module _ (p : LinearPlan) where
  -- 7: rows or columns lie outside 1 to 8; that they differ is for kind 2
  says_size : Says (bad_size (linear_header p)) ((p.rows < 1) ⊎ (8 < p.rows) ⊎ (p.columns < 1) ⊎ (8 < p.columns))
  says_size =
      says_iff (says_bad_size (linear_header p)) (
        ⊎_elim (λ a. inl a)
            (⊎_elim (λ b. inr (inl b))
            (⊎_elim (λ c. inr (inr (inl c))) (⊎_elim (λ d. inr (inr (inr d))) (λ (two, other). absurd (omega arith))))),
        ⊎_elim (λ a. inl a)
            (⊎_elim (λ b. inr (inl b)) (⊎_elim (λ c. inr (inr (inl c))) (λ d. inr (inr (inr (inl d)))))),
      )

  -- 29: a count is wrong
  pub says_29 : Says (bad_counts p) (Refusal29 p)
  unfolding bad_counts
  says_29 =
      simp or_assoc
      (says_or (says_less (length p.generators) _)
      (says_or (says_less _ (length p.generators))
      (says_or (says_not (says_equal (length p.coefficients) (p.rows * length p.generators * p.columns)))
      (says_not (says_equal (length p.statement) _)))))

  -- 30: some coefficient is q or more
  pub says_30 : Says (bad_coefficient p) (Refusal30 p)
  unfolding bad_coefficient
  says_30 = says_any _ _ _ (λ k. says_at_most p.order (get_or p.coefficients k 0))

  -- 11: some statement value is no group element
  says_11 : Says (bad_statement (linear_instance p)) (SomeNonElement (linear_header p) p.rows p.statement)
  unfolding bad_statement linear_instance
  says_11 =
      subst (λ (test : Bool). Says test (SomeNonElement (linear_header p) p.rows p.statement))
      (sym (some_non_element_agree (linear_header p) p.rows (pad8 0 p.statement) p.statement (λ j b. get_d_pad8 0 p.statement j)))
      (says_some_non_element (linear_header p) p.rows p.statement)

  -- the length of the sheet
  pub linear_length : sheet_length (linear_header p) ≡ 20 + 4 * (p.rows * p.columns) + 4 * p.rows
  unfolding sheet_length entry_count is_exponent
  linear_length = refl

  -- 22: the buffer is shorter than the sheet
  says_22 : (buffer : List ℕ)
      → Says (short buffer (sheet_length (linear_header p))) (length buffer < 20 + 4 * (p.rows * p.columns) + 4 * p.rows)
  says_22 buffer = rw linear_length (says_short buffer (20 + 4 * (p.rows * p.columns) + 4 * p.rows))

  -- the maker's rules test its conditions
  pub linear_tests : (buffer : List ℕ) → Tests (linear_rules p buffer) (linear_conditions p buffer)
  unfolding linear_rules
  linear_tests buffer = (
    refl,
    says_bad_modulus (linear_header p),
    (
      refl,
      says_bad_order (linear_header p),
      (
        refl,
        says_size,
        (
          refl,
          says_bad_count (linear_header p),
          (
            refl,
            says_29,
            (
              refl,
              says_30,
              (
                refl,
                says_some_non_element (linear_header p) (length p.generators) p.generators,
                (refl, says_11, (refl, says_22 buffer, tt)),
              ),
            ),
          ),
        ),
      ),
    ),
  )
