-- The linear maker's answer: exactly when it is not refused, what a refused call leaves, what else it writes, and that this loads.
-- Assumes nothing.
use Prim.Native.Nat.{ℕ, ◌*◌, ◌^◌, ◌<◌, ◌≤◌}
use mathlib.Core.Path.{◌≡◌, refl, sym, subst, ◌∙◌}
use mathlib.Core.Logic.{◌↔◌, inl, inr, ⊎_elim}
use mathlib.Core.Bool.{false}
use mathlib.Core.List.{List}
use native.Mathlib.Omega.{arith}
use lib.Dec.{T}
use lib.ListN.{get_or, length}
use Rattle.rules.specs.Rule.{all_positive, lowest}
use Rattle.rules.proofs.Lowest.{clear_lowest, lowest_clear}
use Rattle.rules.proofs.Says.{says_equal, says_false}
use Rattle.sigma.specs.Admission.{element_rules, header_rules}
use Rattle.sigma.specs.Element.{Element, some_non_element}
use Rattle.sigma.specs.Valid.{Valid}
use Rattle.sigma.proofs.Calculus.{all_pass, says_stable}
use Rattle.sigma.proofs.ElementGroup.{element_powers}
use Rattle.sigma.proofs.Passed.{entries_pass, kind_passes, modulus_passes, order_passes}
use Rattle.sigma.proofs.Tests.{says_element}
use Rattle.sigma.proofs.Valid.{clear_valid}
use Rattle.formats.specs.Encode.{sheet_of}
use Rattle.formats.specs.Load.{load}
use Rattle.formats.specs.Outcome.{Puts, front}
use Rattle.formats.specs.Sheet.{instance_of, sheet_length}
use Rattle.formats.proofs.Loads.{loads}
use Rattle.formats.proofs.SheetRoundTrip.{sheet_loads}
use Rattle.formats.proofs.SheetWritten.{instance_of_sheet_of}
use Rattle.formats.proofs.Unread.{read_same, same_instance_sym}
use Rattle.formats.proofs.Writing.{length_sheet_of, puts_front, short_passes, start_written, written_refusal}
use Rattle.linear_forms.specs.Linear.{bad_coefficient, bad_counts, coefficient, linear_entry, linear_instance, linear_rules, make_linear}
use Rattle.linear_forms.specs.LinearPlan.{LinearPlan}
use Rattle.linear_forms.specs.LinearSheets.{OfPlan}
use Rattle.linear_forms.specs.Refusals.{linear_header}
use Rattle.linear_forms.proofs.OfPlan.{linear_entry_law, linear_of_plan, plan_over}
use Rattle.linear_forms.proofs.Tests.{says_29, says_30}

-- none of 29, 30 and 10 applies to a plan
pub record Usable (p : LinearPlan) : Type 0 where
  pub some : 1 ≤ length p.generators
  pub few : length p.generators ≤ 8
  pub coefficients : length p.coefficients ≡ p.rows * length p.generators * p.columns
  pub statement : length p.statement ≡ p.rows
  pub below : (k : ℕ) → k < length p.coefficients → get_or p.coefficients k 0 < p.order
  pub elements : (g : ℕ) → g < length p.generators → Element (linear_header p) (get_or p.generators g 0)

module _ (p : LinearPlan) where
  -- not 29: the counts are right
  pub counts_pass : (bad_counts p ≡ false)
      ↔ ((1 ≤ length p.generators) × (length p.generators ≤ 8)
      × (length p.coefficients ≡ p.rows * length p.generators * p.columns) × (length p.statement ≡ p.rows))
  counts_pass =
      let fails = says_false (says_29 p) in (
        λ e.
            let none = fails.0 e in
            let a : ¬ (length p.generators < 1) = λ l. none (inl l) in
            let b : ¬ (8 < length p.generators) = λ l. none (inr (inl l)) in (
              omega arith,
              omega arith,
              says_stable (says_equal _ _) (λ other. none (inr (inr (inl other)))),
              says_stable (says_equal _ _) (λ other. none (inr (inr (inr other)))),
            ),
        λ (some, few, counted, rowed).
            fails.1 (⊎_elim (λ l. omega arith) (⊎_elim (λ l. omega arith) (⊎_elim (λ other. other counted) (λ other. other rowed)))),
      )

  -- not 30: every coefficient is below q
  pub below_passes : (bad_coefficient p ≡ false) ↔ ((k : ℕ) → k < length p.coefficients → get_or p.coefficients k 0 < p.order)
  below_passes =
      let fails = says_false (says_30 p) in (
        λ e k inside. let none : ¬ (p.order ≤ get_or p.coefficients k 0) = λ l. fails.0 e (k, inside, l) in omega arith,
        λ f. fails.1 (λ (k, inside, l). let low = f k inside in omega arith),
      )

  -- not 10: every generator is a group element
  pub generators_pass : (some_non_element (linear_header p) (length p.generators) p.generators ≡ false)
      ↔ ((g : ℕ) → g < length p.generators → Element (linear_header p) (get_or p.generators g 0))
  unfolding some_non_element
  generators_pass = all_pass _ _ _ (λ g. says_element (linear_header p) (get_or p.generators g 0))

  -- then the entries are group elements
  pub linear_element : 3 ≤ p.modulus → 2 ≤ p.order
      → ((g : ℕ) → g < length p.generators → Element (linear_header p) (get_or p.generators g 0))
      → (i j : ℕ) → Element (linear_header p) (linear_entry p i j)
  unfolding linear_entry
  linear_element large ordered elements i j =
      element_powers (linear_header p) (omega arith) (omega arith) refl (length p.generators) (λ g. get_or p.generators g 0)
      (λ g. coefficient p i g j) elements

module _ (p : LinearPlan) (buffer : List ℕ) where
  -- the maker's number is what its rules give
  linear_refusal : (make_linear p buffer).answer.refusal ≡ lowest (linear_rules p buffer)
  unfolding make_linear
  linear_refusal = written_refusal _ _ _ _

  -- none of its rules has the number 0
  linear_positive : T (all_positive (linear_rules p buffer))
  unfolding linear_rules
  linear_positive = tt

  -- it is not refused exactly where none of 29, 30 and 10 applies to the plan and its sheet's values are Valid and have room
  pub maker_runs : ((make_linear p buffer).answer.refusal ≡ 0)
      ↔ (Usable p × Valid (linear_instance p) × (sheet_length (linear_header p) ≤ length buffer))
  unfolding linear_rules linear_instance header_rules element_rules
  maker_runs =
      let h = linear_header p in
      let inst = linear_instance p in
      let room = short_passes buffer (sheet_length h) in (
        λ e.
            let (modulus, (order, (size, (count, (counts, (below, (generators, (statement, (fits, none))))))))) =
            clear_lowest (linear_rules p buffer) linear_positive (sym linear_refusal ∙ e) in
            let (some, few, counted, rowed) = (counts_pass p).0 counts in
            let elements = (generators_pass p).0 generators in
            let each = linear_element p ((modulus_passes h).0 modulus) ((order_passes h).0 order) elements in
            let entries = (entries_pass inst).1 (λ one i j a b. subst (Element h) (sym (linear_entry_law p i j a b)) (each i j)) in
            let kind = (kind_passes h).1 (inl refl) in (
              record {
                some = some;
                few = few;
                coefficients = counted;
                statement = rowed;
                below = (below_passes p).0 below;
                elements = elements;
              },
              (clear_valid inst).0 ((kind, (modulus, (order, (size, (count, tt))))), (entries, (statement, tt))),
              room.0 fits,
            ),
        λ (u, valid, fits).
            let ((kind, (modulus, (order, (size, (count, none))))), (entries, (statement, none'))) = (clear_valid inst).1 valid in
            let counts = (counts_pass p).1 (u.some, u.few, u.coefficients, u.statement) in
            let below = (below_passes p).1 u.below in
            let generators = (generators_pass p).1 u.elements in
            linear_refusal
            ∙ lowest_clear (linear_rules p buffer)
            (modulus, (order, (size, (count, (counts, (below, (generators, (statement, (room.1 fits, tt))))))))),
      )

  module _ (given : (make_linear p buffer).answer.refusal ≡ 0) where
    -- it puts the sheet of the plan's values at the buffer's start
    pub linear_puts : Puts (sheet_of (linear_instance p)) buffer (make_linear p buffer)
    unfolding make_linear linear_instance
    linear_puts =
        start_written _ (sheet_of (linear_instance p)) buffer given
        (omega (arith, length_sheet_of (linear_instance p), (maker_runs.0 given).2))

    module _ (small : p.modulus < 2 ^ 32) (short : p.order < 2 ^ 32) where
      -- and this loads as these values
      pub linear_loads : ((load (front (make_linear p buffer))).refusal ≡ 0) × OfPlan p (instance_of (front (make_linear p buffer)))
      unfolding load linear_instance
      linear_loads =
          let inst = linear_instance p in
          let valid = (maker_runs.0 given).1 in
          rw (puts_front linear_puts) (
            (loads (sheet_of inst)).1 (sheet_loads inst valid small short),
            subst (OfPlan p) (sym (instance_of_sheet_of inst valid small short))
                (plan_over (same_instance_sym (read_same inst)) (linear_of_plan p)),
          )
