-- What the linear maker answers and leaves in the buffer, return by return: after its tests of the plan it is the second writer on the
-- plan's values, since 4 cannot apply and the entries are group elements.
-- Assumes nothing.
use Prim.Native.Nat.{ℕ}
use mathlib.Core.Path.{◌≡◌, refl, sym, subst, ◌∙◌}
use mathlib.Core.Bool.{false}
use mathlib.Core.List.{List, [], ◌∷◌, ◌++◌}
use mathlib.Core.Logic.{inl}
use native.Mathlib.Omega.{arith}
use lib.Dec.{T}
use lib.ListN.{get_or, length}
use Rattle.std.specs.Prelude.{Err}
use Rattle.refusals.specs.declared.Refusal.{Refusal}
use Rattle.refusals.specs.Number.{number, written}
use Rattle.refusals.proofs.Positive.{number_positive}
use Rattle.types.specs.declared.Written.{Written}
use Rattle.lists.specs.Places.{eight_by_eight, pad8}
use Rattle.rules.specs.Call.{number_of}
use Rattle.rules.specs.Rule.{Rule, ◌when◌, all_positive, lowest}
use Rattle.rules.proofs.Call.{answer_same}
use Rattle.rules.proofs.Lowest.{lowest_earlier, lowest_later_zero, pass}
use Rattle.sigma.specs.Admission.{bad_entries, bad_statement, element_rules, header_rules}
use Rattle.sigma.specs.Element.{Element, some_non_element}
use Rattle.sigma.specs.Instance.{instance_with}
use Rattle.sigma.proofs.Calculus.{all_pass}
use Rattle.sigma.proofs.ElementGroup.{element_powers}
use Rattle.sigma.proofs.Passed.{entries_pass, kind_passes}
use Rattle.sigma.proofs.Positive.{header_positive}
use Rattle.sigma.proofs.Tests.{says_element}
use Rattle.formats.specs.Encode.{encode, encoding, sheet_of}
use Rattle.formats.specs.Sheet.{sheet_length}
use Rattle.formats.specs.Write.{short}
use Rattle.formats.proofs.Writing.{Leaves}
use Rattle.linear_forms.specs.Linear.{coefficient, linear_entry, linear_instance, linear_rules, make_linear}
use Rattle.linear_forms.specs.LinearPlan.{LinearPlan}
use Rattle.linear_forms.specs.Refusals.{linear_header}
use Rattle.linear_forms.proofs.OfPlan.{linear_entry_law}
use Rattle.writer.proofs.Answers.{start_refused}
use Rattle.linear_maker.specs.Plan.{plan_of, plan_rules}
use Rattle.linear_maker.proofs.PlanTests.{fields_pass, plan_passes}

module _ (p : LinearPlan) where
  -- the plan's own rules
  abbrev own_rules : List Rule
  own_rules = plan_rules (linear_header p) p.generators p.coefficients p.statement

  -- none of them has the number 0
  own_positive : T (all_positive own_rules)
  unfolding plan_rules
  own_positive = tt

  -- where neither the fixed fields nor the plan are refused, the entries are group elements
  entries_right : lowest (header_rules (linear_header p)) ≡ 0 → lowest own_rules ≡ 0 → bad_entries (linear_instance p) ≡ false
  unfolding some_non_element linear_instance linear_entry
  entries_right fields own =
      let h = linear_header p in
      let (modulus, order, rows, columns) = fields_pass h fields in
      let (counted, rowed, elements) = plan_passes h p.generators p.coefficients p.statement fields own in
      let each = (all_pass _ _ _ (λ g. says_element h (get_or p.generators g 0))).0 elements in
      (entries_pass (linear_instance p)).1
      (λ one i j a b.
      subst (Element h) (sym (linear_entry_law p i j a b))
      (element_powers h (omega arith) (omega arith) refl (length p.generators) (λ g. get_or p.generators g 0)
      (λ g. coefficient p i g j) each))

  module _ (buffer : List ℕ) where
    -- the rules of the statement and the buffer's room
    abbrev last : List Rule
    last = (11 when bad_statement (linear_instance p)) ∷ (22 when short buffer (sheet_length (linear_header p))) ∷ []

    -- the maker's rules are those of the fixed fields, of which 4 cannot apply, the plan's own and these
    in_front : lowest (linear_rules p buffer) ≡ lowest (header_rules (linear_header p) ++ (own_rules ++ last))
    unfolding linear_rules header_rules plan_rules
    in_front = sym (pass 4 _ ((kind_passes (linear_header p)).1 (inl refl)))

    -- the fixed fields are refused
    pub fields_refused : (refusal : Refusal) → number refusal ≡ lowest (header_rules (linear_header p))
        → Leaves (written (Err refusal)) buffer (make_linear p buffer)
    unfolding make_linear
    fields_refused refusal e =
        let first = in_front ∙ lowest_earlier (header_rules (linear_header p)) _ (omega (arith, e, number_positive refusal)) in
        start_refused refusal _ (sheet_of (linear_instance p)) buffer (e ∙ sym first)

    module _ (fields : lowest (header_rules (linear_header p)) ≡ 0) where
      -- where they are not, the other rules decide
      behind_fields : lowest (linear_rules p buffer) ≡ lowest (own_rules ++ last)
      behind_fields = in_front ∙ lowest_later_zero (header_rules (linear_header p)) _ (header_positive (linear_header p)) fields

      -- the plan is refused
      pub plan_refused : (refusal : Refusal) → number refusal ≡ lowest own_rules
          → Leaves (written (Err refusal)) buffer (make_linear p buffer)
      unfolding make_linear
      plan_refused refusal e =
          let first = behind_fields ∙ lowest_earlier own_rules last (omega (arith, e, number_positive refusal)) in
          start_refused refusal _ (sheet_of (linear_instance p)) buffer (e ∙ sym first)

      module _ (own : lowest own_rules ≡ 0) where
        -- where it is not either, the maker is the second writer on the plan's values
        linear_encodes : make_linear p buffer ≡ encode (linear_instance p) buffer
        unfolding make_linear encode encoding header_rules element_rules linear_instance number_of
        linear_encodes =
            let maker = behind_fields ∙ lowest_later_zero own_rules last own_positive own in
            let writer =
            lowest_later_zero (header_rules (linear_header p)) ((10 when bad_entries (linear_instance p)) ∷ last)
            (header_positive (linear_header p)) fields
            ∙ pass 10 last (entries_right fields own) in
            answer_same _ _ (maker ∙ sym writer) refl refl

        -- and the writer that is handed these values leaves what the maker leaves
        pub plan_written : {answer : Written} {entries : List (List ℕ)} {eight after : List ℕ}
            → entries ≡ eight_by_eight p.rows p.columns
            (linear_entry (plan_of (linear_header p) p.generators p.coefficients []))
            → eight ≡ pad8 0 p.statement
            → Leaves answer after (encode (instance_with (linear_header p) entries eight) buffer)
            → Leaves answer after (make_linear p buffer)
        unfolding linear_instance linear_entry coefficient
        plan_written entered padded leaves = rw linear_encodes (rw (entered, padded) at leaves)
