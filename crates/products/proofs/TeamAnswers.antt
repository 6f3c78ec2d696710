-- What the combiner's calls answer: when they are not refused, what they then give, and that only the places that are read count.
-- Assumes nothing.
use Prim.Native.Nat.{ℕ, ◌%◌, ◌<◌, ◌≤◌}
use mathlib.Core.Path.{◌≡◌, refl, sym, ap, ap₂, ◌∙◌}
use mathlib.Core.Logic.{◌⊎◌, inl, ⊎_elim}
use mathlib.Core.Bool.{Bool, cond, false, not}
use mathlib.Core.List.{List, [], ◌∷◌, ◌++◌}
use native.Mathlib.Omega.{arith}
use lib.Dec.{T}
use lib.ListN.{get_or-eq_default, length}
use Rattle.types.specs.declared.Computed.{Computed}
use Rattle.types.specs.declared.Header.{Header}
use Rattle.lists.specs.Places.{pad8}
use Rattle.lists.proofs.Places.{get_d_pad8, tabulate_agree}
use Rattle.numbers.specs.Search.{any}
use Rattle.numbers.proofs.Product.{product_agree, sum_agree}
use Rattle.numbers.proofs.Search.{any_agree, any_false}
use Rattle.rules.specs.Call.{after, number_of}
use Rattle.rules.specs.Rule.{Clear, Rule, ◌when◌, all_positive, lowest}
use Rattle.rules.proofs.Call.{answer_clear, answer_number, answer_value}
use Rattle.rules.proofs.Lowest.{clear_append, clear_lowest}
use Rattle.rules.proofs.Says.{says_false}
use Rattle.formats.specs.Load.{load_refusal, load_rules, shape_rules}
use Rattle.formats.specs.Sheet.{instance_of}
use Rattle.formats.proofs.ByteLayout.{length_padded}
use Rattle.formats.proofs.Loads.{load_clear, loads, loads_valid}
use Rattle.formats.proofs.Unread.{some_non_element_agree}
use Rattle.sigma.specs.Admission.{element_rules, header_rules}
use Rattle.sigma.specs.Element.{is_coordinate, some_non_coordinate, some_non_element}
use Rattle.sigma.specs.Instance.{Instance, is_exponent, statement_at}
use Rattle.sigma.specs.Meaning.{Coordinates, Elements}
use Rattle.sigma.specs.Reads.{Agree}
use Rattle.sigma.specs.Refusals.{Refusal11, SomeNonElement}
use Rattle.sigma.specs.Round.{bad_commitment, bad_coordinates}
use Rattle.sigma.specs.Valid.{Valid}
use Rattle.sigma.proofs.ByKind.{by_kind}
use Rattle.sigma.proofs.Passed.{commitment_passes, coordinates_pass}
use Rattle.sigma.proofs.Tests.{says_bad_statement}
use Rattle.sigma.proofs.Valid.{valid_kind}
use Rattle.products.specs.Corollaries.{TeamCorollaries}
use Rattle.products.specs.Ours.{team_calls}
use Rattle.products.specs.Players.{AgreeParts, IsTeam, Joined, ZeroBeyond}
use Rattle.products.specs.Team.{
  bad_images,
  bad_product,
  join_all,
  join_responses,
  joining,
  multiply_all,
  multiply_commitments,
  multiplying,
  part,
  team_rules,
}
use Rattle.products.specs.TeamWorks.{TeamAnswers}
use Rattle.products.proofs.TeamRefusals.{says_bad_images, says_bad_product, says_bad_team}
use Rattle.products.proofs.Combined.{
  join_all_exponent,
  join_all_root,
  length_join_all,
  length_multiply_all,
  multiply_all_at,
}

-- ---- when nothing is refused

module _ (sheet : List ℕ) (count : ℕ) (images : List (List ℕ)) where
  -- where no rule of the sheet's shape, the team and the images applies, the sheet loads
  clear_loads : Clear (shape_rules sheet) → Clear (team_rules (instance_of sheet) count images) → load_refusal sheet ≡ 0
  unfolding team_rules load_rules element_rules
  clear_loads shape (team, (entries, (elements, none))) =
      let inst = instance_of sheet in
      let sound = (says_false (says_bad_images inst count images)).0 elements in
      let statement = (says_false (says_bad_statement inst)).1 (λ bad. sound (inl bad)) in
      let clear = (clear_append (shape_rules sheet) (element_rules inst)).1 (shape, (entries, (statement, tt))) in
      (loads sheet).1 ((load_clear sheet).0 clear)

  module _ (loaded : load_refusal sheet ≡ 0) (team : IsTeam sheet count images) where
    -- no rule of a sheet that loads applies
    pub shape_clear : Clear (shape_rules sheet) × Clear (element_rules (instance_of sheet))
    unfolding load_rules
    shape_clear = (clear_append (shape_rules sheet) (element_rules (instance_of sheet))).0 ((load_clear sheet).1 ((loads sheet).0 loaded))

    -- no rule of the team and its images applies
    team_clear : Clear (team_rules (instance_of sheet) count images)
    unfolding team_rules element_rules
    team_clear =
        let inst = instance_of sheet in
        let (entries, (statement, none)) = shape_clear.1 in
        let size : ¬ ((count < 2) ⊎ (8 < count)) =
        ⊎_elim (λ (low : count < 2). omega (arith, team.two)) (λ (high : 8 < count). omega (arith, team.eight)) in
        let sound : ¬ (Refusal11 inst ⊎ ((p : ℕ) × (p < count) × SomeNonElement inst.header inst.header.rows (part images p))) =
        ⊎_elim ((says_false (says_bad_statement inst)).0 statement) (λ (p, b, (i, d, other)). other (team.elements p b i d)) in
        ((says_false (says_bad_team count)).1 size, (entries, ((says_false (says_bad_images inst count images)).1 sound, tt)))

    -- 28 does not apply
    product_passes : bad_product (instance_of sheet) count images ≡ false
    unfolding statement_at
    product_passes = (says_false (says_bad_product (instance_of sheet) count images)).1 (λ (i, b, other). other (sym (team.whole i b)))

    -- nor does a call's own rule, and 28 after it, if that rule does not
    none_applies : (n : ℕ) (bad : Bool) → bad ≡ false
        → Clear (shape_rules sheet ++
        (team_rules (instance_of sheet) count images ++ (n when bad) ∷ (28 when bad_product (instance_of sheet) count images) ∷ []))
    none_applies n bad passes =
        let inst = instance_of sheet in
        let rules = (n when bad) ∷ (28 when bad_product inst count images) ∷ [] in
        let own = (clear_append (team_rules inst count images) rules).1 (team_clear, (passes, (product_passes, tt))) in
        (clear_append (shape_rules sheet) (team_rules inst count images ++ rules)).1 (shape_clear.0, own)

    -- commitments of group elements are multiplied
    pub multiply_runs : (commitments : List (List ℕ)) → ((p : ℕ) → p < count → Elements (instance_of sheet) (part commitments p))
        → multiply_commitments sheet count images commitments
        ≡ record { refusal = 0; values = pad8 0 (multiply_all (instance_of sheet).header count commitments) }
    unfolding multiply_commitments multiplying
    multiply_runs commitments elements =
        let passes = (any_false count _).1 (λ p b. (commitment_passes (instance_of sheet) (part commitments p)).1 (elements p b)) in
        answer_clear (after (shape_rules sheet) (multiplying (instance_of sheet) count images commitments)) (none_applies 14 _ passes)

    -- responses of domain slots are joined
    pub join_runs : (responses : List (List ℕ)) → ((p : ℕ) → p < count → Coordinates (instance_of sheet) (part responses p))
        → join_responses sheet count images responses
        ≡ record { refusal = 0; values = pad8 0 (join_all (instance_of sheet).header count responses) }
    unfolding join_responses joining
    join_runs responses slots =
        let passes = (any_false count _).1 (λ p b. (coordinates_pass (instance_of sheet) (part responses p)).1 (slots p b)) in
        answer_clear (after (shape_rules sheet) (joining (instance_of sheet) count images responses)) (none_applies 16 _ passes)

-- ---- joined slots

module _ (inst : Instance) (count : ℕ) (parts : List (List ℕ)) where
  -- what `join_all` gives is joined
  pub join_all_joined : Joined inst count parts (join_all inst.header count parts)
  join_all_joined = record {
    exponent = λ e. join_all_exponent inst.header parts e count;
    root = λ e. join_all_root inst.header parts (λ one. omega arith) count;
  }

  -- slots that agree with joined ones are joined
  pub joined_agree : (x y : List ℕ) → Agree inst.header.columns y x → Joined inst count parts x → Joined inst count parts y
  joined_agree x y same joined = record {
    exponent = λ e j b. same j b ∙ joined.exponent e j b;
    root = λ e j b. same j b ∙ joined.root e j b;
  }

  -- and in a kind that loads joined slots agree with what `join_all` gives
  pub joined_is : Valid inst → (x : List ℕ) → Joined inst count parts x
      → Agree inst.header.columns x (join_all inst.header count parts)
  joined_is v x joined j b =
      by_kind inst.header (λ e. joined.exponent e j b ∙ sym (join_all_joined.exponent e j b))
      (λ n. let e = valid_kind v.table n in joined.root e j b ∙ sym (join_all_joined.root e j b))

-- ---- what is answered

module _ (sheet : List ℕ) (count : ℕ) (images : List (List ℕ)) where
  -- if a call's number is 0, the sheet loads and no rule applies
  pub answered_clear : (rules : List Rule) → T (all_positive rules)
      → lowest (shape_rules sheet ++ (team_rules (instance_of sheet) count images ++ rules)) ≡ 0
      → (load_refusal sheet ≡ 0) × Clear (team_rules (instance_of sheet) count images) × Clear rules
  unfolding shape_rules header_rules team_rules
  answered_clear rules positive none =
      let inst = instance_of sheet in
      let clear = clear_lowest (shape_rules sheet ++ (team_rules inst count images ++ rules)) positive none in
      let (shape, own) = (clear_append (shape_rules sheet) (team_rules inst count images ++ rules)).0 clear in
      let (team, rest) = (clear_append (team_rules inst count images) rules).0 own in
      (clear_loads sheet count images shape team, team, rest)

-- at most eight values in eight places, with 0 beyond
padded_beyond : (n : ℕ) (xs : List ℕ) → n ≤ 8 → length xs ≡ n → ZeroBeyond n (pad8 0 xs)
padded_beyond n xs few size =
    (length_padded 0 xs (omega arith), λ j b. get_d_pad8 0 xs j ∙ get_or-eq_default xs 0 (omega arith))

module _ (sheet : List ℕ) (count : ℕ) (images parts : List (List ℕ)) where
  -- the number of each call
  pub multiply_number : (multiply_commitments sheet count images parts).refusal
      ≡ number_of (after (shape_rules sheet) (multiplying (instance_of sheet) count images parts))
  unfolding multiply_commitments multiplying
  multiply_number = answer_number _ (λ (c : Computed). c.refusal) refl (λ n. refl)

  pub join_number : (join_responses sheet count images parts).refusal
      ≡ number_of (after (shape_rules sheet) (joining (instance_of sheet) count images parts))
  unfolding join_responses joining
  join_number = answer_number _ (λ (c : Computed). c.refusal) refl (λ n. refl)

  -- the call that multiplies
  multiplied_given : (multiply_commitments sheet count images parts).refusal ≡ 0
      → Valid (instance_of sheet)
      × ((multiply_commitments sheet count images parts).values ≡ pad8 0 (multiply_all (instance_of sheet).header count parts))
  unfolding multiply_commitments multiplying number_of
  multiplied_given none =
      let zero = sym multiply_number ∙ none in (
        loads_valid sheet (answered_clear sheet count images _ tt zero).0,
        ap (λ (c : Computed). c.values) (answer_value (after (shape_rules sheet) (multiplying (instance_of sheet) count images parts)) zero),
      )

  -- the call that joins
  joined_given : (join_responses sheet count images parts).refusal ≡ 0
      → Valid (instance_of sheet)
      × ((join_responses sheet count images parts).values ≡ pad8 0 (join_all (instance_of sheet).header count parts))
  unfolding join_responses joining number_of
  joined_given none =
      let zero = sym join_number ∙ none in (
        loads_valid sheet (answered_clear sheet count images _ tt zero).0,
        ap (λ (c : Computed). c.values) (answer_value (after (shape_rules sheet) (joining (instance_of sheet) count images parts)) zero),
      )

-- ---- what is read

module _ (h : Header) (count : ℕ) (parts parts' : List (List ℕ)) where
  -- the product reads s places of each player's row
  pub multiply_all_agree : AgreeParts count h.rows parts parts' → multiply_all h count parts ≡ multiply_all h count parts'
  unfolding multiply_all
  multiply_all_agree same = tabulate_agree h.rows _ _ (λ i b.
      ap (λ (n : ℕ). n % h.modulus) (product_agree count _ _ (λ p d. same p d i b)))

  -- joining reads n places of each
  pub join_all_agree : AgreeParts count h.columns parts parts' → join_all h count parts ≡ join_all h count parts'
  unfolding join_all
  join_all_agree same = tabulate_agree h.columns _ _ (λ j b.
      ap₂ (λ (s n : ℕ). cond (is_exponent h) (s % h.order) (n % h.modulus)) (sum_agree count _ _ (λ p d. same p d j b))
      (product_agree count _ _ (λ p d. same p d j b)))

  -- some row has a value that is no group element
  elements_read : AgreeParts count h.rows parts parts'
      → any count (λ p. some_non_element h h.rows (part parts p)) ≡ any count (λ p. some_non_element h h.rows (part parts' p))
  elements_read same = any_agree count _ _ (λ p b. some_non_element_agree h h.rows (part parts p) (part parts' p) (same p b))

  -- some row has a slot that is no coordinate
  slots_read : AgreeParts count h.columns parts parts'
      → any count (λ p. some_non_coordinate h h.columns (part parts p)) ≡ any count (λ p. some_non_coordinate h h.columns (part parts' p))
  unfolding some_non_coordinate
  slots_read same = any_agree count _ _ (λ p b. any_agree h.columns _ _ (λ j d. ap (λ (x : ℕ). not (is_coordinate h x)) (same p b j d)))

module _ (sheet : List ℕ) (count : ℕ) (images images' parts parts' : List (List ℕ))
    (same : AgreeParts count (instance_of sheet).header.rows images images') where
  -- the call that multiplies
  multiply_read : AgreeParts count (instance_of sheet).header.rows parts parts'
      → multiply_commitments sheet count images parts ≡ multiply_commitments sheet count images' parts'
  unfolding multiply_commitments multiplying team_rules bad_images bad_product bad_commitment
  multiply_read own =
      let h = (instance_of sheet).header in
      rw (
        elements_read h count images images' same,
        multiply_all_agree h count images images' same,
        elements_read h count parts parts' own,
        multiply_all_agree h count parts parts' own,
      )

  -- the call that joins
  join_read : AgreeParts count (instance_of sheet).header.columns parts parts'
      → join_responses sheet count images parts ≡ join_responses sheet count images' parts'
  unfolding join_responses joining team_rules bad_images bad_product bad_coordinates
  join_read own =
      let h = (instance_of sheet).header in
      rw (
        elements_read h count images images' same,
        multiply_all_agree h count images images' same,
        slots_read h count parts parts' own,
        join_all_agree h count parts parts' own,
      )

-- ---- the whole

pub team_answers : TeamAnswers team_calls
team_answers = record {
  multiplied = λ sheet count images commitments none.
      let h = (instance_of sheet).header in
      let (valid, values) = multiplied_given sheet count images commitments none in
      rw values (
        λ i b. get_d_pad8 0 _ i ∙ multiply_all_at h commitments count i b,
        padded_beyond h.rows _ valid.table.few_rows (length_multiply_all h commitments count),
      );
  joined = λ sheet count images responses none.
      let h = (instance_of sheet).header in
      let (valid, values) = joined_given sheet count images responses none in
      rw values (
        joined_agree (instance_of sheet) count responses _ _ (λ j b. get_d_pad8 0 _ j) (join_all_joined (instance_of sheet) count responses),
        padded_beyond h.columns _ valid.table.few_columns (length_join_all h responses count),
      );
}

pub team_corollaries : TeamCorollaries team_calls
team_corollaries = record {
  multiplied_read = λ sheet count images images' commitments commitments'.
      multiply_read sheet count images images' commitments commitments';
  joined_read = λ sheet count images images' responses responses'. join_read sheet count images images' responses responses';
}
