-- Numbers that an entry's kind does not use and entries beyond the count are not read in writing.
-- Assumes nothing.
use Prim.Native.Nat.{ℕ, zero, suc, ◌+◌, ◌-◌, ◌*◌, ◌%◌, ◌^◌, ◌<◌, ◌≤◌}
use mathlib.Core.Path.{◌≡◌, refl, sym, ap, ap₂, subst, ◌∙◌}
use mathlib.Core.Logic.{inl, inr, ⊎_elim}
use mathlib.Core.List.{List, [], ◌∷◌, ◌++◌}
use native.Mathlib.Omega.{arith}
use lib.Dec.{ltb}
use lib.ListN.{get_or, replicate}
use Rattle.types.specs.declared.Header.{Header}
use Rattle.lists.proofs.Places.{tabulate_agree}
use Rattle.patterns.specs.Pattern.{header_for, made_for}
use Rattle.patterns.specs.Table.{kind_of, made, pattern_of, patterns}
use Rattle.rules.specs.Call.{number_of}
use Rattle.rules.specs.Rule.{◌when◌, lowest}
use Rattle.rules.proofs.Determined.{either}
use Rattle.rules.proofs.Says.{says_iff, says_same}
use Rattle.sigma.specs.Image.{image}
use Rattle.sigma.specs.Instance.{table_of}
use Rattle.sigma.specs.Round.{response, response_coordinate}
use Rattle.sigma.specs.Valid.{Valid}
use Rattle.ledgers.specs.Check.{bad_line_challenge, bad_line_kind, base_rules, not_above}
use Rattle.ledgers.specs.Ledger.{product_of}
use Rattle.ledgers.specs.Lines.{entry_at}
use Rattle.ledgers.specs.Refusals.{HighNumber}
use Rattle.ledgers.specs.RunsWhere.{RightEntry}
use Rattle.ledgers.specs.Used.{SameEntries, SameEntry}
use Rattle.ledgers.specs.Write.{
  Opening,
  bad_numbers,
  commit_to,
  ledger_of,
  line_of,
  made_commitment,
  made_line,
  made_product,
  made_sum,
  opening_at,
  opening_of,
  openings,
  product_witness,
  write_ledger,
  writing_ledger,
  zero_line,
}
use Rattle.ledgers.specs.declared.Base.{Base}
use Rattle.ledgers.specs.declared.Entries.{Entries}
use Rattle.ledgers.specs.declared.Entry.{Entry}
use Rattle.ledgers.specs.declared.Line.{Line}
use Rattle.ledgers.proofs.Answers.{write_number}
use Rattle.ledgers.proofs.Alone.{above_over, any_same, challenge_over, high_over, kinds_over, slots_over}
use Rattle.ledgers.proofs.LedgerRefusals.{ledger_refusals}
use Rattle.ledgers.proofs.Made.{commit_element, made_given, made_product_law, made_sum_law}
use Rattle.ledgers.proofs.Only.{line_by}
use Rattle.ledgers.proofs.Openings.{opening_given, opening_product, opening_sum}
use Rattle.ledgers.proofs.Product.{image_is}
use Rattle.ledgers.proofs.Tests.{says_above, says_challenge, says_numbers}
use Rattle.ledgers.proofs.Valid.{Sound, product_valid}
use Rattle.ledgers.proofs.Writing.{entries_right, ledger_is, right}

same_entry_sym : {e e' : Entry} → SameEntry e e' → SameEntry e' e
same_entry_sym s = record {
  kind = sym s.kind;
  lines = λ k. let (f, g) = s.lines (kinds_over 2 3 (sym s.kind) k) in (sym f, sym g);
  value = λ k. sym (s.value (s.kind ∙ k));
  blinding = λ k. sym (s.blinding (kinds_over 1 3 (sym s.kind) k));
  round = λ k. let (nonce, c) = s.round (s.kind ∙ k) in (λ j b. sym (nonce j b), sym c);
}

-- ---- the number

module _ (base : Base) {e e' : Entry} (s : SameEntry e e') where
  numbers_over : HighNumber base e → HighNumber base e'
  numbers_over (inl (one, high)) =
      inl (sym s.kind ∙ one, ⊎_elim (λ l. inl (high_over (s.value one) l)) (λ l. inr (high_over (s.blinding (inl one)) l)) high)
  numbers_over (inr (three, high)) =
      inr (
        sym s.kind ∙ three,
        ⊎_elim (λ l. inl (high_over (s.blinding (inr three)) l))
            (λ l. inr (slots_over base e.nonce e'.nonce (s.round three).0 l)) high,
      )

module _ (base : Base) {entries entries' : Entries} (s : SameEntries entries entries') where
  -- the refusals are the same
  rules_same : number_of (writing_ledger base entries) ≡ number_of (writing_ledger base entries')
  unfolding number_of writing_ledger
  rules_same =
      let same = any_same entries.count entries'.count in
      let kinds = same _ _ s.count (λ i b. ap bad_line_kind (s.lines i b).kind) in
      let names = same (λ i. not_above i (entry_at entries i).kind (entry_at entries i).first (entry_at entries i).second)
      (λ i. not_above i (entry_at entries' i).kind (entry_at entries' i).first (entry_at entries' i).second) s.count (λ i b.
      let l = s.lines i b in
      let l' = same_entry_sym l in
      says_same (says_above i _ _ _) (says_iff (says_above i _ _ _) (above_over i l'.kind l'.lines, above_over i l.kind l.lines))) in
      let challenges = same (λ i. bad_line_challenge base (entry_at entries i).kind (entry_at entries i).challenge)
      (λ i. bad_line_challenge base (entry_at entries' i).kind (entry_at entries' i).challenge) s.count (λ i b.
      let l = s.lines i b in
      let l' = same_entry_sym l in
      says_same (says_challenge base _ _)
      (says_iff (says_challenge base _ _)
      (challenge_over base l'.kind (λ k. (l'.round k).1), challenge_over base l.kind (λ k. (l.round k).1)))) in
      let numbers = same (λ i. bad_numbers base (entry_at entries i)) (λ i. bad_numbers base (entry_at entries' i)) s.count (λ i b.
      let l = s.lines i b in
      says_same (says_numbers base _) (says_iff (says_numbers base _) (numbers_over base (same_entry_sym l), numbers_over base l))) in
      λ j. lowest
      (base_rules base ++
      (37 when ltb 64 (s.count j)) ∷ (35 when kinds j) ∷ (36 when names j) ∷ (15 when challenges j) ∷ (16 when numbers j) ∷ [])

  -- so the number is
  number : (write_ledger base entries).refusal ≡ (write_ledger base entries').refusal
  number = write_number base entries ∙ rules_same ∙ sym (write_number base entries')

-- ---- lines

module _ (base : Base) (sound : Sound base) (above : List Opening) {e e' : Entry} (s : SameEntry e e') where
  -- the opening
  opening_same : (i : ℕ) → RightEntry base i e → opening_of base.order above e ≡ opening_of base.order above e'
  opening_same i (inl (one, low, blind)) =
      let q = base.order in
      opening_given q above e one
      ∙ (λ j. record { value = s.value one j; blinding = s.blinding (inl one) j })
      ∙ sym (opening_given q above e' (sym s.kind ∙ one))
  opening_same i (inr (inl (two, first, second))) =
      let q = base.order in
      let (f, g) = s.lines (inl two) in
      opening_sum q above e two
      ∙ (λ j. record {
        value = ((opening_at above (f j)).value + (opening_at above (g j)).value) % q;
        blinding = ((opening_at above (f j)).blinding + (opening_at above (g j)).blinding) % q;
      })
      ∙ sym (opening_sum q above e' (sym s.kind ∙ two))
  opening_same i (inr (inr p)) =
      let q = base.order in
      let three = p.0 in
      let (f, g) = s.lines (inr three) in
      opening_product q above e three
      ∙ (λ j. record {
        value = (opening_at above (f j)).value * (opening_at above (g j)).value % q;
        blinding = s.blinding (inr three) j;
      })
      ∙ sym (opening_product q above e' (sym s.kind ∙ three))

  -- the product statement of three openings is Valid
  openings_valid : (one two own : Opening) → Valid (product_of base (commit_to base one) (commit_to base two) (commit_to base own))
  openings_valid one two own =
      product_valid base sound _ _ _ (commit_element base sound one) (commit_element base sound two) (commit_element base sound own)

  -- a product's round
  module _ (own own' : Opening) (three : e.kind ≡ 3) where
    t_same : image (table_of (product_of base (commit_to base (opening_at above e.first)) (commit_to base (opening_at above e.second))
        (commit_to base own))) e.nonce
        ≡ image (table_of (product_of base (commit_to base (opening_at above e'.first)) (commit_to base (opening_at above e'.second))
        (commit_to base own'))) e'.nonce
    t_same =
        let (f, g) = s.lines (inr three) in
        let nonce = (s.round three).0 in
        let k0 = nonce 0 (omega arith) in
        let k1 = nonce 1 (omega arith) in
        let k2 = nonce 2 (omega arith) in
        image_is base _ _ _ (openings_valid (opening_at above e.first) (opening_at above e.second) own) e.nonce
        ∙ (λ j. base.g ^ k0 j * base.h ^ k1 j % base.modulus ∷
        commit_to base (opening_at above (g j)) ^ k0 j * base.h ^ k2 j % base.modulus ∷ [])
        ∙ sym (image_is base _ _ _ (openings_valid (opening_at above e'.first) (opening_at above e'.second) own') e'.nonce)

    r_same : (header : Header) → header.kind ≡ 1 → header.columns ≡ 3
        → response header e.nonce e.challenge
        (product_witness base.order (opening_at above e.first) (opening_at above e.second) e.blinding)
        ≡ response header e'.nonce e'.challenge
        (product_witness base.order (opening_at above e'.first) (opening_at above e'.second) e'.blinding)
    unfolding response
    r_same header one columns =
        let (f, g) = s.lines (inr three) in
        let (nonce, c) = s.round three in
        let x : product_witness base.order (opening_at above e.first) (opening_at above e.second) e.blinding
        ≡ product_witness base.order (opening_at above e'.first) (opening_at above e'.second) e'.blinding =
        λ i. product_witness base.order (opening_at above (f i)) (opening_at above (g i)) (s.blinding (inr three) i) in
        tabulate_agree header.columns _ _ (λ j inside i.
        response_coordinate header (nonce j (subst (λ (n : ℕ). j < n) columns inside) i) (c i) (get_or (x i) j 0))

    product_same : own ≡ own' → made_product base above own e ≡ made_product base above own' e'
    unfolding made_product product_of made made_for header_for kind_of pattern_of patterns
    product_same same =
        let (f, g) = s.lines (inr three) in
        line_by _ _ refl f g (ap (commit_to base) same) t_same (s.round three).1 (r_same _ refl refl)

  -- the line
  line_same : (i : ℕ) → RightEntry base i e → line_of base above e ≡ line_of base above e'
  line_same i (inl (one, low, blind)) =
      made_given base above e one
      ∙ ap (λ (o : Opening). made_commitment (commit_to base o)) (opening_same i (inl (one, low, blind)))
      ∙ sym (made_given base above e' (sym s.kind ∙ one))
  line_same i (inr (inl (two, first, second))) =
      let (f, g) = s.lines (inl two) in
      made_sum_law base above e two ∙ ap₂ made_sum f g ∙ sym (made_sum_law base above e' (sym s.kind ∙ two))
  line_same i (inr (inr p)) =
      made_product_law base above e p.0 ∙ product_same _ _ p.0 (opening_same i (inr (inr p)))
      ∙ sym (made_product_law base above e' (sym s.kind ∙ p.0))

-- ---- all lines

module _ (base : Base) {entries entries' : Entries} (s : SameEntries entries entries') where
  module _ (none : (write_ledger base entries).refusal ≡ 0) where
    -- the openings
    openings_same : (i : ℕ) → i ≤ entries.count → openings base.order entries i ≡ openings base.order entries' i
    unfolding openings
    openings_same zero within = refl
    openings_same (suc i) within =
        let before = openings_same i (omega arith) in
        let inside : i < entries.count = omega arith in
        ap₂ (λ (xs : List Opening) (o : Opening). xs ++ o ∷ []) before
        (opening_same base (right base entries none) (openings base.order entries i) (s.lines i inside) i
        (entries_right base entries none i inside)
        ∙ ap (λ (xs : List Opening). opening_of base.order xs (entry_at entries' i)) before)

    -- the lines
    lines_same : (i : ℕ) → i < entries.count → made_line base entries i ≡ made_line base entries' i
    unfolding made_line
    lines_same i inside =
        line_same base (right base entries none) (openings base.order entries i) (s.lines i inside) i
        (entries_right base entries none i inside)
        ∙ ap (λ (xs : List Opening). line_of base xs (entry_at entries' i)) (openings_same i (omega arith))

    -- the ledger
    ledger_same : ledger_of entries.count (made_line base entries) ≡ ledger_of entries'.count (made_line base entries')
    unfolding ledger_of
    ledger_same =
        ap (λ (xs : List Line). record { lines = xs ++ replicate (64 - entries.count) zero_line; count = entries.count })
        (tabulate_agree entries.count (made_line base entries) (made_line base entries') lines_same)
        ∙ ap (λ (n : ℕ). ledger_of n (made_line base entries')) s.count

  -- so writing answers the same
  pub entries_alone : write_ledger base entries ≡ write_ledger base entries'
  entries_alone =
      let n = number base s in
      either (write_ledger base entries).refusal (λ none.
      let l = ledger_is base entries none ∙ ledger_same none ∙ sym (ledger_is base entries' (sym n ∙ none)) in
      λ j. record { ledger = l j; refusal = n j })
      (λ some.
      let l = (ledger_refusals.writing base entries).left some in
      let l' = (ledger_refusals.writing base entries').left (subst (λ (k : ℕ). 0 < k) n some) in
      λ j. record { ledger = (l ∙ sym l') j; refusal = n j })
