-- A ledger that the writer makes: each line's commitment opens to its value, the checker accepts it, and its rounds are 01's honest ones.
-- Assumes nothing.
use Prim.Native.Nat.{ℕ, ◌+◌, ◌*◌, ◌%◌, ◌^◌, ◌<◌}
use mathlib.Core.Path.{◌≡◌, refl, sym, ap, ap₂, subst, ◌∙◌}
use mathlib.Core.Logic.{◌≢◌, inl, inr, ⊎_elim}
use mathlib.Core.List.{List, [], ◌∷◌}
use native.Mathlib.Nat.{mod-lt, mul-mul-mul_comm}
use native.Mathlib.Omega.{arith}
use lib.ListN.{get_or}
use lib.Pow.{pow-add}
use Rattle.types.specs.declared.Round.{Round}
use Rattle.lists.specs.Places.{places}
use Rattle.lists.proofs.Places.{get_d_pad8}
use Rattle.numbers.proofs.Congruence.{◌then◌, cong_mod, cong_mul, cong_of_equal, cong_sym}
use Rattle.numbers.proofs.Powers.{cong_pow_mod}
use Rattle.formats.specs.Ours.{file_calls}
use Rattle.formats.specs.Sheet.{instance_of}
use Rattle.patterns.specs.Ours.{maker_calls}
use Rattle.patterns.specs.Pattern.{header_for, made_for}
use Rattle.patterns.specs.Table.{made as made_by}
use Rattle.runs.specs.OnSheet.{Below}
use Rattle.runs.specs.Ours.{honest_round, run_calls}
use Rattle.runs.proofs.Demand3.{honest_is, sheet_honest_runs}
use Rattle.sigma.specs.Element.{Element}
use Rattle.sigma.specs.Image.{image}
use Rattle.sigma.specs.Instance.{Instance, table_of}
use Rattle.sigma.specs.Knowledge.{Choice, Witness}
use Rattle.sigma.specs.Round.{response}
use Rattle.ledgers.specs.Check.{check_ledger}
use Rattle.ledgers.specs.Ledger.{product_of}
use Rattle.ledgers.specs.LedgerHolds.{Honest, MadeOf}
use Rattle.ledgers.specs.Lines.{entry_at, line_at}
use Rattle.ledgers.specs.Meaning.{Commits, Opens, ProductEntry, ProductLine, RowsHold, Values, committed, product_sheet}
use Rattle.ledgers.specs.Ours.{ledger_calls}
use Rattle.ledgers.specs.Refusals.{product_header}
use Rattle.ledgers.specs.RunsWhere.{InGroup, RightEntry, RightLine}
use Rattle.ledgers.specs.Write.{ledger_of, write_ledger}
use Rattle.ledgers.specs.declared.Base.{Base}
use Rattle.ledgers.specs.declared.Entries.{Entries}
use Rattle.ledgers.specs.declared.Ledger.{Ledger}
use Rattle.ledgers.specs.declared.Line.{Line}
use Rattle.ledgers.proofs.Checking.{commits, rows_over, tells}
use Rattle.ledgers.proofs.Commitments.{by_lines}
use Rattle.ledgers.proofs.Honest.{
  committed_element,
  factors_hold,
  factors_valid,
  factors_witness,
  nonce_slots,
  r_numbers,
  t_numbers,
}
use Rattle.ledgers.proofs.Made.{powers_element}
use Rattle.ledgers.proofs.Openings.{entry_above, entry_over, values_below, values_only}
use Rattle.ledgers.proofs.ProductLines.{product_loads, product_values_law}
use Rattle.ledgers.proofs.Right.{in_group}
use Rattle.ledgers.proofs.RunsWhere.{checks_where, writes_where}
use Rattle.ledgers.proofs.Valid.{Sound}
use Rattle.ledgers.proofs.Writing.{difference_at, entries_right, few, ledger, ledger_is, made_of, right, v, values, ρ}

-- two commitments multiplied are that of the sums mod q
commit_sum : (base : Base) → Sound base → (a α b β : ℕ)
    → committed base a α * committed base b β % base.modulus ≡ committed base ((a + b) % base.order) ((α + β) % base.order)
commit_sum base right a α b β =
    let m = base.modulus in
    let q = base.order in
    let g = base.g in
    let h = base.h in
    let whole : g ^ a * h ^ α * (g ^ b * h ^ β) ≡ g ^ (a + b) * h ^ (α + β) =
    mul-mul-mul_comm (g ^ a) (h ^ α) (g ^ b) (h ^ β) ∙ ap₂ (λ (x y : ℕ). x * y) (sym (pow-add g a b)) (sym (pow-add h α β)) in
    (cong_mul (cong_mod m (g ^ a * h ^ α)) (cong_mod m (g ^ b * h ^ β)) then cong_of_equal m whole
    then cong_sym (cong_mul (cong_pow_mod m q g (right.g.ordered refl) (a + b)) (cong_pow_mod m q h (right.h.ordered refl) (α + β)))).same

module _ (base : Base) (entries : Entries) (none : (write_ledger base entries).refusal ≡ 0) where
  abbrev made : Ledger
  made = ledger base entries none

  abbrev value : ℕ → ℕ
  value = v base entries none

  abbrev blinding : ℕ → ℕ
  blinding = ρ base entries none

  of : MadeOf base entries value blinding made
  of = made_of base entries none

  -- ---- commitments

  -- each is that of the entry's value and blinding number
  made_commits : (C : ℕ → ℕ) → Commits base made C → (i : ℕ) → i < entries.count → C i ≡ committed base (value i) (blinding i)
  unfolding ledger_of
  made_commits C c =
      by_lines (λ i. C i ≡ committed base (value i) (blinding i)) entries.count
      (λ i inside before. next i inside before (entries_right base entries none i inside))
    where
      own : (i : ℕ) → i < entries.count → (line : Line) → line_at made i ≡ line → line.kind ≢ 2 → C i ≡ line.commitment
      own i inside line is other =
          c.stored i inside (λ two. other (sym (ap (λ (l : Line). l.kind) is) ∙ two)) ∙ ap (λ (l : Line). l.commitment) is

      next : (i : ℕ) → i < entries.count → ((k : ℕ) → k < i → C k ≡ committed base (value k) (blinding k))
          → RightEntry base i (entry_at entries i) → C i ≡ committed base (value i) (blinding i)
      next i inside before (inl (one, low, blind)) = own i inside _ (of.commitments i inside one) (λ e. omega (arith, e))
      next i inside before (inr (inl (two, first, second))) =
          let is = of.sums i inside two in
          let (added, blinded) = (values base entries none).added i inside two in
          c.multiplied i inside (ap (λ (l : Line). l.kind) is)
          ∙ ap (λ (l : Line). C l.first * C l.second % base.modulus) is
          ∙ ap₂ (λ (x y : ℕ). x * y % base.modulus) (before (entry_at entries i).first first) (before (entry_at entries i).second second)
          ∙ commit_sum base (right base entries none) _ _ _ _
          ∙ ap₂ (λ (x y : ℕ). committed base x y) (sym added) (sym blinded)
      next i inside before (inr (inr p)) =
          let (a, α, b, β, δ, product) = difference_at base entries none i inside p.0 in
          own i inside _ (of.products i a α b β δ product) (λ e. omega (arith, e))

  -- so it opens to them
  pub made_opens : (v ρ C : ℕ → ℕ) → Values base entries v ρ → Commits base (write_ledger base entries).ledger C
      → (i : ℕ) → i < entries.count → Opens base (C i) (v i) (ρ i)
  made_opens v ρ C vs c i inside =
      let lines = entries_right base entries none in
      let (same, same') = values_only base entries lines _ _ v ρ (values base entries none) vs i inside in
      let (low, blind) = values_below base entries lines (right base entries none).order v ρ vs i inside in
      record {
        opened =
            made_commits C (subst (λ (l : Ledger). Commits base l C) (ledger_is base entries none) c) i inside
            ∙ ap₂ (λ (x y : ℕ). committed base x y) same same';
        value_below = low;
        blinding_below = blind;
      }

  -- ---- the checker

  -- each line is right
  made_right : (i : ℕ) → i < entries.count → RightLine base i (line_at made i)
  made_right i inside = which (entries_right base entries none i inside)
    where
      in_it : (x : ℕ) → Element (product_header base) x → InGroup base x
      in_it x = (in_group base x).0

      which : RightEntry base i (entry_at entries i) → RightLine base i (line_at made i)
      which (inl (one, low, blind)) =
          subst (RightLine base i) (sym (of.commitments i inside one))
          (inl (refl, in_it _ (committed_element base (right base entries none) _ _)))
      which (inr (inl (two, first, second))) =
          subst (RightLine base i) (sym (of.sums i inside two)) (inr (inl (refl, first, second)))
      which (inr (inr (three, first, second, blind, c, k0, k1, k2))) =
          let sound = right base entries none in
          let order = sound.order in
          let some : 0 < base.order = omega (arith, order) in
          let (a, α, b, β, δ, product) = difference_at base entries none i inside three in
          subst (RightLine base i) (sym (of.products i a α b β δ product))
          (inr (inr (
            refl,
            first,
            second,
            in_it _ (committed_element base sound _ _),
            in_it _ (committed_element base sound _ _),
            in_it _ (powers_element base sound _ _ _ _ (committed_element base sound b β) sound.h),
            c,
            mod-lt _ some,
            mod-lt _ some,
            mod-lt _ some,
          )))

  -- so the checker does not refuse the ledger
  pub made_runs : (check_ledger base made).refusal ≡ 0
  unfolding ledger_of
  made_runs = (checks_where base made).1 (((writes_where base entries).0 none).0, few base entries none, made_right)

  -- an entry whose line is a product is one
  product_entry : (i : ℕ) → i < entries.count → (line_at made i).kind ≡ 3 → (entry_at entries i).kind ≡ 3
  product_entry i inside three = which (entries_right base entries none i inside)
    where
      other : (line : Line) → line_at made i ≡ line → line.kind ≢ 3 → (entry_at entries i).kind ≡ 3
      other line is not = absurd (not (sym (ap (λ (l : Line). l.kind) is) ∙ three))

      which : RightEntry base i (entry_at entries i) → (entry_at entries i).kind ≡ 3
      which (inl (one, low, blind)) = other _ (of.commitments i inside one) (λ e. omega (arith, e))
      which (inr (inl (two, first, second))) = other _ (of.sums i inside two) (λ e. omega (arith, e))
      which (inr (inr p)) = p.0

  -- the factors of a product entry are below q, its challenge below K and its nonce slots below q
  factor_below : (i a α b β δ : ℕ) → ProductEntry base entries value blinding i a α b β δ → (a < base.order) × (α < base.order)
  factor_below i a α b β δ p =
      let lines = entries_right base entries none in
      let inside = p.inside in
      let (first, second) = entry_above base i (entry_at entries i) (lines i inside) (inr p.kind) in
      let (low, blind) =
      values_below base entries lines (right base entries none).order value blinding (values base entries none) (entry_at entries i).first
      (omega (arith, first, inside)) in
      (subst (λ (k : ℕ). k < base.order) p.first.0 low, subst (λ (k : ℕ). k < base.order) p.first.1 blind)

  round_below : (i : ℕ) → i < entries.count → (entry_at entries i).kind ≡ 3
      → ((entry_at entries i).challenge < base.challenges) × (get_or (entry_at entries i).nonce 0 0 < base.order)
      × (get_or (entry_at entries i).nonce 1 0 < base.order) × (get_or (entry_at entries i).nonce 2 0 < base.order)
  round_below i inside three = which (entries_right base entries none i inside)
    where
      which : RightEntry base i (entry_at entries i)
          → ((entry_at entries i).challenge < base.challenges) × (get_or (entry_at entries i).nonce 0 0 < base.order)
          × (get_or (entry_at entries i).nonce 1 0 < base.order) × (get_or (entry_at entries i).nonce 2 0 < base.order)
      which (inl (one, low, blind)) = absurd (omega (arith, three, one))
      which (inr (inl (two, first, second))) = absurd (omega (arith, three, two))
      which (inr (inr p)) = (p.4, p.5, p.6, p.7)

  -- the rows of a product line hold
  made_holds : (C : ℕ → ℕ) → Commits base made C → (i A B E : ℕ) → ProductLine made C i A B E → RowsHold base A B E (line_at made i)
  unfolding ledger_of
  made_holds C c i A B E p =
      let inside = p.inside in
      let three = product_entry i inside p.kind in
      let (a, α, b, β, δ, product) = difference_at base entries none i inside three in
      let is = of.products i a α b β δ product in
      let (first, second) = entry_above base i (entry_at entries i) (entries_right base entries none i inside) (inr three) in
      let (low, blind) = factor_below i a α b β δ product in
      let (few, k0, k1, k2) = round_below i inside three in
      let (multiplied, given) = (values base entries none).multiplied i inside three in
      let to_A : committed base a α ≡ A =
      ap₂ (λ (x y : ℕ). committed base x y) (sym product.first.0) (sym product.first.1)
      ∙ sym (made_commits C c _ (omega (arith, first, inside))) ∙ sym (ap (λ (l : Line). C l.first) is) ∙ p.first in
      let to_B : committed base b β ≡ B =
      ap₂ (λ (x y : ℕ). committed base x y) (sym product.second.0) (sym product.second.1)
      ∙ sym (made_commits C c _ (omega (arith, second, inside))) ∙ sym (ap (λ (l : Line). C l.second) is) ∙ p.second in
      let to_E : committed base (a * b % base.order) ((a * β + δ) % base.order) ≡ E =
      ap₂ (λ (x y : ℕ). committed base x y)
      (ap₂ (λ (x y : ℕ). x * y % base.order) (sym product.first.0) (sym product.second.0) ∙ sym multiplied)
      (product.own ∙ sym given)
      ∙ sym (ap (λ (l : Line). l.commitment) is) ∙ p.own in
      rows_over base (line_at made i) to_A to_B to_E
      (factors_hold base (right base entries none) a α b β δ low blind product.below (entry_at entries i).challenge few
      (entry_at entries i).nonce k0 k1 k2 (line_at made i) (ap (λ (l : Line). l.t) is) (ap (λ (l : Line). l.challenge) is)
      (ap (λ (l : Line). l.response) is))

  -- so the checker accepts
  pub made_accepted : check_ledger base (write_ledger base entries).ledger ≡ record { accepted = 1; line = 0; refusal = 0 }
  made_accepted =
      ap (check_ledger base) (ledger_is base entries none)
      ∙ ⊎_elim (λ (told, all). told) (λ (k, told, (A, B, E, p, fails), before).
      absurd (fails (made_holds _ (commits base made made_runs) k A B E p))) (tells base made made_runs)

  -- ---- honest rounds

  -- line i as it is written
  written_line : (i a α b β δ : ℕ) → ProductEntry base entries value blinding i a α b β δ
      → ((line_at (write_ledger base entries).ledger i).t
      ≡ base.g ^ get_or (entry_at entries i).nonce 0 0 * base.h ^ get_or (entry_at entries i).nonce 1 0 % base.modulus ∷
      committed base b β ^ get_or (entry_at entries i).nonce 0 0 * base.h ^ get_or (entry_at entries i).nonce 2 0 % base.modulus ∷ [])
      × ((line_at (write_ledger base entries).ledger i).response
      ≡ (get_or (entry_at entries i).nonce 0 0 + (entry_at entries i).challenge * a) % base.order ∷
      (get_or (entry_at entries i).nonce 1 0 + (entry_at entries i).challenge * α) % base.order ∷
      (get_or (entry_at entries i).nonce 2 0 + (entry_at entries i).challenge * δ) % base.order ∷ [])
  written_line i a α b β δ p =
      let is = ap (λ (l : Ledger). line_at l i) (ledger_is base entries none) ∙ of.products i a α b β δ p in
      (ap (λ (l : Line). l.t) is, ap (λ (l : Line). l.response) is)

  module _ (small : base.modulus < 2 ^ 32) (short : base.order < 2 ^ 32) where
    -- the round of a product line is that of Peggy
    honest_line : (i a α b β δ : ℕ) → ProductEntry base entries value blinding i a α b β δ
        → Honest file_calls run_calls maker_calls ledger_calls base entries i
        (product_sheet base (committed base a α) (committed base b β)
        (committed base (a * b % base.order) ((a * β + δ) % base.order)))
        (a ∷ α ∷ δ ∷ [])
    unfolding honest_round product_of made_by made_for header_for
    honest_line i a α b β δ p =
        let sound = right base entries none in
        let c = (entry_at entries i).challenge in
        let nonce = (entry_at entries i).nonce in
        let x = a ∷ α ∷ δ ∷ [] in
        let (low, blind) = factor_below i a α b β δ p in
        let (few, k0, k1, k2) = round_below i p.inside p.kind in
        let valid = factors_valid base sound a α b β δ low blind p.below in
        let sheet = product_sheet base (committed base a α) (committed base b β)
        (committed base (a * b % base.order) ((a * β + δ) % base.order)) in
        let loaded = product_loads base _ _ _ valid small short in
        let same = product_values_law base _ _ _ valid small short in
        let w : Witness (instance_of sheet) x =
        subst (λ (inst : Instance). Witness inst x) (sym same) (factors_witness base sound a α b β δ low blind p.below) in
        let below : Below sheet c = subst (λ (inst : Instance). c < inst.header.challenges) (sym same) few in
        let slots : Choice (instance_of sheet) (places 3 nonce) =
        subst (λ (inst : Instance). Choice inst (places 3 nonce)) (sym same)
        (nonce_slots base sound a α b β δ low blind p.below c few nonce k0 k1 k2) in
        let (commits, responds) = sheet_honest_runs sheet loaded c below x w (places 3 nonce) slots in
        let is = honest_is sheet loaded c below x w (places 3 nonce) slots in
        let (t, r) = written_line i a α b β δ p in
        record {
          witness = w;
          commits = commits;
          responds = responds;
          commitment = λ j inside.
              ap (λ (ts : List ℕ). get_or ts j 0)
              (t ∙ sym (t_numbers base sound a α b β δ low blind p.below c few nonce))
              ∙ ap (λ (inst : Instance). get_or (image (table_of inst) (places 3 nonce)) j 0) (sym same)
              ∙ sym (get_d_pad8 0 (image (table_of (instance_of sheet)) (places 3 nonce)) j)
              ∙ sym (ap (λ (round : Round). get_or round.commitment j 0) is);
          response = λ j inside.
              ap (λ (rs : List ℕ). get_or rs j 0)
              (r ∙ sym (r_numbers base sound a α b β δ low blind p.below c few nonce))
              ∙ ap (λ (inst : Instance). get_or (response inst.header (places 3 nonce) c x) j 0) (sym same)
              ∙ sym (get_d_pad8 0 (response (instance_of sheet).header (places 3 nonce) c x) j)
              ∙ sym (ap (λ (round : Round). get_or round.response j 0) is);
        }

    pub made_honest : (v ρ : ℕ → ℕ) → Values base entries v ρ → (i a α b β δ : ℕ) → ProductEntry base entries v ρ i a α b β δ
        → Honest file_calls run_calls maker_calls ledger_calls base entries i
        (product_sheet base (committed base a α) (committed base b β)
        (committed base (a * b % base.order) (entry_at entries i).blinding))
        (a ∷ α ∷ δ ∷ [])
    made_honest v ρ vs i a α b β δ p =
        subst (λ (ε : ℕ). Honest file_calls run_calls maker_calls ledger_calls base entries i
        (product_sheet base (committed base a α) (committed base b β) (committed base (a * b % base.order) ε)) (a ∷ α ∷ δ ∷ []))
        p.own
        (honest_line i a α b β δ
        (entry_over base entries (entries_right base entries none) v ρ _ _ vs (values base entries none) i a α b β δ p))
