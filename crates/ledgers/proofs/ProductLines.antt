-- The product lines of a ledger that is not refused are 01's: their sheets load and are pattern 5's, their rounds are judged by 01's
-- judging call, and two accepted rounds open the first factor and the product.
-- Assumes nothing.
use Prim.Native.Nat.{ℕ, ◌+◌, ◌*◌, ◌%◌, ◌^◌, ◌<◌, ◌≤◌}
use mathlib.Core.Path.{◌≡◌, refl, sym, ap, subst, ◌∙◌}
use mathlib.Core.Logic.{◌≢◌, inl, inr, ⊎_elim}
use mathlib.Core.List.{List, [], ◌∷◌}
use native.Mathlib.Omega.{arith}
use lib.ListN.{length}
use Rattle.types.specs.declared.Round.{Round}
use Rattle.types.specs.declared.Verdict.TheVariants.{Rejected}
use Rattle.formats.specs.Encode.{encode, sheet_of}
use Rattle.formats.specs.Load.{load, load_refusal}
use Rattle.formats.specs.Ours.{file_calls}
use Rattle.formats.specs.Outcome.{Puts}
use Rattle.formats.specs.Sheet.{entry_count, instance_of, sheet_length}
use Rattle.formats.proofs.Loads.{loads}
use Rattle.formats.proofs.SheetRoundTrip.{sheet_loads}
use Rattle.formats.proofs.SheetWritten.{instance_of_sheet_of}
use Rattle.formats.proofs.Writing.{encode_puts, encode_runs}
use Rattle.patterns.specs.Maker.{make_from}
use Rattle.patterns.specs.Ours.{maker_calls}
use Rattle.patterns.specs.Pattern.{header_for, made_for}
use Rattle.patterns.specs.Table.{bad_pattern, kind_of, made, pattern_of, patterns, shipped}
use Rattle.patterns.proofs.Maker.{maker_encodes}
use Rattle.patterns.proofs.Sheets.{made_read}
use Rattle.patterns.proofs.Shipped.{asks_same, same_values, shipped_passes}
use Rattle.runs.specs.Calls.{extract_witness, judge_round}
use Rattle.runs.specs.Ours.{Accepts, run_calls}
use Rattle.runs.proofs.Demand3.{sheet_extraction}
use Rattle.runs.proofs.Loaded.{judge_loaded_law}
use Rattle.runs.proofs.Protocol.{fits_judged, protocol}
use Rattle.sigma.specs.Instance.{Instance, is_exponent}
use Rattle.sigma.specs.Judge.{judge_loaded}
use Rattle.sigma.specs.Knowledge.{Witness}
use Rattle.sigma.specs.Meaning.{Fits}
use Rattle.sigma.specs.Reads.{Agree}
use Rattle.sigma.specs.Valid.{Valid}
use Rattle.ledgers.specs.Check.{check_ledger}
use Rattle.ledgers.specs.Ledger.{product_of}
use Rattle.ledgers.specs.LedgerHolds.{ProductLines}
use Rattle.ledgers.specs.Lines.{line_at}
use Rattle.ledgers.specs.Meaning.{Commits, Opens, ProductLine, RowsHold, product_sheet, round_at}
use Rattle.ledgers.specs.Ours.{ledger_calls}
use Rattle.ledgers.specs.declared.Base.{Base}
use Rattle.ledgers.specs.declared.Ledger.{Ledger}
use Rattle.ledgers.proofs.Checking.{commits, line_valid, lines, product_fits, right, tells}
use Rattle.ledgers.proofs.Commitments.{product_over}
use Rattle.ledgers.proofs.Extracts.{in_eight, witness_opens}
use Rattle.ledgers.proofs.Product.{accepts_rows, sheet_is}

-- ---- the sheet of a Valid product statement

module _ (base : Base) (A B E : ℕ) (valid : Valid (product_of base A B E)) where
  -- the sheet maker makes it
  pub product_made : (buffer : List ℕ) → 52 ≤ length buffer
      → Puts (product_sheet base A B E) buffer
      (make_from shipped 5 base.modulus base.order base.challenges (base.g ∷ base.h ∷ B ∷ []) (A ∷ E ∷ []) buffer)
  unfolding product_of bad_pattern pattern_of patterns sheet_length entry_count is_exponent made made_for header_for kind_of
  product_made buffer room =
      let values = base.g ∷ base.h ∷ B ∷ [] in
      let z = A ∷ E ∷ [] in
      let inst = product_of base A B E in
      let same = same_values 5 base.modulus base.order base.challenges values z (omega arith) (omega arith) in
      let encodes =
      maker_encodes shipped 5 base.modulus base.order base.challenges values z shipped_passes.0 shipped_passes.1
      ((asks_same 5 (omega arith) (omega arith)).counts values z) buffer
      ∙ ap (λ (i : Instance). encode i buffer) same in
      rw (sheet_is base A B E)
      (subst (Puts (sheet_of inst) buffer) (sym encodes) (encode_puts inst buffer ((encode_runs inst buffer).1 (valid, room))))

  module _ (small : base.modulus < 2 ^ 32) (short : base.order < 2 ^ 32) where
    -- it loads
    pub product_loads : load_refusal (product_sheet base A B E) ≡ 0
    unfolding product_of made made_for header_for
    product_loads = rw (sheet_is base A B E) ((loads _).1 (sheet_loads (product_of base A B E) valid small short))

    -- as its values
    pub product_values_law : instance_of (product_sheet base A B E) ≡ product_of base A B E
    unfolding product_of made made_for header_for kind_of pattern_of patterns
    product_values_law =
        ap instance_of (sheet_is base A B E) ∙ instance_of_sheet_of (product_of base A B E) valid small short
        ∙ made_read 1 (pattern_of 5) base.modulus base.order base.challenges _ _ refl

    -- 01's judging call judges its rounds
    pub product_judged : (round : Round) → judge_round (product_sheet base A B E) round ≡ judge_loaded (product_of base A B E) round
    product_judged round =
        judge_loaded_law (product_sheet base A B E) product_loads round
        ∙ ap (λ (i : Instance). judge_loaded i round) product_values_law

    -- two accepted rounds open the first factor and the product
    pub product_opens : base.g ^ base.order % base.modulus ≡ 1 → base.h ^ base.order % base.modulus ≡ 1 → (first second : Round)
        → Accepts (product_sheet base A B E) first → Accepts (product_sheet base A B E) second
        → Agree 2 first.commitment second.commitment → first.challenge ≢ second.challenge
        → (b β : ℕ) → B ≡ base.g ^ b * base.h ^ β % base.modulus
        → (a : ℕ) × (α : ℕ) × (δ : ℕ)
        × (extract_witness (product_sheet base A B E) first second
        ≡ record { values = a ∷ α ∷ δ ∷ 0 ∷ 0 ∷ 0 ∷ 0 ∷ 0 ∷ []; refusal = 0 })
        × Opens base A a α × Opens base E (a * b % base.order) ((a * β + δ) % base.order)
    unfolding product_of made made_for header_for pattern_of patterns
    product_opens gq hq first second accepts accepts' agree apart b β known =
        let sheet = product_sheet base A B E in
        let order = valid.table.order in
        let e = sheet_extraction sheet product_loads first second (record {
          first_accepted = accepts;
          second_accepted = accepts';
          commitments = λ j inside. agree j (subst (λ (i : Instance). j < i.header.rows) product_values_law inside);
          challenges = apart;
        }) in
        let (a, α, δ, same, one, whole) =
        witness_opens base A B E gq hq (omega (arith, order)) e.value
        (subst (λ (i : Instance). Witness i e.value) product_values_law e.witness) b β known in
        (a, α, δ, e.answer ∙ in_eight e.value a α δ same, one, whole)

-- ---- the lines of a ledger

module _ (base : Base) (ledger : Ledger) (small : base.modulus < 2 ^ 32) (short : base.order < 2 ^ 32)
    (none : (check_ledger base ledger).refusal ≡ 0) where
  module _ (C : ℕ → ℕ) (c : Commits base ledger C) where
    -- the round of a line that holds is accepted
    line_accepts : (i A B E : ℕ) → ProductLine ledger C i A B E → RowsHold base A B E (line_at ledger i)
        → Accepts (product_sheet base A B E) (round_at ledger i)
    line_accepts i A B E p holds =
        let valid = line_valid base ledger none C c i A B E p in
        product_judged base A B E valid small short (round_at ledger i)
        ∙ (accepts_rows base A B E valid (line_at ledger i) (product_fits base ledger none C c i A B E p)).1 holds

    -- and that of one that does not is rejected
    line_rejects : (i A B E : ℕ) → ProductLine ledger C i A B E → ¬ RowsHold base A B E (line_at ledger i)
        → (mask : ℕ) × (judge_round (product_sheet base A B E) (round_at ledger i) ≡ Rejected mask)
    line_rejects i A B E p fails =
        let sheet = product_sheet base A B E in
        let valid = line_valid base ledger none C c i A B E p in
        let fits = product_fits base ledger none C c i A B E p in
        let loaded = product_loads base A B E valid small short in
        let values = product_values_law base A B E valid small short in
        let passed = fits_judged sheet loaded (round_at ledger i) (subst (λ (inst : Instance). Fits inst (round_at ledger i)) (sym values) fits) in
        ⊎_elim (λ accepts.
        absurd (fails ((accepts_rows base A B E valid (line_at ledger i) fits).0
        (sym (product_judged base A B E valid small short (round_at ledger i)) ∙ accepts)))) (λ rejected. rejected)
        ((protocol sheet loaded).verdicts (round_at ledger i) passed).decided

    pub product_lines : ProductLines file_calls run_calls maker_calls ledger_calls base ledger C
    unfolding load product_of
    product_lines =
        let ours = commits base ledger none in
        let valid = line_valid base ledger none C c in
        let over = product_over base ledger (lines base ledger none) _ C ours c in
        let back = product_over base ledger (lines base ledger none) C _ c ours in
        record {
          loads = λ i A B E p. product_loads base A B E (valid i A B E p) small short;
          values = λ i A B E p. product_values_law base A B E (valid i A B E p) small short;
          pattern = λ i A B E p. product_made base A B E (valid i A B E p);
          judged =
              ⊎_elim (λ (told, all). inl (told, λ i A B E p. line_accepts i A B E p (all i A B E (back i A B E p))))
              (λ (k, told, (A, B, E, p, fails), before). inr (
                k,
                told,
                (A, B, E, over k A B E p, line_rejects k A B E (over k A B E p) fails),
                λ i A' B' E' early p'. line_accepts i A' B' E' p' (before i A' B' E' early (back i A' B' E' p')),
              ))
              (tells base ledger none);
          opens = λ i A B E p second accepts accepts' agree apart b β known.
              let sound = right base ledger none in
              product_opens base A B E (valid i A B E p) small short (sound.g.ordered refl) (sound.h.ordered refl)
              (round_at ledger i) second accepts accepts' agree apart b β known;
        }
