-- What the checker answers if it is not refused: it tells of the lines' commitments which product line's round is the first that is not
-- accepted.
-- Assumes nothing.
use Prim.Native.Nat.{ℕ, zero, suc, ◌*◌, ◌%◌, ◌^◌, ◌<◌, ◌≤◌}
use mathlib.Core.Path.{◌≡◌, refl, sym, ap, ap₂, subst, ◌∙◌}
use mathlib.Core.Bool.{Bool, cond, false≢true}
use mathlib.Core.Logic.{inl, inr}
use native.Mathlib.Decide.{ℕ_discrete}
use native.Mathlib.Omega.{arith}
use borrow.Author.Tests.{le-ltb, lt-ltb, ne_eqb}
use lib.Dec.{ltb}
use lib.ListN.{get_or}
use Rattle.patterns.specs.Pattern.{header_for, made_for}
use Rattle.patterns.specs.Table.{kind_of, made, pattern_of, patterns}
use Rattle.rules.specs.Says.{Says}
use Rattle.rules.proofs.Determined.{below_or_not}
use Rattle.rules.proofs.Says.{says_and, says_equal, says_not}
use Rattle.sigma.specs.Answer.{is_accepted}
use Rattle.sigma.specs.Element.{Element}
use Rattle.sigma.specs.Judge.{judge_loaded}
use Rattle.sigma.specs.Meaning.{Fits}
use Rattle.sigma.specs.Valid.{Valid}
use Rattle.sigma.proofs.Calculus.{says_first, says_nowhere, says_stable}
use Rattle.sigma.proofs.CoordinateGroup.{coordinate_exponent}
use Rattle.ledgers.specs.Check.{check_ledger, checking_ledger, first_rejected, rejects_line}
use Rattle.ledgers.specs.Ledger.{commitments, line_instance, line_round, product_of}
use Rattle.ledgers.specs.LedgerHolds.{Tells}
use Rattle.ledgers.specs.Lines.{line_at}
use Rattle.ledgers.specs.Meaning.{Commits, ProductLine, RowsHold}
use Rattle.ledgers.specs.Refusals.{product_header}
use Rattle.ledgers.specs.RunsWhere.{RightLine}
use Rattle.ledgers.specs.declared.Base.{Base}
use Rattle.ledgers.specs.declared.Checked.{Checked}
use Rattle.ledgers.specs.declared.Ledger.{Ledger}
use Rattle.ledgers.specs.declared.Line.{Line}
use Rattle.ledgers.proofs.Answers.{check_value}
use Rattle.ledgers.proofs.Commitments.{commitment_of, commits_elements, found_at, names_above, our_commits}
use Rattle.ledgers.proofs.Product.{says_rows}
use Rattle.ledgers.proofs.Right.{in_group}
use Rattle.ledgers.proofs.Valid.{Sound, product_valid, sound}
use Rattle.ledgers.proofs.RunsWhere.{checks_where}

-- the round of a right product line fits the product statement
pub line_fits : (base : Base) (A B E i : ℕ) (line : Line) → line.kind ≡ 3 → RightLine base i line
    → Fits (product_of base A B E) (line_round line)
unfolding product_of made made_for header_for kind_of pattern_of patterns
line_fits base A B E i line three (inl (one, c)) = absurd (omega (arith, three, one))
line_fits base A B E i line three (inr (inl (two, first, second))) = absurd (omega (arith, three, two))
line_fits base A B E i line three (inr (inr (kind, first, second, c, t0, t1, below, r0, r1, r2))) = record {
  commitment = elements ((in_group base _).1 t0) ((in_group base _).1 t1);
  challenge = below;
  response = λ j inside. coordinate_exponent (product_header base) refl (get_or line.response j 0) (slots r0 r1 r2 j inside);
}
  where
    elements : Element (product_header base) (get_or line.t 0 0) → Element (product_header base) (get_or line.t 1 0)
        → (row : ℕ) → row < 2 → Element (product_header base) (get_or line.t row 0)
    elements a b zero inside = a
    elements a b (suc zero) inside = b
    elements a b (suc (suc row)) inside = absurd (omega arith)

    slots : get_or line.response 0 0 < base.order → get_or line.response 1 0 < base.order → get_or line.response 2 0 < base.order
        → (j : ℕ) → j < 3 → get_or line.response j 0 < base.order
    slots a b c zero inside = a
    slots a b c (suc zero) inside = b
    slots a b c (suc (suc zero)) inside = c
    slots a b c (suc (suc (suc j))) inside = absurd (omega arith)

-- rows over the same commitments
pub rows_over : (base : Base) (line : Line) {A A' B B' E E' : ℕ} → A ≡ A' → B ≡ B' → E ≡ E' → RowsHold base A B E line
    → RowsHold base A' B' E' line
rows_over base line a b e (x, y) = (
  x ∙ ap (λ (k : ℕ). get_or line.t 0 0 * k ^ line.challenge % base.modulus) a,
  ap (λ (k : ℕ). k ^ get_or line.response 0 0 * base.h ^ get_or line.response 2 0 % base.modulus) (sym b)
      ∙ y ∙ ap (λ (k : ℕ). get_or line.t 1 0 * k ^ line.challenge % base.modulus) e,
)

-- what the checker answers if nothing is refused
told_first : (base : Base) (ledger : Ledger) → (check_ledger base ledger).refusal ≡ 0 → first_rejected base ledger < ledger.count
    → check_ledger base ledger ≡ record { accepted = 0; line = first_rejected base ledger; refusal = 0 }
unfolding checking_ledger
told_first base ledger none inside = check_value base ledger none ∙ rw (lt-ltb (first_rejected base ledger) ledger.count inside)

told_none : (base : Base) (ledger : Ledger) → (check_ledger base ledger).refusal ≡ 0 → ledger.count ≤ first_rejected base ledger
    → check_ledger base ledger ≡ record { accepted = 1; line = 0; refusal = 0 }
unfolding checking_ledger
told_none base ledger none past = check_value base ledger none ∙ rw (le-ltb (first_rejected base ledger) ledger.count past)

module _ (base : Base) (ledger : Ledger) (none : (check_ledger base ledger).refusal ≡ 0) where
  -- what is right
  pub right : Sound base
  right = sound base ((checks_where base ledger).0 none).0

  pub lines : (i : ℕ) → i < ledger.count → RightLine base i (line_at ledger i)
  lines = ((checks_where base ledger).0 none).2

  -- ---- product lines, whatever the commitments

  module _ (C : ℕ → ℕ) (c : Commits base ledger C) (i A B E : ℕ) (p : ProductLine ledger C i A B E) where
    -- the statement is Valid
    pub line_valid : Valid (product_of base A B E)
    line_valid =
        let (first, second) = names_above base i (line_at ledger i) (lines i p.inside) (inr p.kind) in
        let element = commits_elements base ledger lines right C c in
        let inside = p.inside in
        let kind = p.kind in
        product_valid base right A B E (subst (Element (product_header base)) p.first (element _ (omega (arith, first, inside))))
        (subst (Element (product_header base)) p.second (element _ (omega (arith, second, inside))))
        (subst (Element (product_header base)) (c.stored i inside (λ e. omega (arith, kind, e)) ∙ p.own) (element i inside))

    -- and the round fits it
    pub product_fits : Fits (product_of base A B E) (line_round (line_at ledger i))
    product_fits = line_fits base A B E i (line_at ledger i) p.kind (lines i p.inside)

    -- so the test whether it is accepted says so in numbers
    pub line_says : Says (is_accepted (judge_loaded (product_of base A B E) (line_round (line_at ledger i)))) (RowsHold base A B E (line_at ledger i))
    line_says = says_rows base A B E line_valid (line_at ledger i) product_fits

  -- ---- the commitments of the definition

  abbrev C : ℕ → ℕ
  C = commitment_of base.modulus ledger

  pub commits : Commits base ledger C
  commits = our_commits base ledger lines

  -- a product line
  own_product : (i : ℕ) → i < ledger.count → (line_at ledger i).kind ≡ 3
      → ProductLine ledger C i (C (line_at ledger i).first) (C (line_at ledger i).second) (line_at ledger i).commitment
  own_product i inside three = record { inside = inside; kind = three; first = refl; second = refl; own = refl }

  -- line i is a product whose round is not accepted
  abbrev Rejects : ℕ → Type 0
  Rejects i = ((line_at ledger i).kind ≡ 3)
      × (¬ RowsHold base (C (line_at ledger i).first) (C (line_at ledger i).second) (line_at ledger i).commitment (line_at ledger i))

  -- its statement, of the commitments above it
  statement_is : (i : ℕ) → i < ledger.count → (line_at ledger i).kind ≡ 3
      → line_instance base (commitments base.modulus ledger i) (line_at ledger i)
      ≡ product_of base (C (line_at ledger i).first) (C (line_at ledger i).second) (line_at ledger i).commitment
  unfolding line_instance
  statement_is i inside three =
      let (first, second) = names_above base i (line_at ledger i) (lines i inside) (inr three) in
      ap₂ (λ (x y : ℕ). product_of base x y (line_at ledger i).commitment) (found_at base.modulus ledger i _ first)
      (found_at base.modulus ledger i _ second)

  -- the search's test says it
  says_rejects : (i : ℕ) → i < ledger.count
      → Says (rejects_line base (commitments base.modulus ledger i) (line_at ledger i)) (Rejects i)
  unfolding rejects_line
  says_rejects i inside = elim (ℕ_discrete (line_at ledger i).kind 3) [
    | yes three ↦
        rw (statement_is i inside three)
        (says_and (says_equal (line_at ledger i).kind 3) (says_not (line_says C commits i _ _ _ (own_product i inside three))))
    | no other ↦ rw (ne_eqb (line_at ledger i).kind 3 other) (record {
      sound = λ e. absurd (false≢true e);
      complete = λ (three, fails). absurd (other three);
    })
  ]

  -- a product line that it does not find is accepted
  holds_unless : (i A B E : ℕ) → ProductLine ledger C i A B E → ¬ Rejects i → RowsHold base A B E (line_at ledger i)
  holds_unless i A B E p accepted =
      says_stable (line_says C commits i A B E p) (λ fails. accepted (
        p.kind,
        λ holds.
            fails (rows_over base (line_at ledger i) p.first p.second p.own holds),
      ))

  -- what the checker tells
  pub tells : Tells base ledger C (check_ledger base ledger)
  unfolding first_rejected
  tells =
      let test : ℕ → Bool = λ i. rejects_line base (commitments base.modulus ledger i) (line_at ledger i) in
      let found = first_rejected base ledger in
      below_or_not found ledger.count
      (λ inside.
      let (within, (three, fails), before) = (says_first ledger.count test Rejects says_rejects found).0 (inside, refl) in
      inr (
        found,
        told_first base ledger none inside,
        (_, _, _, own_product found inside three, fails),
        λ i A B E early p. holds_unless i A B E p (before i early),
      ))
      (λ past.
      let nowhere = (says_nowhere ledger.count test Rejects says_rejects).0 past in
      inl (
        told_none base ledger none past,
        λ i A B E p. holds_unless i A B E p (nowhere i p.inside),
      ))
