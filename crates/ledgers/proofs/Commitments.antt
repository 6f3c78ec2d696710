-- The commitments of a ledger's lines: the definition's are such, there are no others, and they are group elements.
-- Assumes nothing.
use Prim.Native.Nat.{ℕ, zero, suc, ◌*◌, ◌%◌, ◌<◌, ◌≤◌}
use mathlib.Core.Path.{◌≡◌, refl, sym, ap, ap₂, subst, ◌∙◌}
use mathlib.Core.Logic.{◌⊎◌, inl, inr}
use mathlib.Core.List.{[]}
use native.Mathlib.Decide.{ℕ_discrete, dec_lt}
use native.Mathlib.Omega.{arith}
use borrow.Author.Tests.{eq-eqb, ne_eqb}
use lib.ListN.{get_or-append, get_or, length, length-append}
use lib.Seq.{get_or_at}
use Rattle.sigma.specs.Element.{Element}
use Rattle.sigma.proofs.ElementGroup.{element_product}
use Rattle.ledgers.specs.Ledger.{commitments, line_commitment}
use Rattle.ledgers.specs.Lines.{line_at}
use Rattle.ledgers.specs.Meaning.{Commits, ProductLine}
use Rattle.ledgers.specs.Refusals.{product_header}
use Rattle.ledgers.specs.RunsWhere.{RightLine}
use Rattle.ledgers.specs.declared.Base.{Base}
use Rattle.ledgers.specs.declared.Ledger.{Ledger}
use Rattle.ledgers.specs.declared.Line.{Line}
use Rattle.ledgers.proofs.Right.{in_group}
use Rattle.ledgers.proofs.Valid.{Sound}

-- what holds of every line of which it holds of all lines above holds of all
pub by_lines : (P : ℕ → Type 0) (n : ℕ) → ((i : ℕ) → i < n → ((k : ℕ) → k < i → P k) → P i) → (i : ℕ) → i < n → P i
by_lines P n next i inside = next i inside (below i (omega arith))
  where
    below : (k : ℕ) → k ≤ n → (j : ℕ) → j < k → P j
    below zero within j early = absurd (omega arith)
    below (suc k) within j early = next j (omega arith) (λ l less. below k (omega arith) l (omega arith))

-- a right line that is a sum or a product names lines above it
pub names_above : (base : Base) (i : ℕ) (line : Line) → RightLine base i line → (line.kind ≡ 2) ⊎ (line.kind ≡ 3)
    → (line.first < i) × (line.second < i)
names_above base i line (inl (one, c)) (inl e) = absurd (omega (arith, one, e))
names_above base i line (inl (one, c)) (inr e) = absurd (omega (arith, one, e))
names_above base i line (inr (inl (two, first, second))) joins = (first, second)
names_above base i line (inr (inr p)) joins = (p.1, p.2)

module _ (m : ℕ) (ledger : Ledger) where
  pub length_commitments : (i : ℕ) → length (commitments m ledger i) ≡ i
  unfolding commitments
  length_commitments zero = refl
  length_commitments (suc i) = length-append (commitments m ledger i) _ ∙ omega (arith, length_commitments i)

  -- the commitment of line i by the definition
  abbrev pub commitment_of : ℕ → ℕ
  commitment_of i = line_commitment m (commitments m ledger i) (line_at ledger i)

  -- it stands in every list of more commitments
  pub found_at : (i k : ℕ) → k < i → get_or (commitments m ledger i) k 0 ≡ commitment_of k
  unfolding commitments
  found_at zero k inside = absurd (omega arith)
  found_at (suc i) k inside = elim (dec_lt k i) [
    | yes early ↦
        get_or-append (commitments m ledger i) _ 0 k (omega (arith, length_commitments i)) ∙ found_at i k early
    | no late ↦
        let same : i ≡ k = omega arith in
        get_or_at (commitments m ledger i) _ [] 0 k (length_commitments i ∙ same) ∙ ap commitment_of same
  ]

module _ (base : Base) (ledger : Ledger) (lines : (i : ℕ) → i < ledger.count → RightLine base i (line_at ledger i)) where
  -- the definition's are commitments of the lines
  pub our_commits : Commits base ledger (commitment_of base.modulus ledger)
  unfolding line_commitment
  our_commits = record {
    stored = λ i inside other. rw (ne_eqb (line_at ledger i).kind 2 other);
    multiplied = λ i inside two.
        let (first, second) = names_above base i (line_at ledger i) (lines i inside) (inl two) in
        let m = base.modulus in
        rw (eq-eqb (line_at ledger i).kind 2 two)
        (ap₂ (λ (x y : ℕ). x * y % m) (found_at m ledger i (line_at ledger i).first first)
        (found_at m ledger i (line_at ledger i).second second));
  }

  -- there are no others
  pub commits_only : (C C' : ℕ → ℕ) → Commits base ledger C → Commits base ledger C' → (i : ℕ) → i < ledger.count → C i ≡ C' i
  commits_only C C' c c' =
      by_lines (λ i. C i ≡ C' i) ledger.count (λ i inside before. elim (ℕ_discrete (line_at ledger i).kind 2) [
        | yes two ↦
            let (first, second) = names_above base i (line_at ledger i) (lines i inside) (inl two) in
            c.multiplied i inside two
            ∙ ap₂ (λ (x y : ℕ). x * y % base.modulus) (before (line_at ledger i).first first) (before (line_at ledger i).second second)
            ∙ sym (c'.multiplied i inside two)
        | no other ↦ c.stored i inside other ∙ sym (c'.stored i inside other)
      ])

  -- so a product line over some is one over others
  pub product_over : (C C' : ℕ → ℕ) → Commits base ledger C → Commits base ledger C' → (i A B E : ℕ) → ProductLine ledger C i A B E
      → ProductLine ledger C' i A B E
  product_over C C' c c' i A B E p =
      let inside = p.inside in
      let same = commits_only C' C c' c in
      let (first, second) = names_above base i (line_at ledger i) (lines i inside) (inr p.kind) in
      record {
        inside = inside;
        kind = p.kind;
        first = same _ (omega (arith, first, inside)) ∙ p.first;
        second = same _ (omega (arith, second, inside)) ∙ p.second;
        own = p.own;
      }

  -- they are group elements
  pub commits_elements : Sound base → (C : ℕ → ℕ) → Commits base ledger C → (i : ℕ) → i < ledger.count
      → Element (product_header base) (C i)
  commits_elements right C c =
      by_lines (λ i. Element (product_header base) (C i)) ledger.count (λ i inside before. next i inside before (lines i inside))
    where
      next : (i : ℕ) → i < ledger.count → ((k : ℕ) → k < i → Element (product_header base) (C k)) → RightLine base i (line_at ledger i)
          → Element (product_header base) (C i)
      next i inside before (inl (one, element)) =
          subst (Element (product_header base)) (sym (c.stored i inside (λ e. omega (arith, one, e)))) ((in_group base _).1 element)
      next i inside before (inr (inl (two, first, second))) =
          subst (Element (product_header base)) (sym (c.multiplied i inside two))
          (element_product (product_header base) (omega (arith, right.modulus)) (omega (arith, right.order)) _ _
          (before (line_at ledger i).first first) (before (line_at ledger i).second second))
      next i inside before (inr (inr p)) =
          subst (Element (product_header base)) (sym (c.stored i inside (λ e. omega (arith, p.0, e)))) ((in_group base _).1 p.3)
