-- What it means that a rule does not apply: the conditions of Tests in the form that a call goes on with.
-- Assumes nothing.
use Prim.Native.Nat.{ℕ, ◌<◌, ◌≤◌, ◌∣◌}
use mathlib.Core.Path.{◌≡◌, sym, ◌∙◌}
use mathlib.Core.Logic.{◌↔◌, ◌⊎◌, inl, inr, ⊎_elim}
use mathlib.Core.Bool.{false}
use mathlib.Core.List.{List}
use native.Mathlib.Omega.{arith}
use lib.ListN.{get_or}
use borrow.Author.Tests.{leb-false, lt-leb, ltb-false, le-ltb}
use Rattle.types.specs.declared.Header.{Header}
use Rattle.rules.proofs.Says.{says_equal, says_or, says_false}
use Rattle.sigma.specs.Instance.{Instance, table_of, entry, statement_at}
use Rattle.sigma.specs.Element.{some_non_element, some_non_coordinate, Element}
use Rattle.sigma.specs.Image.{row_image, image}
use Rattle.sigma.specs.Admission.{bad_kind, bad_modulus, bad_order, bad_size, bad_count, bad_entries, bad_statement}
use Rattle.sigma.specs.Meaning.{Elements, Coordinates}
use Rattle.sigma.specs.Round.{bad_commitment, bad_challenge, bad_coordinates, bad_witness}
use Rattle.sigma.proofs.Values.{image_at}
use Rattle.sigma.proofs.Calculus.{says_passes, says_stable, all_pass}
use Rattle.sigma.proofs.Comparison.{differ_false}
use Rattle.sigma.proofs.Tests.{says_element, says_coordinate}
use Rattle.sigma.proofs.Tests.{says_bad_size, says_bad_count, says_bad_entries}

-- ---- the fixed fields

-- not 4: the kind is 1 or 2
pub kind_passes : (h : Header) → (bad_kind h ≡ false) ↔ ((h.kind ≡ 1) ⊎ (h.kind ≡ 2))
unfolding bad_kind
kind_passes h = says_passes (says_or (says_equal h.kind 1) (says_equal h.kind 2))

-- not 5: the modulus is at least 3
pub modulus_passes : (h : Header) → (bad_modulus h ≡ false) ↔ (3 ≤ h.modulus)
unfolding bad_modulus
modulus_passes h = (ltb-false h.modulus 3, le-ltb h.modulus 3)

-- not 6: ℓ is at least 2
pub order_passes : (h : Header) → (bad_order h ≡ false) ↔ (2 ≤ h.order)
unfolding bad_order
order_passes h = (ltb-false h.order 2, le-ltb h.order 2)

-- not 7: rows and columns lie in 1 to 8, and are the same in kind 2
pub size_passes : (h : Header) → (bad_size h ≡ false)
    ↔ ((1 ≤ h.rows) × (h.rows ≤ 8) × (1 ≤ h.columns) × (h.columns ≤ 8) × (h.kind ≡ 2 → h.rows ≡ h.columns))
size_passes h =
    let fails = says_false (says_bad_size h) in (
      λ e.
          let none = fails.0 e in
          let a : ¬ (h.rows < 1) = λ l. none (inl l) in
          let b : ¬ (8 < h.rows) = λ l. none (inr (inl l)) in
          let c : ¬ (h.columns < 1) = λ l. none (inr (inr (inl l))) in
          let d : ¬ (8 < h.columns) = λ l. none (inr (inr (inr (inl l)))) in
          let same = says_equal h.rows h.columns in
          (omega arith, omega arith, omega arith, omega arith, λ k. says_stable same (λ n. none (inr (inr (inr (inr (k, n))))))),
      λ s.
          fails.1
          (⊎_elim (λ l. omega arith)
          (⊎_elim (λ l. omega arith) (⊎_elim (λ l. omega arith) (⊎_elim (λ l. omega arith) (λ x. x.1 (s.4 x.0)))))),
    )

-- not 8: K lies in 2 to 65,536, and no d with 2 ≤ d < K divides ℓ
pub count_passes : (h : Header) → (bad_count h ≡ false)
    ↔ ((2 ≤ h.challenges) × (h.challenges ≤ 65536) × ((d : ℕ) → 2 ≤ d → d < h.challenges → ¬ (d ∣ h.order)))
count_passes h =
    let fails = says_false (says_bad_count h) in (
      λ e.
          let none = fails.0 e in
          let a : ¬ (h.challenges < 2) = λ l. none (inl l) in
          let b : ¬ (65536 < h.challenges) = λ l. none (inr (inl l)) in
          (omega arith, omega arith, λ d low below whole. none (inr (inr (d, low, below, whole)))),
      λ s. fails.1 (⊎_elim (λ l. omega arith) (⊎_elim (λ l. omega arith) (λ (d, low, below, whole). s.2 d low below whole))),
    )

-- ---- the entries and the statement

module _ (i : Instance) where
  -- not 10: in kind 1 every entry is a group element
  pub entries_pass : (bad_entries i ≡ false)
      ↔ (i.header.kind ≡ 1 → (r c : ℕ) → r < i.header.rows → c < i.header.columns → Element i.header (entry (table_of i) r c))
  entries_pass =
      let fails = says_false (says_bad_entries i) in (
        λ e k r c hr hc. says_stable (says_element i.header (entry (table_of i) r c)) (λ n. fails.0 e (k, (r, c, hr, hc, n))),
        λ f. fails.1 (λ (k, (r, c, hr, hc, n)). n (f k r c hr hc)),
      )

  -- not 11: every statement value is a group element
  pub statement_passes : (bad_statement i ≡ false) ↔ ((r : ℕ) → r < i.header.rows → Element i.header (statement_at i r))
  unfolding bad_statement some_non_element statement_at
  statement_passes = all_pass _ _ _ (λ r. says_element i.header (statement_at i r))

  -- ---- what a call brings

  -- not 14: every value of a commitment is a group element
  pub commitment_passes : (t : List ℕ) → (bad_commitment i t ≡ false) ↔ Elements i t
  unfolding bad_commitment some_non_element
  commitment_passes t = all_pass _ _ _ (λ r. says_element i.header (get_or t r 0))

  -- not 15: the challenge is below K
  pub challenge_passes : (c : ℕ) → (bad_challenge i c ≡ false) ↔ (c < i.header.challenges)
  unfolding bad_challenge
  challenge_passes c = (leb-false i.header.challenges c, lt-leb i.header.challenges c)

  -- not 16: every slot is a coordinate of the domain
  pub coordinates_pass : (x : List ℕ) → (bad_coordinates i x ≡ false) ↔ Coordinates i x
  unfolding bad_coordinates some_non_coordinate
  coordinates_pass x = all_pass _ _ _ (λ j. says_coordinate i.header (get_or x j 0))

  -- not 17: every row of the witness's image is the statement's value
  pub witness_passes : (x : List ℕ) → (bad_witness i x ≡ false) ↔ ((r : ℕ) → r < i.header.rows → row_image (table_of i) x r ≡ statement_at i r)
  unfolding bad_witness statement_at
  witness_passes x =
      let agree = differ_false i.header.rows (image (table_of i) x) i.statement in
      (λ e r h. sym (image_at (table_of i) x r h) ∙ agree.0 e r h, λ f. agree.1 (λ r h. image_at (table_of i) x r h ∙ f r h))
