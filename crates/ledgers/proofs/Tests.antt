-- What each test of a ledger's lines and of its writer's entries says (02, card 14; refusals 10, 35, 36 and 14 to 16), and that the calls'
-- rules test their conditions.
-- Assumes nothing.
use Prim.Native.Nat.{ℕ, zero, suc, ◌<◌, ◌≤◌}
use mathlib.Core.Path.{refl}
use mathlib.Core.Logic.{◌↔◌, ◌⊎◌, inl, inr, ⊎_elim}
use mathlib.Core.List.{List, [], ◌∷◌}
use native.Mathlib.Omega.{arith}
use lib.ListN.{get_or}
use Rattle.rules.specs.Condition.{Tests}
use Rattle.rules.specs.Says.{Says}
use Rattle.rules.proofs.Condition.{tests_append}
use Rattle.rules.proofs.Says.{says_and, says_at_most, says_equal, says_iff, says_less, says_not, says_or}
use Rattle.sigma.specs.Element.{Element, is_coordinate, some_non_coordinate, some_non_element}
use Rattle.sigma.specs.Instance.{is_exponent}
use Rattle.sigma.proofs.Calculus.{says_any}
use Rattle.sigma.proofs.Tests.{says_bad_count, says_bad_modulus, says_bad_order, says_element, says_some_non_element}
use Rattle.ledgers.specs.Check.{bad_elements, bad_line_challenge, bad_line_kind, bad_response, base_rules, checking_ledger, not_above}
use Rattle.ledgers.specs.Lines.{entry_at, line_at}
use Rattle.ledgers.specs.Refusals.{
  BadElements,
  HighChallenge,
  HighNumber,
  HighResponse,
  HighSlot,
  NotAbove,
  UnknownKind,
  base_conditions,
  check_conditions,
  product_header,
  write_conditions,
}
use Rattle.ledgers.specs.Write.{bad_numbers, writing_ledger}
use Rattle.ledgers.specs.declared.Base.{Base}
use Rattle.ledgers.specs.declared.Entries.{Entries}
use Rattle.ledgers.specs.declared.Entry.{Entry}
use Rattle.ledgers.specs.declared.Ledger.{Ledger}
use Rattle.ledgers.specs.declared.Line.{Line}

-- ---- one of two, and one of three

some_two : (P : ℕ → Type 0) → ((i : ℕ) × (i < 2) × P i) ↔ (P 0 ⊎ P 1)
some_two P = (λ (i, inside, p). which i inside p, ⊎_elim (λ p. (0, omega arith, p)) (λ p. (1, omega arith, p)))
  where
    which : (i : ℕ) → i < 2 → P i → P 0 ⊎ P 1
    which zero inside p = inl p
    which (suc zero) inside p = inr p
    which (suc (suc i)) inside p = absurd (omega arith)

some_three : (P : ℕ → Type 0) → ((i : ℕ) × (i < 3) × P i) ↔ (P 0 ⊎ P 1 ⊎ P 2)
some_three P = (
  λ (i, inside, p). which i inside p,
  ⊎_elim (λ p. (0, omega arith, p)) (⊎_elim (λ p. (1, omega arith, p)) (λ p. (2, omega arith, p))),
)
  where
    which : (i : ℕ) → i < 3 → P i → P 0 ⊎ P 1 ⊎ P 2
    which zero inside p = inl p
    which (suc zero) inside p = inr (inl p)
    which (suc (suc zero)) inside p = inr (inr p)
    which (suc (suc (suc i))) inside p = absurd (omega arith)

-- ---- one line or entry

-- 35: the kind is none of 1, 2 and 3
pub says_kind : (kind : ℕ) → Says (bad_line_kind kind) (UnknownKind kind)
unfolding bad_line_kind
says_kind kind = says_not (says_or (says_equal kind 1) (says_or (says_equal kind 2) (says_equal kind 3)))

-- 36: a sum or a product names a line that is not above
pub says_above : (i kind first second : ℕ) → Says (not_above i kind first second) (NotAbove i kind first second)
unfolding not_above
says_above i kind first second =
    says_and (says_or (says_equal kind 2) (says_equal kind 3)) (says_or (says_at_most i first) (says_at_most i second))

module _ (base : Base) where
  -- of two values one is no group element
  says_two : (vs : List ℕ)
      → Says (some_non_element (product_header base) 2 vs)
      ((¬ Element (product_header base) (get_or vs 0 0)) ⊎ (¬ Element (product_header base) (get_or vs 1 0)))
  says_two vs =
      says_iff (says_some_non_element (product_header base) 2 vs) (some_two (λ i. ¬ Element (product_header base) (get_or vs i 0)))

  -- of three slots one is q or more
  says_slots : (xs : List ℕ) → Says (some_non_coordinate (product_header base) 3 xs) (HighSlot base xs)
  unfolding some_non_coordinate is_coordinate is_exponent
  says_slots xs =
      says_iff
      (says_any 3 _ (λ j. base.order ≤ get_or xs j 0) (λ j.
      says_iff (says_not (says_less (get_or xs j 0) base.order)) (λ n. omega (arith, n), λ high low. omega arith)))
      (some_three (λ j. base.order ≤ get_or xs j 0))

  -- 14: a commitment that is stored, or a value of t
  pub says_elements : (line : Line) → Says (bad_elements base line) (BadElements base line)
  unfolding bad_elements
  says_elements line =
      says_or
      (says_and (says_or (says_equal line.kind 1) (says_equal line.kind 3))
      (says_not (says_element (product_header base) line.commitment)))
      (says_and (says_equal line.kind 3) (says_two line.t))

  -- 15: a product's challenge
  pub says_challenge : (kind challenge : ℕ) → Says (bad_line_challenge base kind challenge) (HighChallenge base kind challenge)
  unfolding bad_line_challenge
  says_challenge kind challenge = says_and (says_equal kind 3) (says_at_most base.challenges challenge)

  -- 16: a product's response
  pub says_response : (line : Line) → Says (bad_response base line) (HighResponse base line)
  unfolding bad_response
  says_response line = says_and (says_equal line.kind 3) (says_slots line.response)

  -- 16 of an entry
  pub says_numbers : (e : Entry) → Says (bad_numbers base e) (HighNumber base e)
  unfolding bad_numbers
  says_numbers e =
      says_or
      (says_and (says_equal e.kind 1)
      (says_or (says_at_most base.order e.value) (says_at_most base.order e.blinding)))
      (says_and (says_equal e.kind 3) (says_or (says_at_most base.order e.blinding) (says_slots e.nonce)))

  -- ---- the calls

  -- the rules of what the lines share test their conditions
  base_tests : Tests (base_rules base) (base_conditions base)
  unfolding base_rules
  base_tests =
      let h = product_header base in (
        refl,
        says_bad_modulus h,
        (refl, says_bad_order h, (refl, says_bad_count h, (refl, says_two (base.g ∷ base.h ∷ []), tt))),
      )

  -- so do the checker's
  pub check_tests : (ledger : Ledger) → Tests (checking_ledger base ledger).refusals (check_conditions base ledger)
  unfolding checking_ledger
  check_tests ledger =
      let each = says_any ledger.count in
      tests_append (base_rules base) _ (base_conditions base) _ base_tests (
        refl,
        says_less 64 ledger.count,
        (
          refl,
          each _ _ (λ i. says_kind (line_at ledger i).kind),
          (
            refl,
            each _ _ (λ i. says_above i (line_at ledger i).kind (line_at ledger i).first (line_at ledger i).second),
            (
              refl,
              each _ _ (λ i. says_elements (line_at ledger i)),
              (
                refl,
                each _ _ (λ i. says_challenge (line_at ledger i).kind (line_at ledger i).challenge),
                (refl, each _ _ (λ i. says_response (line_at ledger i)), tt),
              ),
            ),
          ),
        ),
      )

  -- and the writer's
  pub write_tests : (entries : Entries) → Tests (writing_ledger base entries).refusals (write_conditions base entries)
  unfolding writing_ledger
  write_tests entries =
      let each = says_any entries.count in
      tests_append (base_rules base) _ (base_conditions base) _ base_tests (
        refl,
        says_less 64 entries.count,
        (
          refl,
          each _ _ (λ i. says_kind (entry_at entries i).kind),
          (
            refl,
            each _ _ (λ i. says_above i (entry_at entries i).kind (entry_at entries i).first (entry_at entries i).second),
            (
              refl,
              each _ _ (λ i. says_challenge (entry_at entries i).kind (entry_at entries i).challenge),
              (refl, each _ _ (λ i. says_numbers (entry_at entries i)), tt),
            ),
          ),
        ),
      )
