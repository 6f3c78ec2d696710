-- The mask of the places at which two sides differ, place by place, and the verdict on them by it.
-- Assumes nothing.
use mathlib.Core.Path.{◌≡◌, refl, sym, ap, ap₂, ◌∙◌}
use mathlib.Core.Bool.{Bool, true, false, cond, not, true≢false}
use mathlib.Core.Logic.{◌≢◌}
use mathlib.Core.List.{List}
use Prim.Native.Nat.{ℕ, suc, ◌+◌, ◌*◌, ◌^◌, ◌≤◌, ◌<◌}
use native.Mathlib.Nat.{pow-suc}
use native.Mathlib.Omega.{arith}
use lib.Dec.{eqb}
use lib.ListN.{get_or}
use lib.Pow.{pow_mono, pow_pos}
use borrow.Author.Tests.{eq-eqb, ne_eqb}
use Rattle.types.specs.declared.Verdict.TheVariants.{Accepted, Rejected}
use Rattle.numbers.specs.Bits.{bit}
use Rattle.numbers.proofs.Bits.{bit_beyond, mask_suc, mask_zero}
use Rattle.sigma.specs.Comparison.{compare_sides, differ, differences}
use Rattle.sigma.proofs.Comparison.{differ_false, differences_bits, differences_is, differences_small, says_differ}

module _ (n : ℕ) (xs ys : List ℕ) where
  -- the mask of the places before i, and the bit of place i
  abbrev pub Marked : ℕ → ℕ → ℕ → Type 0
  Marked i mask place = (i ≤ n) × (mask ≡ differences i xs ys) × (place ≡ 2 ^ i)

  -- before the first place
  pub marked_none : Marked 0 0 1
  unfolding differences
  marked_none = (omega arith, sym (mask_zero _), refl)

  -- one place more
  pub marked_on : (i mask place : ℕ) {left right next : ℕ} → i < n → left ≡ get_or xs i 0 → right ≡ get_or ys i 0
      → next ≡ mask + cond (not (eqb left right)) place 0 → Marked i mask place → Marked (i + 1) next (2 * place)
  unfolding differences
  marked_on i mask place inside is_left is_right is_next (within, is_mask, is_place) =
      let next_place : suc i ≡ i + 1 = omega arith in (
        omega arith,
        is_next ∙ ap₂ ◌+◌ is_mask (ap₂ (λ (b : Bool) (v : ℕ). cond b v 0)
            (ap₂ (λ (a b : ℕ). not (eqb a b)) is_left is_right) is_place)
            ∙ sym (mask_suc i (λ k. not (eqb (get_or xs k 0) (get_or ys k 0)))) ∙ ap (λ (k : ℕ). differences k xs ys) next_place,
        omega (arith, is_place, pow-suc 2 i) ∙ ap (λ (k : ℕ). 2 ^ k) next_place,
      )

  -- a mask and a bit leave room for each other
  pub marked_small : (i mask place : ℕ) → i < 8 → Marked i mask place → (mask + place < 2 ^ 32) × (2 * place < 2 ^ 32)
  marked_small i mask place few (within, is_mask, is_place) =
      let small : mask < 2 ^ i = rw is_mask (differences_small i xs ys) in
      let below : 2 ^ i ≤ 2 ^ 7 = pow_mono {i = i} {j = 7} (omega arith) in
      (omega (arith, small, below, is_place), omega (arith, below, is_place))

  -- behind the last place it is the whole mask
  pub marked_all : (i mask place : ℕ) → n ≤ i → Marked i mask place → mask ≡ differences n xs ys
  marked_all i mask place past (within, is_mask, is_place) = rw is_mask (ap (λ (k : ℕ). differences k xs ys) (omega arith))

  -- the verdict is what the mask says
  pub compare_mask : cond (eqb (differences n xs ys) 0) Accepted (Rejected (differences n xs ys)) ≡ compare_sides n xs ys
  unfolding compare_sides
  compare_mask = chosen (differ n xs ys) refl
    where
      chosen : (b : Bool) → differ n xs ys ≡ b
          → cond (eqb (differences n xs ys) 0) Accepted (Rejected (differences n xs ys)) ≡ cond b (Rejected (differences n xs ys)) Accepted
      chosen true some =
          let (i, inside, other) = (says_differ n xs ys).sound some in
          let set : bit (differences n xs ys) i ≡ true = (differences_bits n xs ys i).1 (inside, other) in
          let some_bit : differences n xs ys ≢ 0 =
          λ zero. true≢false (sym set ∙ ap (λ (mask : ℕ). bit mask i) zero ∙ bit_beyond 0 0 i (omega arith) (omega arith)) in
          rw (ne_eqb _ _ some_bit)
      chosen false none =
          let agree = (differ_false n xs ys).0 none in
          let zero : differences n xs ys ≡ 0 =
          differences_is n xs ys 0 (pow_pos n) (λ i inside. (
            λ set. absurd (true≢false (sym set ∙ bit_beyond 0 0 i (omega arith) (omega arith))),
            λ other. absurd (other (agree i inside)),
          )) in
          rw (eq-eqb _ _ zero)
