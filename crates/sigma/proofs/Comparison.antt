-- Two lists compared row by row: whether they differ below n, the first row in which they do, all rows in which they do, and the
-- verdict on them.
-- Assumes nothing.
use Prim.Native.Nat.{ℕ, ◌^◌, ◌<◌}
use mathlib.Core.Path.{◌≡◌, refl, ap}
use mathlib.Core.Logic.Iff
use mathlib.Core.Logic.{◌↔◌, ◌≢◌}
use mathlib.Core.Bool.{Bool, true, false, cond, not}
use mathlib.Core.List.{List}
use native.Mathlib.Omega.{arith}
use lib.Dec.{eqb}
use lib.ListN.{get_or}
use borrow.Author.Tests.{not-true}
use Rattle.types.specs.declared.Verdict.TheVariants.{Accepted, Rejected, Refused}
use Rattle.numbers.specs.Bits.{bit}
use Rattle.numbers.specs.Search.{any}
use Rattle.numbers.proofs.Bits.{mask_bits, mask_is, mask_small}
use Rattle.numbers.proofs.Search.{find_holds, find_first, find_is}
use Rattle.rules.specs.Says.{Says}
use Rattle.rules.proofs.Says.{says_equal, says_not}
use Rattle.sigma.specs.Comparison.{first_difference, differ, differences, compare_sides}
use Rattle.sigma.specs.Reads.{Agree, Differ}
use Rattle.sigma.proofs.Answer.{accepted_not_refused, rejected_not_refused}
use Rattle.sigma.proofs.Calculus.{says_passes, says_any, all_pass}

-- ---- where they differ

-- a row's test says that the lists differ there
says_differs : (xs ys : List ℕ) (r : ℕ) → Says (not (eqb (get_or xs r 0) (get_or ys r 0))) (get_or xs r 0 ≢ get_or ys r 0)
says_differs xs ys r = says_not (says_equal (get_or xs r 0) (get_or ys r 0))

-- the lists differ in some row below n
pub says_differ : (n : ℕ) (xs ys : List ℕ) → Says (differ n xs ys) (Differ n xs ys)
unfolding differ first_difference any
says_differ n xs ys = says_any n _ (λ r. get_or xs r 0 ≢ get_or ys r 0) (says_differs xs ys)

-- the lists agree in every row below n
pub differ_false : (n : ℕ) (xs ys : List ℕ) → (differ n xs ys ≡ false) ↔ Agree n xs ys
unfolding differ first_difference any
differ_false n xs ys =
    all_pass n (λ r. eqb (get_or xs r 0) (get_or ys r 0)) (λ r. get_or xs r 0 ≡ get_or ys r 0) (λ r. says_equal (get_or xs r 0) (get_or ys r 0))

-- so the opposite of the test says that they agree
pub says_agree : (n : ℕ) (xs ys : List ℕ) → Says (not (differ n xs ys)) (Agree n xs ys)
says_agree n xs ys = record {
  sound = λ e. (differ_false n xs ys).0 (not-true _ e);
  complete = λ a. ap not ((differ_false n xs ys).1 a);
}

-- all rows before the first differing row agree
pub first_difference_before : (n : ℕ) (xs ys : List ℕ) → Agree (first_difference n xs ys) xs ys
unfolding first_difference
first_difference_before n xs ys r h =
    (says_passes (says_equal (get_or xs r 0) (get_or ys r 0))).0
    (find_first (λ k. not (eqb (get_or xs k 0) (get_or ys k 0))) 0 n r (omega arith) h)

-- the first differing row differs, if it is a row
pub first_difference_differs : (n : ℕ) (xs ys : List ℕ) → first_difference n xs ys < n
    → get_or xs (first_difference n xs ys) 0 ≢ get_or ys (first_difference n xs ys) 0
unfolding first_difference
first_difference_differs n xs ys h =
    (says_differs xs ys _).sound (find_holds (λ r. not (eqb (get_or xs r 0) (get_or ys r 0))) 0 n (omega arith))

-- a row that differs, with all rows before it agreeing, is the first differing row
pub first_difference_is : (n : ℕ) (xs ys : List ℕ) (row : ℕ) → row < n → get_or xs row 0 ≢ get_or ys row 0 → Agree row xs ys
    → first_difference n xs ys ≡ row
unfolding first_difference
first_difference_is n xs ys row h different before =
    find_is (λ r. not (eqb (get_or xs r 0) (get_or ys r 0))) 0 n row (omega arith) (omega arith)
    ((says_differs xs ys row).complete different)
    (λ r from below. (says_passes (says_equal (get_or xs r 0) (get_or ys r 0))).1 (before r below))

-- ---- all rows in which they differ

module _ (n : ℕ) (xs ys : List ℕ) where
  -- bit i is set exactly where i is below n and the lists differ there
  pub differences_bits : (i : ℕ) → (bit (differences n xs ys) i ≡ true) ↔ ((i < n) × (get_or xs i 0 ≢ get_or ys i 0))
  unfolding differences
  differences_bits i =
      let says = says_differs xs ys i in
      Iff.trans (mask_bits n _ i) (Iff.and Iff.rfl (says.sound, says.complete))

  -- no bit at n or beyond is
  pub differences_small : differences n xs ys < 2 ^ n
  unfolding differences
  differences_small = mask_small n _

  -- no other mask is like this
  pub differences_is : (mask : ℕ) → mask < 2 ^ n → ((i : ℕ) → i < n → (bit mask i ≡ true) ↔ (get_or xs i 0 ≢ get_or ys i 0))
      → differences n xs ys ≡ mask
  unfolding differences
  differences_is mask small same =
      mask_is n _ mask small (λ i inside.
      let says = says_differs xs ys i in
      (λ t. (same i inside).1 (says.sound t), λ set. says.complete ((same i inside).0 set)))

-- ---- the verdict on them

-- between rejected and accepted, accepted is chosen only where the test is false
choice_accepted : (b : Bool) (mask : ℕ) → cond b (Rejected mask) Accepted ≡ Accepted → b ≡ false
choice_accepted true mask e = cc
choice_accepted false mask e = refl

-- and rejected only where it is true, with that mask
choice_rejected : (b : Bool) (mask mask' : ℕ) → cond b (Rejected mask) Accepted ≡ Rejected mask' → (b ≡ true) × (mask ≡ mask')
choice_rejected true mask mask' e = (refl, cc)
choice_rejected false mask mask' e = (cc, cc)

module _ (n : ℕ) (xs ys : List ℕ) where
  -- the sides are accepted exactly when all rows below n agree
  pub compare_accepted : (compare_sides n xs ys ≡ Accepted) ↔ Agree n xs ys
  unfolding compare_sides
  compare_accepted = (λ e. (differ_false n xs ys).0 (choice_accepted _ _ e), λ a. rw ((differ_false n xs ys).1 a))

  -- the sides are rejected exactly when some row below n differs, with all that do
  pub compare_rejected : (mask : ℕ) → (compare_sides n xs ys ≡ Rejected mask) ↔ (Differ n xs ys × (differences n xs ys ≡ mask))
  unfolding compare_sides
  compare_rejected mask = (
    λ e. let (t, same) = choice_rejected (differ n xs ys) (differences n xs ys) mask e in ((says_differ n xs ys).sound t, same),
    λ (different, same). rw ((says_differ n xs ys).complete different) (ap Rejected same),
  )

  -- the sides are never refused
  pub compare_not_refused : (k : ℕ) → compare_sides n xs ys ≢ Refused k
  unfolding compare_sides
  compare_not_refused k = never (differ n xs ys)
    where
      never : (b : Bool) → cond b (Rejected (differences n xs ys)) Accepted ≢ Refused k
      never true = rejected_not_refused (differences n xs ys) k
      never false = accepted_not_refused k
