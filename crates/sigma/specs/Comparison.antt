-- Two lists of values, place by place.
-- Assumes nothing.
use Rattle.std.specs.Prelude.{ℕ, Bool, not, cond, List, eqb, ltb, get_or}
use Rattle.types.specs.declared.Verdict.{Verdict}
use Rattle.types.specs.declared.Verdict.TheVariants.{Accepted, Rejected}
use Rattle.numbers.specs.Bits.{mask_below}
use Rattle.numbers.specs.Search.{find}

-- the first place below n at which the lists differ, and n where there is none
unfoldable pub first_difference : ℕ → List ℕ → List ℕ → ℕ
first_difference n xs ys = find (λ i. not (eqb (get_or xs i 0) (get_or ys i 0))) 0 n

-- whether the lists differ at some place below n
unfoldable pub differ : ℕ → List ℕ → List ℕ → Bool
differ n xs ys = ltb (first_difference n xs ys) n

-- the places below n at which the lists differ, as a mask
unfoldable pub differences : ℕ → List ℕ → List ℕ → ℕ
differences n xs ys = mask_below n (λ i. not (eqb (get_or xs i 0) (get_or ys i 0)))

-- the verdict on two sides of n rows: accepted where all rows agree, else rejected with all that do not
unfoldable pub compare_sides : ℕ → List ℕ → List ℕ → Verdict
compare_sides n xs ys = cond (differ n xs ys) (Rejected (differences n xs ys)) Accepted
