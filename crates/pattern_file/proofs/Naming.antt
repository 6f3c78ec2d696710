-- What the digits of a pattern name: the tests over a file's bytes are those of the pattern (24).
-- Assumes nothing.
use Prim.Native.Nat.{ℕ, suc, ◌+◌, ◌≤◌}
use mathlib.Core.Path.{◌≡◌, refl, ap, ap₂, ◌∙◌}
use mathlib.Core.Bool.{Bool, true, false, not, ◌||◌}
use mathlib.Core.List.{List}
use native.Mathlib.Omega.{arith}
use lib.Dec.{eqb, ltb}
use lib.ListN.{length, get_or}
use Rattle.std.specs.List.{between, list_any}
use Rattle.std.proofs.lemmas.List.Edits.{length-between, get_or-between}
use Rattle.numbers.specs.Search.{any}
use Rattle.numbers.proofs.Listed.{any_listed}
use Rattle.lists.proofs.Places.{get_d_tabulate}
use Rattle.numbers.proofs.Search.{any_agree}
use Rattle.patterns.specs.PatternFile.{misnamed, pattern_at, pattern_from, pattern_start}
use Rattle.pattern_file.specs.declared.layout.Sizes.{Sizes}
use Rattle.pattern_file.specs.Naming.{digit_above, names, value_unnamed}
use Rattle.pattern_file.specs.Walk.{sizes_at}

-- a search through digits
pub any_digit : (test : ℕ → Bool) (digits : List ℕ) → list_any test digits ≡ any (length digits) (λ d. test (get_or digits (0 + d) 0))
any_digit test digits =
    any_listed test digits _ refl
    ∙ any_agree _ _ _ (λ d below. ap (λ (i : ℕ). test (get_or digits i 0)) {x = d} {y = 0 + d} (omega arith))

module _ (f : List ℕ) (start n : ℕ) (within : start + n ≤ length f) where
  -- a search through a part of the file
  any_part : (test : ℕ → Bool)
      → any (length (between start (start + n) f)) (λ d. test (get_or (between start (start + n) f) (0 + d) 0))
      ≡ any n (λ d. test (get_or f (start + d) 0))
  any_part test =
      let long : length (between start (start + n) f) ≡ n = length-between f start (start + n) within ∙ omega arith in
      ap (λ (k : ℕ). any k (λ d. test (get_or (between start (start + n) f) (0 + d) 0))) long
      ∙ any_agree n _ _ (λ d below.
      ap test
      (ap (λ (i : ℕ). get_or (between start (start + n) f) i 0) {x = 0 + d} {y = d} (omega arith)
      ∙ get_or-between f start (start + n) d 0 (omega arith)))

  -- so the tests of the part are those of the file's bytes
  pub above_part : (values : ℕ)
      → digit_above (between start (start + n) f) 0 (length (between start (start + n) f)) values ≡ digit_above f start n values
  unfolding digit_above
  above_part values = any_part (ltb values)

  pub unnamed_part : (values : ℕ)
      → value_unnamed (between start (start + n) f) 0 (length (between start (start + n) f)) values ≡ value_unnamed f start n values
  unfolding value_unnamed names
  unnamed_part values = any_agree values _ _ (λ v below. ap not (any_part (λ d. eqb d (suc v))))

module _ (f : List ℕ) {at : ℕ} (k : ℕ) (here : at ≡ pattern_start f k) {p : Sizes} (read : p ≡ sizes_at f at) where
  -- the tests over the bytes are the pattern's
  misnamed_bytes : misnamed (pattern_at f k)
      ≡ digit_above f (at + 3) p.digits p.values || value_unnamed f (at + 3) p.digits p.values
  unfolding misnamed pattern_at pattern_from digit_above value_unnamed names sizes_at
  misnamed_bytes =
      rw (read, here)
      (ap₂ (λ (a b : Bool). a || b) (any_agree _ _ _ (λ d b. ap (ltb _) (get_d_tabulate _ _ d 0 b)))
      (any_agree _ _ _ (λ v _. ap not (any_agree _ _ _ (λ d b. ap (λ (x : ℕ). eqb x (suc v)) (get_d_tabulate _ _ d 0 b))))))

  module _ {above : Bool} (tested : above ≡ digit_above f (at + 3) p.digits p.values) where
    -- a digit that is above the number of values
    pub above_misnamed : above ≡ true → misnamed (pattern_at f k) ≡ true
    above_misnamed high = misnamed_bytes ∙ rw (← tested, high)

    module _ {unnamed : Bool} (searched : unnamed ≡ value_unnamed f (at + 3) p.digits p.values) (low : above ≡ false) where
      -- a value that is not named
      pub unnamed_misnamed : unnamed ≡ true → misnamed (pattern_at f k) ≡ true
      unnamed_misnamed some = misnamed_bytes ∙ rw (← tested, low, ← searched, some)

      -- neither
      pub not_misnamed : unnamed ≡ false → misnamed (pattern_at f k) ≡ false
      not_misnamed none = misnamed_bytes ∙ rw (← tested, low, ← searched, none)
