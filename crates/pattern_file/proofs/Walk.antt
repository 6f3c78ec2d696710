-- The walk over the patterns of a file: what each of its tests says of the file, and where the next pattern begins.
-- Assumes nothing.
use Prim.Native.Nat.{ℕ, suc, ◌+◌, ◌-◌, ◌≤◌, ◌<◌}
use mathlib.Core.Path.{◌≡◌, refl, sym, ap, ◌∙◌}
use mathlib.Core.Logic.{◌≢◌}
use mathlib.Core.Bool.{Bool, true, false, not, ◌||◌}
use mathlib.Core.List.{List}
use native.Mathlib.Numerals.{add-one}
use native.Mathlib.Omega.{arith}
use lib.Dec.{eqb}
use lib.ListN.{length}
use borrow.Author.Tests.{ne_eqb}
use Rattle.numbers.specs.Search.{any}
use Rattle.numbers.proofs.Search.{any_end, any_of, any_on, any_start}
use Rattle.patterns.specs.PatternFile.{bad_sizes, pattern_at, pattern_count, pattern_from, pattern_start}
use Rattle.patterns.proofs.Files.{Filed, start_next, start_rises, start_step, start_within}
use Rattle.pattern_file.specs.declared.layout.Sizes.{Sizes}
use Rattle.pattern_file.specs.Walk.{bad_patterns, sizes_at, wrong_sizes}

-- a test beside one that holds
or_holds_law : (b : Bool) → true ≡ (b || true)
or_holds_law true = refl
or_holds_law false = refl

module _ (f : List ℕ) where
  -- the patterns before number k have right sizes
  abbrev pub SizedBefore : ℕ → Type 0
  SizedBefore k = any k (λ i. bad_sizes (pattern_at f i)) ≡ false

  -- before the first there is none
  pub sized_yet : SizedBefore 0
  sized_yet = any_start _

  -- behind the last the file's end decides
  pub walk_end : {at : ℕ} (k count : ℕ) → at ≡ pattern_start f k → SizedBefore k → k ≤ count → count ≤ k
      → not (eqb (length f) at) ≡ bad_patterns f count
  unfolding bad_patterns
  walk_end {at} k count here sized within past =
      let all : k ≡ count = omega arith in
      rw (sym (any_end (λ i. bad_sizes (pattern_at f i)) k count within past sized), here, all)

  -- where the next pattern begins
  pub next_start : {at : ℕ} {p : Sizes} (k : ℕ) → at ≡ pattern_start f k → p ≡ sizes_at f at
      → at + (3 + p.digits) ≡ pattern_start f (k + 1)
  unfolding sizes_at pattern_at pattern_from
  next_start k here read = rw (add-one k, read, here) (omega (arith, start_next f k))

  module _ {at : ℕ} (k count : ℕ) (here : at ≡ pattern_start f k) (before : k < count) where
    -- a file that ends before a pattern does
    walk_cut : length f < pattern_start f (suc k) → true ≡ bad_patterns f count
    unfolding bad_patterns
    walk_cut less =
        let other : length f ≢ pattern_start f count = λ e. omega (arith, start_rises f (suc k) count before) in
        rw (ne_eqb (length f) (pattern_start f count) other) (or_holds_law (any count (λ i. bad_sizes (pattern_at f i))))

    -- it ends before the pattern's sizes do
    pub sizes_cut : length f - at < 3 → true ≡ bad_patterns f count
    sizes_cut short = walk_cut (omega (arith, start_step f k))

    module _ {p : Sizes} (read : p ≡ sizes_at f at) where
      -- the test of the sizes that were read is that of the pattern
      sizes_test : wrong_sizes p ≡ bad_sizes (pattern_at f k)
      unfolding wrong_sizes sizes_at bad_sizes pattern_at pattern_from
      sizes_test = rw (read, here)

      -- a pattern of a wrong size
      pub sizes_wrong : wrong_sizes p ≡ true → true ≡ bad_patterns f count
      unfolding bad_patterns
      sizes_wrong wrong = rw (any_of count _ k before (sym sizes_test ∙ wrong))

      -- the file ends before the pattern's digits do
      pub digits_cut : length f - at - 3 < p.digits → true ≡ bad_patterns f count
      digits_cut short = walk_cut (omega (arith, ap (pattern_start f) (add-one k), next_start k here read))

      -- a pattern of right sizes more
      pub sized_still : SizedBefore k → wrong_sizes p ≡ false → SizedBefore (k + 1)
      sized_still sized right = any_on _ k sized (sym sizes_test ∙ right)

  module _ {at : ℕ} (k : ℕ) (here : at ≡ pattern_start f k) (filed : Filed f) (inside : k < pattern_count f) where
    -- in a file that 23 lets through the sizes of a pattern lie within it
    pub sizes_within : at + 3 ≤ length f
    sizes_within = omega (arith, start_step f k, start_within filed (suc k) inside)

    -- and so do its digits
    pub digits_within : {p : Sizes} → p ≡ sizes_at f at → at + 3 + p.digits ≤ length f
    digits_within read =
        omega (arith, next_start k here read, ap (pattern_start f) (add-one k), start_within filed (suc k) inside)
