-- The test of a pattern file (23), return by return.
-- Assumes nothing.
use Prim.Native.Nat.{ℕ, ◌≤◌, ◌<◌}
use mathlib.Core.Path.{◌≡◌, ◌∙◌}
use mathlib.Core.Logic.{◌≢◌}
use mathlib.Core.Bool.{Bool, true, false}
use mathlib.Core.List.{List}
use native.Mathlib.Omega.{arith}
use lib.ListN.{length}
use borrow.Author.Tests.{lt-ltb, le-ltb, eq-eqb, ne_eqb}
use Rattle.fields.specs.Mark.{has_mark}
use Rattle.instance.proofs.ShapeNumber.{mark_differs}
use Rattle.patterns.specs.PatternFile.{bad_pattern_file, pattern_count, pattern_mark, pattern_version}
use Rattle.pattern_file.specs.Walk.{bad_patterns}

module _ (f : List ℕ) where
  -- under 6 bytes
  pub file_short : length f < 6 → true ≡ bad_pattern_file f
  unfolding bad_pattern_file
  file_short short = rw (lt-ltb (length f) 6 short)

  module _ (long : 6 ≤ length f) where
    -- another mark
    pub file_mark : has_mark f pattern_mark ≡ false → true ≡ bad_pattern_file f
    unfolding bad_pattern_file
    file_mark other = rw (le-ltb (length f) 6 long, mark_differs f pattern_mark, other)

    module _ (marked : has_mark f pattern_mark ≡ true) where
      -- a version other than 1
      pub file_version_law : pattern_version f ≢ 1 → true ≡ bad_pattern_file f
      unfolding bad_pattern_file
      file_version_law other = rw (le-ltb (length f) 6 long, mark_differs f pattern_mark, marked, ne_eqb (pattern_version f) 1 other)

      module _ (version : pattern_version f ≡ 1) where
        -- no pattern
        pub file_empty : pattern_count f < 1 → true ≡ bad_pattern_file f
        unfolding bad_pattern_file
        file_empty none =
            rw (
              le-ltb (length f) 6 long,
              mark_differs f pattern_mark,
              marked,
              eq-eqb (pattern_version f) 1 version,
              lt-ltb (pattern_count f) 1 none,
            )

        -- more than 32
        pub file_many : 32 < pattern_count f → true ≡ bad_pattern_file f
        unfolding bad_pattern_file
        file_many many =
            rw (
              le-ltb (length f) 6 long,
              mark_differs f pattern_mark,
              marked,
              eq-eqb (pattern_version f) 1 version,
              le-ltb (pattern_count f) 1 (omega arith),
              lt-ltb 32 (pattern_count f) many,
            )

        -- else the walk decides
        pub file_walked : {result : Bool} {count : ℕ} → 1 ≤ count → count ≤ 32 → count ≡ pattern_count f
            → result ≡ bad_patterns f count → result ≡ bad_pattern_file f
        unfolding bad_pattern_file bad_patterns
        file_walked some few counted walked =
            walked ∙ rw (
              counted,
              le-ltb (length f) 6 long,
              mark_differs f pattern_mark,
              marked,
              eq-eqb (pattern_version f) 1 version,
              le-ltb (pattern_count f) 1 (omega arith),
              le-ltb 32 (pattern_count f) (omega arith),
            )
