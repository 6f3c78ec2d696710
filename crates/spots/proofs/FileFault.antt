-- The spot of a refused round file by its tests, one after the other.
-- Assumes nothing.
use Prim.Native.Nat.{ℕ, ◌≤◌, ◌<◌}
use mathlib.Core.Path.{◌≡◌, sym, ap, ◌∙◌}
use mathlib.Core.Bool.{Bool, true, false, not}
use mathlib.Core.List.{List}
use mathlib.Core.Logic.{◌↔◌, ◌≢◌}
use native.Mathlib.Omega.{arith}
use lib.Dec.{ltb}
use lib.ListN.{length}
use borrow.Author.Tests.{eq-eqb, le-ltb, lt-ltb, ne_eqb}
use Rattle.fields.specs.Mark.{has_mark}
use Rattle.rules.proofs.Says.{says_false, says_less}
use Rattle.sigma.specs.Comparison.{differ}
use Rattle.formats.specs.RoundFile.{count_field, file_version, round_mark, unknown_version}
use Rattle.instance.proofs.ShapeNumber.{mark_differs}
use Rattle.reasons.specs.declared.Spot.TheVariants.{At, Length}
use Rattle.reasons.specs.Reason.{file_spot}

-- 13
pub number_told_law : (f : List ℕ) (found n : ℕ) → n ≡ 13 → At 5 ≡ file_spot f found n
unfolding file_spot
number_told_law f found n same = rw (eq-eqb n 13 same)

module _ (f : List ℕ) (found n : ℕ) (other : n ≢ 13) (same : (found < 7) ↔ (length f < 7)) where
  -- too short a header
  pub short_told : length f < 7 → Length found ≡ file_spot f found n
  unfolding file_spot
  short_told short = rw (ne_eqb n 13 other, lt-ltb found 7 (same.1 short))

  module _ (long : 7 ≤ length f) {marked : Bool} (tested : marked ≡ has_mark f round_mark) where
    -- the test of the length
    whole : ltb found 7 ≡ false
    whole = (says_false (says_less found 7)).1 (λ short. omega (arith, same.0 short))

    -- what the test of the mark says
    differs : {b : Bool} → not marked ≡ b → differ 3 f round_mark ≡ b
    differs e = mark_differs f round_mark ∙ ap not (sym tested) ∙ e

    -- another mark
    pub mark_told : not marked ≡ true → At 0 ≡ file_spot f found n
    unfolding file_spot
    mark_told wrong = rw (ne_eqb n 13 other, whole, differs wrong)

    module _ (right : not marked ≡ false) {version : ℕ} {unknown : Bool} (is_version : version ≡ file_version f)
        (asked : unknown ≡ unknown_version version) where
      -- what the test of the version says
      versioned : {b : Bool} → unknown ≡ b → unknown_version (file_version f) ≡ b
      versioned e = ap unknown_version (sym is_version) ∙ sym asked ∙ e

      -- another version
      pub version_told : unknown ≡ true → At 3 ≡ file_spot f found n
      unfolding file_spot
      version_told wrong = rw (ne_eqb n 13 other, whole, differs right, versioned wrong)

      -- too high a count
      pub count_told : unknown ≡ false → 512 < count_field f → At 5 ≡ file_spot f found n
      unfolding file_spot
      count_told known many =
          rw (ne_eqb n 13 other, whole, differs right, versioned known, lt-ltb 512 (count_field f) many)

      -- a length that does not fit
      pub length_told : unknown ≡ false → count_field f ≤ 512 → Length found ≡ file_spot f found n
      unfolding file_spot
      length_told known few =
          rw (ne_eqb n 13 other, whole, differs right, versioned known, le-ltb 512 (count_field f) few)
