-- The fixed fields of a sheet: what the search for a divisor says of K, and what holds where no number is given.
-- Assumes nothing.
use Prim.Native.Nat.{ℕ, ◌≤◌, ◌<◌}
use mathlib.Core.Path.{◌≡◌, sym}
use mathlib.Core.Bool.{true, false}
use native.Mathlib.Omega.{arith}
use borrow.Author.Tests.{lt-ltb, le-ltb}
use Rattle.std.specs.Prelude.{Option, Some, None, is_some}
use Rattle.types.specs.declared.Header.{Header}
use Rattle.rules.specs.Rule.{lowest}
use Rattle.rules.proofs.Lowest.{clear_lowest}
use Rattle.sigma.specs.Admission.{bad_count, first_divisor, header_rules}
use Rattle.sigma.proofs.Passed.{modulus_passes, size_passes}
use Rattle.modular.specs.Divisor.{divisor_of}
use Rattle.modular.proofs.FirstDivisor.{divisor_of_found, divisor_of_nothing}

module _ (h : Header) where
  -- a K within its bounds is bad where the search finds a divisor
  pub count_divided : {d : ℕ} → 2 ≤ h.challenges → h.challenges ≤ 65536 → divisor_of h.order h.challenges ≡ Some d
      → true ≡ bad_count h
  unfolding bad_count
  count_divided {d} low high found =
      let (first, below) = (divisor_of_found h.order h.challenges d).0 found in
      rw (le-ltb _ 2 low, le-ltb 65536 _ high, lt-ltb (first_divisor h.order h.challenges) h.challenges (omega arith))

  -- and good where it finds nothing
  pub count_undivided : 2 ≤ h.challenges → h.challenges ≤ 65536 → divisor_of h.order h.challenges ≡ None
      → false ≡ bad_count h
  unfolding bad_count
  count_undivided low high nothing =
      rw (le-ltb _ 2 low, le-ltb 65536 _ high, le-ltb _ _ ((divisor_of_nothing h.order h.challenges).0 nothing))

  -- so it is bad exactly if the search finds one
  pub count_searched : (found : Option ℕ) → 2 ≤ h.challenges → h.challenges ≤ 65536 → found ≡ divisor_of h.order h.challenges
      → is_some found ≡ bad_count h
  count_searched (Some d) low high e = count_divided low high (sym e)
  count_searched None low high e = count_undivided low high (sym e)

  -- fixed fields that are not refused have a positive modulus and at most eight rows and columns
  pub header_passes : lowest (header_rules h) ≡ 0 → (0 < h.modulus) × ((h.rows ≤ 8) × (h.columns ≤ 8))
  unfolding header_rules
  header_passes e =
      let clear = clear_lowest (header_rules h) tt e in
      let modulus = (modulus_passes h).0 clear.1.0 in
      let size = (size_passes h).0 clear.1.1.1.0 in
      (omega arith, (size.1, size.3))
