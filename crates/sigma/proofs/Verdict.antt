-- The verdict: accepted exactly when the two sides of every row agree, else rejected with exactly the rows that differ.
-- Assumes nothing.
use Prim.Native.Nat.{ℕ, ◌^◌, ◌<◌, ◌≤◌}
use mathlib.Core.Path.{◌≡◌, sym, subst, ◌∙◌}
use mathlib.Core.Logic.{◌↔◌, ◌≢◌}
use mathlib.Core.List.{List}
use lib.ListN.{get_or}
use Rattle.types.specs.declared.Verdict.TheVariants.{Accepted, Rejected, Refused}
use Rattle.sigma.specs.Answer.{rows_of}
use Rattle.sigma.specs.Comparison.{differences}
use Rattle.sigma.specs.Instance.{Instance, table_of}
use Rattle.sigma.specs.Image.{image}
use Rattle.sigma.specs.Round.{expected_image, verdict}
use Rattle.sigma.specs.Reads.{round_of}
use Rattle.sigma.specs.Meaning.{RowHolds, Holds, FailsExactly}
use Rattle.sigma.proofs.Values.{image_at, expected_image_at}
use Rattle.sigma.proofs.Comparison.{compare_accepted, compare_rejected, compare_not_refused, differences_bits, differences_is, differences_small}
use Rattle.sigma.proofs.Fails.{FailsInBits, bits_fail, fails_bits, fails_first}

module _ (i : Instance) (t : List ℕ) (c : ℕ) (r : List ℕ) where
  -- the two sides agree in a row exactly when 01's equation holds there
  row_holds : (row : ℕ) → row < i.header.rows
      → (get_or (image (table_of i) r) row 0 ≡ get_or (expected_image i t c) row 0) ↔ RowHolds i (round_of t c r) row
  row_holds row h =
      let left = image_at (table_of i) r row h in
      let right = expected_image_at i t c row h in
      (λ e. sym left ∙ e ∙ right, λ e. left ∙ e ∙ sym right)

  -- a round is accepted exactly when 01's equation holds in every row
  pub verdict_accepted : (verdict i t c r ≡ Accepted) ↔ Holds i (round_of t c r)
  unfolding verdict
  verdict_accepted =
      let agree = compare_accepted i.header.rows (image (table_of i) r) (expected_image i t c) in
      (λ e row h. (row_holds row h).0 (agree.0 e row h), λ f. agree.1 (λ row h. (row_holds row h).1 (f row h)))

  -- the sides differ in a row exactly when the equation fails there
  row_fails : (row : ℕ) → row < i.header.rows
      → (get_or (image (table_of i) r) row 0 ≢ get_or (expected_image i t c) row 0) ↔ (¬ RowHolds i (round_of t c r) row)
  row_fails row h = (λ apart holds. apart ((row_holds row h).1 holds), λ fails same. fails ((row_holds row h).0 same))

  -- the bits of the mask of the rows in which the sides differ
  differences_fail : FailsInBits i (round_of t c r) (differences i.header.rows (image (table_of i) r) (expected_image i t c))
  differences_fail k =
      let bits = differences_bits i.header.rows (image (table_of i) r) (expected_image i t c) k in (
        λ set. let (h, apart) = bits.0 set in (h, (row_fails k h).0 apart),
        λ (h, fails). bits.1 (h, (row_fails k h).1 fails),
      )

  -- a round of at most eight rows is rejected with exactly the rows in which 01's equation fails
  pub verdict_rejected : i.header.rows ≤ 8 → (mask : ℕ)
      → (verdict i t c r ≡ Rejected mask) ↔ (FailsExactly i (round_of t c r) (rows_of mask) × (mask < 2 ^ i.header.rows))
  unfolding verdict
  verdict_rejected few mask =
      let n = i.header.rows in
      let left = image (table_of i) r in
      let right = expected_image i t c in
      let rejected = compare_rejected n left right mask in (
        λ e.
            let ((row, h, apart), same) = rejected.0 e in
            subst (λ (x : ℕ). FailsExactly i (round_of t c r) (rows_of x) × (x < 2 ^ n)) same
            (bits_fail i (round_of t c r) few _ differences_fail row h ((row_fails row h).0 apart), differences_small n left right),
        λ (all, small).
            let first = fails_first i (round_of t c r) (rows_of mask) all in
            let bits = fails_bits i (round_of t c r) few mask all small in
            rejected.1 (
              (_, first.inside, (row_fails _ first.inside).1 first.fails),
              differences_is n left right mask small (λ k h.
                  (λ set. (row_fails k h).1 ((bits k).0 set).1, λ apart. (bits k).1 (h, (row_fails k h).0 apart))),
            ),
      )

  -- a verdict on values is never a refusal
  pub verdict_not_refused : (n : ℕ) → verdict i t c r ≢ Refused n
  unfolding verdict
  verdict_not_refused n = compare_not_refused i.header.rows (image (table_of i) r) (expected_image i t c) n
