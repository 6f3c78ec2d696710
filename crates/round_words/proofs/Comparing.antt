-- The comparison of two rounds' commitments, return by return. `tested` is what the test of the file answered.
-- Assumes nothing.
use Prim.Native.Nat.{ℕ, ◌+◌, ◌*◌, ◌<◌, ◌≤◌}
use mathlib.Core.Path.{◌≡◌, refl, sym, ap, ◌∙◌}
use mathlib.Core.Bool.{Bool, true, false, cond, not}
use mathlib.Core.Logic.{◌⊎◌}
use mathlib.Core.List.{List, []}
use native.Mathlib.Omega.{arith}
use lib.Dec.{leb}
use lib.ListN.{length, get_or, drop}
use lib.Seq.{get_or-drop}
use Rattle.types.specs.declared.Header.{Header}
use Rattle.numbers.specs.Search.{any}
use Rattle.numbers.proofs.Search.{any_agree}
use Rattle.lists.proofs.Places.{get_d_tabulate}
use Rattle.rules.specs.Call.{answer, number_of}
use Rattle.rules.proofs.Call.{tested_refused, tested_value}
use Rattle.rules.proofs.Lowest.{lowest_clear, lowest_earlier, pass, stop}
use Rattle.rules.proofs.Says.{says_at_most, says_or}
use Rattle.sigma.specs.Comparison.{differ, first_difference}
use Rattle.sigma.proofs.Calculus.{both_fail}
use Rattle.refusals.specs.declared.Refusal.{Refusal}
use Rattle.refusals.specs.Number.{number}
use Rattle.refusals.proofs.Positive.{call_refused, number_positive}
use Rattle.formats.specs.RoundCalls.{counting}
use Rattle.formats.specs.RoundFile.{bad_file, challenge_width, count_field, record_length, record_start}
use Rattle.formats.specs.SameCommitment.{commitment_bytes, comparing}
use Rattle.formats.proofs.Files.{file_passes, number_passes}
use Rattle.formats.proofs.Part.{record_inside}
use Rattle.round_layout.proofs.FileTest.{file_clear}

-- the bytes of two commitments differ exactly where the file's do, from the two records on
commitments_differ : (h : Header) (f : List ℕ) (i j : ℕ)
    → differ (4 * h.rows) (commitment_bytes h f i) (commitment_bytes h f j)
    ≡ differ (4 * h.rows) (drop (record_start (challenge_width f) h i) f) (drop (record_start (challenge_width f) h j) f)
unfolding differ first_difference any commitment_bytes
commitments_differ h f i j =
    let a = record_start (challenge_width f) h i in
    let b = record_start (challenge_width f) h j in
    any_agree (4 * h.rows) _ _
    (λ k less.
    rw (
      get_d_tabulate (4 * h.rows) (λ k. get_or f (a + k) 0) k 0 less,
      get_d_tabulate (4 * h.rows) (λ k. get_or f (b + k) 0) k 0 less,
      get_or-drop a f k 0,
      get_or-drop b f k 0,
    ))

-- 1 is answered exactly where nothing differs
one_unless : (other : Bool) → ◌≡◌ {A = ℕ} (cond (not other) 1 0) (cond other 0 1)
one_unless true = refl
one_unless false = refl

module _ (h : Header) (f : List ℕ) where
  -- a refused file's number is given
  pub same_file : (refusal : Refusal) → number refusal ≡ number_of (counting h f) → (i j : ℕ)
      → record { same = 0; refusal = number refusal } ≡ answer (comparing h f i j)
  unfolding counting comparing number_of
  same_file refusal tested i j =
      let some : 0 < number_of (counting h f) = omega (arith, tested, number_positive refusal) in
      call_refused (comparing h f i j) refusal (tested ∙ sym (lowest_earlier (counting h f).refusals _ some))

  module _ (tested : 0 ≡ number_of (counting h f)) where
    -- a file that passes is a round file
    file_good : bad_file h f ≡ false
    file_good = (file_passes h f).1 (file_clear h f tested)

    -- 13 for either number at or beyond the count
    pub same_beyond : (i j : ℕ) → (count_field f ≤ i) ⊎ (count_field f ≤ j)
        → record { same = 0; refusal = 13 } ≡ answer (comparing h f i j)
    unfolding comparing number_of
    same_beyond i j beyond =
        let number =
        pass 12 _ file_good ∙ stop 13 [] ((says_or (says_at_most (count_field f) i) (says_at_most (count_field f) j)).complete beyond) in
        tested_refused (comparing h f i j) (sym number) (λ (z : 13 ≡ 0). omega arith)

    -- a number below the count is below 512
    pub number_small : (k : ℕ) → k < count_field f → k < 512
    number_small k inside = omega (arith, (file_clear h f tested).few)

    module _ {width : ℕ} (is_width : width ≡ challenge_width f) where
      -- and the commitment of its record lies inside the file
      pub commitment_fits : (k : ℕ) → k < count_field f → {start : ℕ} → start ≡ record_start width h k
          → start + 4 * h.rows ≤ length f
      unfolding record_length
      commitment_fits k inside is_start =
          omega (arith, record_inside (file_clear h f tested) k inside, rw is_width at is_start)

      -- for two such numbers the answer is whether the commitments agree
      pub same_compared : (i j : ℕ) → i < count_field f → j < count_field f → {a b : ℕ} → a ≡ record_start width h i
          → b ≡ record_start width h j → {agree : Bool} → agree ≡ not (differ (4 * h.rows) (drop a f) (drop b f))
          → record { same = cond agree 1 0; refusal = 0 } ≡ answer (comparing h f i j)
      unfolding comparing number_of
      same_compared i j first second is_first is_second {agree = agree} is_agree =
          let inside = (both_fail (leb (count_field f) i) (leb (count_field f) j)).1 ((number_passes f i).1 first, (number_passes f j).1 second) in
          let number = lowest_clear (comparing h f i j).refusals (file_good, (inside, tt)) in
          let same : ◌≡◌ {A = ℕ} (cond agree 1 0)
          (cond (differ (4 * h.rows) (commitment_bytes h f i) (commitment_bytes h f j)) 0 1) =
          rw (commitments_differ h f i j, ← is_width, ← is_first, ← is_second, is_agree, one_unless) in
          ap (λ (k : ℕ). record { same = k; refusal = 0 }) same ∙ tested_value (comparing h f i j) (sym number) refl
