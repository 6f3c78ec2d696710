-- The converter of round files (02, card 7): what its rules say, when it runs, and that the file of the other version has the
-- rounds of the original and is converted back to it.
-- Assumes nothing.
use Prim.Native.Nat.{ℕ, ◌+◌, ◌*◌, ◌^◌, ◌<◌}
use mathlib.Core.Path.{◌≡◌, refl, sym, ap, ap₂, subst, ◌∙◌}
use mathlib.Core.Bool.{false}
use mathlib.Core.Logic.{◌↔◌, ◌⊎◌, ◌≢◌, inl, inr, ⊎_elim}
use mathlib.Core.List.{List, [], ◌∷◌, map}
use native.Mathlib.Omega.{arith}
use lib.ListN.{get_or, length}
use borrow.Author.Tests.{eq-eqb, ne_eqb}
use Rattle.types.specs.declared.Header.{Header}
use Rattle.types.specs.declared.Round.{Round}
use Rattle.encoding.specs.Bytes.{AllBytes, number_at}
use Rattle.lists.specs.Member.{Member}
use Rattle.rules.specs.Condition.{Tests}
use Rattle.rules.specs.Says.{Says}
use Rattle.rules.proofs.Says.{says_decides, says_equal, says_false, says_iff}
use Rattle.sigma.specs.Reads.{padded_round}
use Rattle.sigma.proofs.Calculus.{says_any}
use Rattle.formats.specs.Convert.{converted, converting, other_version, wide_record}
use Rattle.formats.specs.Meaning.{IsRoundFile, IsVersion, record_size}
use Rattle.formats.specs.Refusals.{convert_conditions}
use Rattle.formats.specs.RoundCalls.{no_round}
use Rattle.formats.specs.RoundFile.{
  challenge_width,
  count_field,
  file_version,
  record_length,
  record_start,
  round_at,
  width_of,
}
use Rattle.formats.specs.Rounds.{Words, file_in, rounds_of}
use Rattle.formats.specs.Write.{short}
use Rattle.formats.proofs.Appending.{Narrow, width_narrow}
use Rattle.formats.proofs.Records.{round_at_padded, round_at_words}
use Rattle.formats.proofs.Rounds.{
  count_file_in,
  each_round,
  file_in_is_file,
  file_in_rounds_of,
  length_file_in,
  length_rounds_of,
  round_of_law,
  rounds_of_file_in,
  version_file_in,
  version_small,
}
use Rattle.formats.proofs.Tests.{says_bad_file, says_short, says_wide_challenge}

-- ---- the other version

module _ (version : ℕ) where
  -- it is 2 for version 1 and 1 for every other
  pub other_version_law : ((version ≡ 1) × (other_version version ≡ 2)) ⊎ ((version ≢ 1) × (other_version version ≡ 1))
  unfolding other_version
  other_version_law = elim (says_decides (says_equal version 1)) [
    | inl one ↦ inl (one, rw (eq-eqb version 1 one))
    | inr other ↦ inr (other, rw (ne_eqb version 1 other))
  ]

  -- it is 1 or 2
  pub other_known : IsVersion (other_version version)
  other_known = ⊎_elim (λ x. inr x.1) (λ x. inl x.1) other_version_law

  -- it is 2 exactly for version 1
  pub other_two : (other_version version ≡ 2) ↔ (version ≡ 1)
  other_two = elim other_version_law [
    | inl (one, two) ↦ (λ e. one, λ e. two)
    | inr (other, one) ↦ (λ e. absurd (omega arith), λ e. absurd (other e))
  ]

-- the other of the other version is the first
pub other_again : {version version' : ℕ} → IsVersion version → version' ≡ other_version version → other_version version' ≡ version
unfolding other_version
other_again (inl one) same = rw (same, one)
other_again (inr two) same = rw (same, two)

-- ---- what the rules say

module _ (h : Header) (f : List ℕ) where
  -- a version 1 file has the challenge of record k in four bytes
  challenge_at : file_version f ≡ 1 → (k : ℕ)
      → (round_at (challenge_width f) h f (record_start (challenge_width f) h k)).challenge
      ≡ number_at 4 f (7 + k * record_size 4 h + 4 * h.rows)
  unfolding round_at record_start record_length challenge_width width_of
  challenge_at one k =
      let size : 4 * h.rows + 4 + 4 * h.columns ≡ 4 * (h.rows + h.columns) + 4 = omega arith in
      rw one (ap (λ (n : ℕ). number_at 4 f (7 + k * n + 4 * h.rows)) size)

  -- 15: a challenge above 65,535 in some record of a version 1 file
  pub says_wide_record : Says (wide_record h f)
      ((file_version f ≡ 1) × ((k : ℕ) × (k < count_field f) ×
      (65535 < number_at 4 f (7 + k * record_size 4 h + 4 * h.rows))))
  unfolding wide_record
  says_wide_record =
      says_iff (says_any (count_field f) _ _ (λ k. says_wide_challenge (other_version (file_version f)) _)) (
        λ (k, below, (two, high)).
            let one = (other_two (file_version f)).0 two in
            (one, (k, below, subst (λ (c : ℕ). 65535 < c) (challenge_at one k) high)),
        λ (one, (k, below, high)).
            (k, below, ((other_two (file_version f)).1 one, subst (λ (c : ℕ). 65535 < c) (sym (challenge_at one k)) high)),
      )

  -- not 15: every challenge is one that records of the other version can hold
  pub narrow_records : (wide_record h f ≡ false)
      ↔ ((k : ℕ) → k < count_field f
      → Narrow (other_version (file_version f)) (round_at (challenge_width f) h f (record_start (challenge_width f) h k)).challenge)
  unfolding wide_record
  narrow_records =
      let wide = says_false (says_any (count_field f) _ _ (λ k. says_wide_challenge (other_version (file_version f)) _)) in (
        λ e k below two.
            let c = (round_at (challenge_width f) h f (record_start (challenge_width f) h k)).challenge in
            let low : ¬ (65535 < c) = λ high. wide.0 e (k, below, (two, high)) in
            omega arith,
        λ narrow. wide.1 (λ (k, below, (two, high)). omega (arith, narrow k below two)),
      )

  -- 22: a buffer that is shorter than the result
  says_room : (buffer : List ℕ) → Says (short buffer (record_start (width_of (other_version (file_version f))) h (count_field f)))
      (((file_version f ≡ 1) × (length buffer < 7 + count_field f * record_size 2 h)) ⊎
      ((file_version f ≢ 1) × (length buffer < 7 + count_field f * record_size 4 h)))
  unfolding record_start record_length width_of
  says_room buffer = elim (other_version_law (file_version f)) [
    | inl (one, two) ↦
        let size : 4 * h.rows + 2 + 4 * h.columns ≡ 4 * (h.rows + h.columns) + 2 = omega arith in
        rw (two, size) (says_iff (says_short buffer _) (λ low. inl (one, low), ⊎_elim (λ x. x.1) (λ x. absurd (x.0 one))))
    | inr (other, one) ↦
        let size : 4 * h.rows + 4 + 4 * h.columns ≡ 4 * (h.rows + h.columns) + 4 = omega arith in
        rw (one, size) (says_iff (says_short buffer _) (λ low. inr (other, low), ⊎_elim (λ x. absurd (other x.0)) (λ x. x.1)))
  ]

  -- 12, 15 and 22 of the converter
  pub convert_tests : (buffer : List ℕ) → Tests (converting h f buffer).refusals (convert_conditions h f buffer)
  unfolding converting
  convert_tests buffer = (refl, says_bad_file h f, (refl, says_wide_record, (refl, says_room buffer, tt)))

-- ---- the file in the other version

-- a challenge of a known version that records of the other can hold fits the other's width
fits_width : (f : List ℕ) (c : ℕ) → IsVersion (file_version f) → c < 256 ^ width_of (file_version f) → Narrow (other_version (file_version f)) c
    → c < 256 ^ width_of (other_version (file_version f))
unfolding width_of
fits_width f c known low narrow = elim (other_version_law (file_version f)) [
  | inl (one, two) ↦ rw two (omega (arith, narrow two))
  | inr (other, one) ↦
      let two : file_version f ≡ 2 = ⊎_elim (λ (e : file_version f ≡ 1). absurd (other e)) (λ e. e) known in
      let small : c < 256 ^ 2 = rw two at low in
      rw one (omega arith)
]

-- a list whose members are all kept by a function is
map_kept : {A : Type 0} (g : A → A) (xs : List A) → ((x : A) → Member x xs → g x ≡ x) → map g xs ≡ xs
map_kept g [] kept = refl
map_kept g (x ∷ xs) kept = ap₂ (λ y ys. y ∷ ys) (kept x (inl refl)) (map_kept g xs (λ y m. kept y (inr m)))

module _ (h : Header) (f : List ℕ) where
  -- it is as long as its count says
  pub length_converted : length (converted h f) ≡ record_start (width_of (other_version (file_version f))) h (count_field f)
  unfolding converted
  length_converted =
      length_file_in (other_version (file_version f)) h (rounds_of h f) ∙ ap (record_start (width_of (other_version (file_version f))) h) (length_rounds_of h f)

  -- its version is the other one
  pub converted_version : file_version (converted h f) ≡ other_version (file_version f)
  unfolding converted
  converted_version = version_file_in (other_version (file_version f)) h (rounds_of h f) (version_small (other_known (file_version f)))

  module _ (r : IsRoundFile h f) where
    -- its count is the file's
    pub converted_count : count_field (converted h f) ≡ count_field f
    unfolding converted
    converted_count =
        count_file_in (other_version (file_version f)) h (rounds_of h f) (omega (arith, length_rounds_of h f, r.few)) ∙ length_rounds_of h f

    -- it is a round file
    pub converted_file : IsRoundFile h (converted h f)
    unfolding converted
    converted_file = file_in_is_file (other_version (file_version f)) h (rounds_of h f) (other_known (file_version f)) (omega (arith, length_rounds_of h f, r.few))

    module _ (b : AllBytes f) (narrow : wide_record h f ≡ false) where
      -- the values of the rounds fit the other version
      fits_other : (round : Round) → Member round (rounds_of h f) → Words (width_of (other_version (file_version f))) h round
      unfolding challenge_width
      fits_other =
          each_round h f (Words (width_of (other_version (file_version f))) h) (λ k below.
          let words = round_at_words (challenge_width f) h f (record_start (challenge_width f) h k) b in
          record {
            commitment = words.commitment;
            challenge = fits_width f _ r.version words.challenge ((narrow_records h f).0 narrow k below);
            response = words.response;
          })

      -- it has the same rounds
      pub converted_rounds : rounds_of h (converted h f) ≡ rounds_of h f
      unfolding converted
      converted_rounds =
          rounds_of_file_in (other_version (file_version f)) h (rounds_of h f) (version_small (other_known (file_version f))) (omega (arith, length_rounds_of h f, r.few))
          fits_other
          ∙ map_kept (padded_round h) (rounds_of h f) (each_round h f (λ round. padded_round h round ≡ round) (λ k below. round_at_padded _ h f _))

      -- record by record
      pub converted_round : (k : ℕ) → k < count_field f
          → round_at (challenge_width (converted h f)) h (converted h f) (record_start (challenge_width (converted h f)) h k)
          ≡ round_at (challenge_width f) h f (record_start (challenge_width f) h k)
      converted_round k below =
          sym (round_of_law h (converted h f) k (omega (arith, converted_count)))
          ∙ ap (λ (rounds : List Round). get_or rounds k no_round) converted_rounds ∙ round_of_law h f k below

      -- its challenges fit the file's version
      pub converted_narrow : wide_record h (converted h f) ≡ false
      unfolding challenge_width
      converted_narrow =
          (narrow_records h (converted h f)).1 (λ k below two.
          let inside : k < count_field f = omega (arith, converted_count) in
          let words = round_at_words (challenge_width f) h f (record_start (challenge_width f) h k) b in
          rw (converted_round k inside)
          (width_narrow (file_version f) _ words.challenge (sym (other_again r.version converted_version) ∙ two)))

      -- and it is converted back to the file
      pub converted_again : converted h (converted h f) ≡ f
      unfolding converted
      converted_again =
          ap₂ (λ (version : ℕ) (rounds : List Round). file_in version h rounds)
          (other_again r.version converted_version) converted_rounds
          ∙ file_in_rounds_of h f r b
