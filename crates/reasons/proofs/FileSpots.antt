-- The spots of a round file, 12 and 13: each is the first value that breaks its rule, or the file's length.
-- Assumes nothing.
use Prim.Native.Nat.{ℕ}
use mathlib.Core.Path.{refl, ◌∙◌}
use mathlib.Core.List.{List}
use mathlib.Core.Logic.Iff
use mathlib.Core.Logic.{◌⊎◌, inl, inr, ⊎_elim}
use native.Mathlib.Omega.{arith}
use lib.ListN.{length}
use Rattle.rules.proofs.Explains.{Explains, explain}
use Rattle.rules.proofs.Says.{says_elim, says_false, says_less}
use Rattle.sigma.proofs.Comparison.{differ_false, says_differ}
use Rattle.formats.specs.Refusals.{Refusal12, round_conditions}
use Rattle.formats.specs.RoundFile.{count_field, file_version, record_length, record_start, round_mark}
use Rattle.formats.specs.Sheet.{header_of}
use Rattle.formats.proofs.Files.{version_passes}
use Rattle.formats.proofs.Tests.{says_unknown_version}
use Rattle.reasons.specs.Breaks.{RightStart}
use Rattle.reasons.specs.Reason.{file_spot, spot_of}
use Rattle.reasons.proofs.Named.{Broken, Named, caused, field_explained, in_file, length_named, value_named}

-- the last of five facts holds where the others fail
last : {A B C D E : Type 0} → ¬ A → ¬ B → ¬ C → ¬ D → A ⊎ B ⊎ C ⊎ D ⊎ E → E
last a b c d =
    ⊎_elim (λ x. absurd (a x)) (⊎_elim (λ x. absurd (b x)) (⊎_elim (λ x. absurd (c x)) (⊎_elim (λ x. absurd (d x)) (λ e. e))))

module _ (s f : List ℕ) where
  -- 12: a header that is too short, the mark, the version, the count, and last a length that does not fit
  start_named : Refusal12 (header_of s) f → Named s f 12
  unfolding spot_of file_spot round_mark file_version count_field record_start record_length header_of
  start_named wrong =
      let breaks = in_file s f 12 (λ o none. none) in
      let short = says_less (length f) 7 in
      let mark = says_differ 3 f round_mark in
      let version = says_unknown_version (file_version f) in
      let count = says_less 512 (count_field f) in
      says_elim short (λ low. length_named s f 12 (length f) (refl, inl low) (rw (short.complete low))) λ a.
      says_elim mark
      (λ other.
      value_named s f 12 breaks 0 (omega arith, inl (refl, other)) (λ p before. absurd (omega arith))
      (rw ((says_false short).1 a, mark.complete other))) λ b.
      says_elim version
      (λ other.
      value_named s f 12 breaks 3 (omega arith, inr (inl (refl, other)))
      (λ p before x. ⊎_elim (λ y. b y.1) (⊎_elim (λ y. omega arith) (λ y. omega arith)) x.1)
      (rw ((says_false short).1 a, (says_false mark).1 b, version.complete other))) λ c.
      says_elim count
      (λ many.
      value_named s f 12 breaks 5 (omega arith, inr (inr (refl, many)))
      (λ p before x. ⊎_elim (λ y. b y.1) (⊎_elim (λ y. c y.1) (λ y. omega arith)) x.1)
      (rw ((says_false short).1 a, (says_false mark).1 b, (says_false version).1 c, count.complete many))) λ d.
      let right : RightStart f = record {
        mark = (differ_false 3 f round_mark).0 ((says_false mark).1 b);
        version = (version_passes (file_version f)).0 ((says_false version).1 c);
        count = omega arith;
      } in
      length_named s f 12 (length f) (refl, inr (right, last a b c d wrong))
      (rw ((says_false short).1 a, (says_false mark).1 b, (says_false version).1 c, (says_false count).1 d))

  -- the other way
  start_caused : Broken s f 12 → Refusal12 (header_of s) f
  unfolding round_mark file_version count_field record_start record_length header_of
  start_caused =
      caused s f 12 (in_file s f 12 (λ o none. none))
      (λ o x.
      ⊎_elim (λ mark. inr (inl mark.1))
      (⊎_elim (λ version. inr (inr (inl version.1))) (λ count. inr (inr (inr (inl count.1))))) x.1)
      (λ l (same, fault).
      ⊎_elim (λ low. inl (omega arith)) (λ (right, other). inr (inr (inr (inr (λ exact. other (same ∙ exact)))))) fault)

  -- 12 and 13
  pub file_explained : Explains (Named s f) (Broken s f) (round_conditions (header_of s) f 0)
  unfolding spot_of file_spot count_field
  file_explained =
      explain (start_named, start_caused) λ file.
      explain
      (field_explained s f 13 5 (λ o. Iff.trans (in_file s f 13 (λ p none. none) o) (omega arith)) (λ l none. none) refl) λ number. tt
