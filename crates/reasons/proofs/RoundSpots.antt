-- The spots of round 0, 14 to 16: each is the first value that breaks its rule.
-- Assumes nothing.
use Prim.Native.Nat.{ℕ, ◌+◌, ◌*◌, ◌≤◌}
use mathlib.Core.Path.{◌≡◌, refl, sym, ap, subst, ◌∙◌}
use mathlib.Core.List.{List, ◌++◌}
use native.Mathlib.Omega.{arith}
use Rattle.types.specs.declared.Fetched.{Fetched}
use Rattle.types.specs.declared.Round.{Round}
use Rattle.encoding.specs.Bytes.{number_at, words_at}
use Rattle.lists.specs.Places.{pad8}
use Rattle.rules.specs.Condition.{Given}
use Rattle.rules.proofs.Condition.{given_unique}
use Rattle.rules.proofs.Explains.{Explained, Explains, explain}
use Rattle.sigma.specs.Element.{Coordinate, Element, is_coordinate, is_element}
use Rattle.sigma.specs.Refusals.{judge_conditions}
use Rattle.sigma.proofs.Tests.{says_coordinate, says_element}
use Rattle.formats.specs.Refusals.{load_conditions, round_conditions}
use Rattle.formats.specs.RoundCalls.{check_round}
use Rattle.formats.specs.RoundFile.{challenge_width, record_start, round_at}
use Rattle.formats.specs.Sheet.{header_of, instance_of}
use Rattle.formats.proofs.ByteLayout.{word_at}
use Rattle.formats.proofs.Files.{fetch_given}
use Rattle.formats.proofs.FileRefusals.{file_refusals}
use Rattle.reasons.specs.Ours.{first_round}
use Rattle.reasons.specs.Reason.{first_non_coordinate, first_non_element, round_spot, spot_of}
use Rattle.reasons.proofs.Named.{Broken, Named, caused, in_file, value_named}
use Rattle.reasons.proofs.Words.{words_explained}

module _ (s f : List ℕ) where
  -- where none of 2 to 13 holds, round 0 passes the check
  pub check_none : Given (load_conditions s ++ round_conditions (header_of s) f 0) 0 → check_round s f 0 ≡ 0
  check_none none =
      given_unique (load_conditions s ++ round_conditions (header_of s) f 0) _ 0 (file_refusals.checking s f 0).given none

  -- 15: the challenge, behind the commitment
  challenge_explained : Explained (Named s f) (Broken s f) 15
      ((header_of s).challenges ≤ number_at (challenge_width f) f (7 + 4 * (header_of s).rows))
  unfolding spot_of round_spot header_of
  challenge_explained =
      let breaks = in_file s f 15 (λ o none. none) in (
        λ high. value_named s f 15 breaks (7 + 4 * (header_of s).rows) (refl, high) (λ p before x. omega arith) refl,
        caused s f 15 breaks
            (λ o (same, high). subst (λ (k : ℕ). (header_of s).challenges ≤ number_at (challenge_width f) f k) same high)
            (λ l none. absurd none),
      )

  -- 14 to 16 of the record that begins at 7
  record_explained : Explains (Named s f) (Broken s f) (judge_conditions (instance_of s) (round_at (challenge_width f) (header_of s) f 7))
  unfolding spot_of round_spot first_non_element first_non_coordinate header_of instance_of round_at
  record_explained =
      let h = header_of s in
      let response : ℕ = 7 + 4 * h.rows + challenge_width f in
      explain
      (words_explained (Element h) (is_element h) (says_element h) f 7 h.rows s f 14 (in_file s f 14 (λ o none. none)) refl
      (λ l none. none) (pad8 0 (words_at f 7 h.rows)) (word_at f 7 h.rows)) λ commitment.
      explain challenge_explained λ challenge.
      explain
      (words_explained (Coordinate h) (is_coordinate h) (says_coordinate h) f response h.columns s f 16
      (in_file s f 16 (λ o none. none)) refl (λ l none. none) (pad8 0 (words_at f response h.columns))
      (word_at f response h.columns)) λ slots. tt

  module _ (passed : check_round s f 0 ≡ 0) where
    -- where the check lets it pass, round 0 is that record
    pub first_record : first_round s f ≡ round_at (challenge_width f) (header_of s) f 7
    unfolding record_start
    first_record =
        ap (λ (answer : Fetched). answer.round) (fetch_given s f 0 passed)
        ∙ ap (round_at (challenge_width f) (header_of s) f) (omega arith)

    -- 14 to 16 of round 0
    pub round_explained : Explains (Named s f) (Broken s f) (judge_conditions (instance_of s) (first_round s f))
    round_explained =
        subst (λ (round : Round). Explains (Named s f) (Broken s f) (judge_conditions (instance_of s) round)) (sym first_record)
        record_explained
