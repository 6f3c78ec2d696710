-- The commitment of round 0 by the file's bytes: the words from byte 7 on are what the read call gives, in both versions.
-- Assumes nothing.
use Prim.Native.Nat.{ℕ}
use mathlib.Core.Path.{◌≡◌, refl, sym, ap, ◌∙◌}
use mathlib.Core.List.{List}
use native.Mathlib.Nat.{zero-mul}
use native.Mathlib.Omega.{arith}
use Rattle.types.specs.declared.Fetched.{Fetched}
use Rattle.encoding.specs.Bytes.{words_at}
use Rattle.lists.specs.Places.{pad8}
use Rattle.formats.specs.RoundCalls.{check_round}
use Rattle.formats.specs.RoundFile.{challenge_width, record_length, record_start, round_at}
use Rattle.formats.specs.Sheet.{header_of, instance_of}
use Rattle.formats.proofs.Files.{fetch_given}
use Rattle.runs.specs.Ours.{Accepts}
use Rattle.runs.proofs.ReadAlone.{judge_round_same}
use Rattle.sigma.specs.Reads.{Agree, SameRound, round_of}
use Rattle.games.specs.Ours.{AnswersOf}
use Rattle.games.specs.Prints.{commitment_words}
use Rattle.games.specs.Text.{named_commitment}

module _ (sheet f : List ℕ) (checked : check_round sheet f 0 ≡ 0) where
  -- the commitment of a round that is checked, in eight places
  pub named_words : named_commitment sheet f ≡ pad8 0 (commitment_words sheet f)
  unfolding named_commitment round_at record_start header_of
  named_words =
      let start : record_start (challenge_width f) (header_of sheet) 0 ≡ 7 =
      omega (arith, zero-mul (record_length (challenge_width f) (header_of sheet))) in
      ap (λ (fetched : Fetched). fetched.round.commitment) (fetch_given sheet f 0 checked)
      ∙ ap (λ (at : ℕ). pad8 0 (words_at f at (header_of sheet).rows)) start

-- the answers on a commitment are those on every other that agrees with it in s places
module _ (sheet t t' : List ℕ) (agree : Agree (header_of sheet).rows t t') where
  accepts_over : (c : ℕ) (r : List ℕ) → Accepts sheet (round_of t c r) → Accepts sheet (round_of t' c r)
  unfolding instance_of
  accepts_over c r e =
      let same : SameRound (header_of sheet) (round_of t' c r) (round_of t c r) =
      record { commitment = λ i b. sym (agree i b); challenge = refl; response = λ j b. refl } in
      judge_round_same sheet same ∙ e

  accepts_back : (c : ℕ) (r : List ℕ) → Accepts sheet (round_of t' c r) → Accepts sheet (round_of t c r)
  unfolding instance_of
  accepts_back c r e =
      let same : SameRound (header_of sheet) (round_of t c r) (round_of t' c r) =
      record { commitment = agree; challenge = refl; response = λ j b. refl } in
      judge_round_same sheet same ∙ e

  pub answers_agree : (challenges : List ℕ) (response : ℕ → List ℕ) → AnswersOf sheet t challenges response
      → AnswersOf sheet t' challenges response
  answers_agree challenges response answers = record {
    exactly = λ c. (
      λ m. let (r, e) = (answers.exactly c).0 m in (r, accepts_over c r e),
      λ (r, e). (answers.exactly c).1 (r, accepts_back c r e),
    );
    rising = answers.rising;
    smallest = λ c m.
        let s = answers.smallest c m in
        record {
          slots = s.slots;
          accepted = accepts_over c _ s.accepted;
          least = λ r e. s.least r (accepts_back c r e);
          leading = λ r e. s.leading r (accepts_back c r e);
        };
  }
