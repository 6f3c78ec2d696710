-- A round appended to a file in use: the bytes in use are then the file with the record behind it and the count field raised by
-- one, which is a round file and reads back as the rounds that were there, followed by the round.
-- Assumes nothing.
use Prim.Native.Nat.{ℕ, ◌+◌, ◌<◌, ◌≤◌}
use mathlib.Core.Path.{◌≡◌, sym, ap, ap₂, ◌∙◌}
use mathlib.Core.List.{List, [], ◌∷◌, ◌++◌, append-nil}
use native.Mathlib.Numerals.{add-one}
use native.Mathlib.Omega.{arith}
use lib.ListN.{length, get_or, take, length-append, get_or-append}
use lib.Seq.{length-sets, length-take-le, sets, sets-eq, take-append-le, take_at}
use Rattle.types.specs.declared.Header.{Header}
use Rattle.types.specs.declared.Round.{Round}
use Rattle.encoding.specs.Bytes.{bytes_of}
use Rattle.encoding.proofs.Bytes.{length_bytes_of, number_at_agree, number_at_sets}
use Rattle.encoding.proofs.Replaced.{get_d_sets_before, get_d_sets_behind, take_sets_before, take_sets_inside}
use Rattle.lists.specs.Places.{tabulate}
use Rattle.lists.proofs.Places.{tabulate_agree, tabulate_suc}
use Rattle.sigma.specs.Reads.{padded_round}
use Rattle.formats.specs.Append.{append, appended}
use Rattle.formats.specs.Meaning.{InUse, IsRoundFile}
use Rattle.formats.specs.Ours.{file_calls}
use Rattle.formats.specs.RoundFile.{challenge_width, count_field, file_version, record_bytes, record_length, record_start, round_at, width_in_use}
use Rattle.formats.specs.Rounds.{Grows, Words, rounds_of}
use Rattle.formats.specs.Sheet.{header_of}
use Rattle.formats.proofs.Appending.{append_given, append_runs, in_use_count, in_use_long, length_record_bytes}
use Rattle.formats.proofs.Files.{count_given, count_runs, record_behind, rounds_read_law, width_version}
use Rattle.formats.proofs.Records.{record_start_later, record_start_suc, round_at_agree, round_at_record_bytes}

-- a file with the bytes of one more record behind it and the count field raised by one
abbrev pub grown : Header → List ℕ → Round → List ℕ
grown h f round = sets (f ++ record_bytes (challenge_width f) h round) 5 (bytes_of 2 (count_field f + 1))

-- a round file has at least seven bytes
pub file_long : {h : Header} {f : List ℕ} → IsRoundFile h f → 7 ≤ length f
file_long {h} {f} r = omega (arith, r.exact, record_behind (challenge_width f) h (count_field f))

-- the bytes in use after the record writer
pub in_use_grown : {h : Header} {buffer : List ℕ} {used : ℕ} → InUse h buffer used → (round : Round)
    → used + record_length (width_in_use buffer used) h ≤ length buffer
    → take (used + record_length (width_in_use buffer used) h) (appended h buffer used round) ≡ grown h (take used buffer) round
unfolding appended
in_use_grown {h} {buffer} {used} u round fits =
    let bytes = record_bytes (width_in_use buffer used) h round in
    let size = length_record_bytes (width_in_use buffer used) h round in
    let raised = length_bytes_of 2 (count_field buffer + 1) in
    let front : length (take used buffer ++ bytes) ≡ used + record_length (width_in_use buffer used) h =
    length-append (take used buffer) bytes ∙ omega (arith, length-take-le used buffer u.inside) in
    take_sets_inside (used + record_length (width_in_use buffer used) h) (sets buffer used bytes) 5 (bytes_of 2 (count_field buffer + 1))
    (omega (arith, in_use_long u))
    ∙ ap₂ (λ (l : List ℕ) (n : ℕ). sets l 5 (bytes_of 2 (n + 1)))
    (ap (take (used + record_length (width_in_use buffer used) h)) (sets-eq bytes buffer used (omega arith))
    ∙ take_at (take used buffer ++ bytes) _ (used + record_length (width_in_use buffer used) h) front)
    (sym (in_use_count u))

module _ {h : Header} {f : List ℕ} (r : IsRoundFile h f) (room : count_field f < 512) (round : Round) where
  -- the length of the file with its record
  grown_length : length (grown h f round) ≡ record_start (challenge_width f) h (count_field f) + record_length (challenge_width f) h
  grown_length =
      simp (length-sets, length-append, length_record_bytes)
      (ap (λ (n : ℕ). n + record_length (challenge_width f) h) r.exact)

  -- a byte before the count field is the file's
  grown_before : (j : ℕ) → j < 5 → get_or (grown h f round) j 0 ≡ get_or f j 0
  grown_before j b =
      get_d_sets_before (f ++ record_bytes (challenge_width f) h round) 5 (bytes_of 2 (count_field f + 1)) j 0 b
      ∙ get_or-append f (record_bytes (challenge_width f) h round) 0 j (omega (arith, file_long r))

  -- a byte behind the count field is the file's or the record's
  grown_behind : (j : ℕ) → 7 ≤ j → get_or (grown h f round) j 0 ≡ get_or (f ++ record_bytes (challenge_width f) h round) j 0
  grown_behind j b =
      get_d_sets_behind (f ++ record_bytes (challenge_width f) h round) 5 (bytes_of 2 (count_field f + 1)) j 0
      (omega (arith, length_bytes_of 2 (count_field f + 1)))

  -- the count is one more
  grown_count : count_field (grown h f round) ≡ count_field f + 1
  unfolding count_field
  grown_count =
      number_at_sets 2 (count_field f + 1) (f ++ record_bytes (challenge_width f) h round) 5
      (omega (arith, file_long r, length-append f (record_bytes (challenge_width f) h round))) (omega arith)

  -- the version is the same
  grown_version : file_version (grown h f round) ≡ file_version f
  unfolding file_version
  grown_version = number_at_agree 2 (grown h f round) f 3 3 (λ k b. grown_before (3 + k) (omega arith))

  -- and so is the width of the challenges
  grown_width : challenge_width (grown h f round) ≡ challenge_width f
  grown_width = width_version (grown h f round) f grown_version

  -- it is a round file
  grown_file : IsRoundFile h (grown h f round)
  grown_file =
      let bytes = record_bytes (challenge_width f) h round in
      record {
        mark =
            take_sets_before 3 (f ++ bytes) 5 (bytes_of 2 (count_field f + 1)) (omega arith)
            ∙ take-append-le 3 f bytes (omega (arith, file_long r)) ∙ r.mark;
        version = rw grown_version r.version;
        few = omega (arith, grown_count);
        exact =
            grown_length ∙ sym (record_start_suc (challenge_width f) h (count_field f))
            ∙ ap₂ (λ (width n : ℕ). record_start width h n) (sym grown_width) (sym (grown_count ∙ add-one (count_field f)));
      }

  -- its rounds are those of the file, and the round
  grown_rounds : Words (challenge_width f) h round → rounds_of h (grown h f round) ≡ rounds_of h f ++ padded_round h round ∷ []
  unfolding rounds_of
  grown_rounds words =
      let bytes = record_bytes (challenge_width f) h round in
      let start = record_start (challenge_width f) h in
      let n = count_field f in
      let old =
      tabulate_agree n (λ k. round_at (challenge_width f) h (grown h f round) (start k)) (λ k. round_at (challenge_width f) h f (start k)) (λ k b.
      round_at_agree (challenge_width f) h (grown h f round) f (start k) (start k) (λ j c.
      let inside : start k + j < length f = omega (arith, r.exact, record_start_later (challenge_width f) h k n b) in
      grown_behind (start k + j) (omega (arith, record_behind (challenge_width f) h k)) ∙ get_or-append f bytes 0 (start k + j) inside)) in
      let new : round_at (challenge_width f) h (grown h f round) (start n) ≡ padded_round h round =
      round_at_agree (challenge_width f) h (grown h f round) (f ++ bytes ++ []) (start n) (length f) (λ j c.
      grown_behind (start n + j) (omega (arith, record_behind (challenge_width f) h n))
      ∙ ap₂ (λ (l : List ℕ) (at : ℕ). get_or l (at + j) 0) (sym (append-nil (f ++ bytes))) (sym r.exact))
      ∙ round_at_record_bytes (challenge_width f) h round f [] words.commitment words.challenge words.response in
      ap₂ (λ (k width : ℕ). tabulate k (λ k. round_at width h (grown h f round) (record_start width h k))) (grown_count ∙ add-one n) grown_width
      ∙ tabulate_suc n (λ k. round_at (challenge_width f) h (grown h f round) (start k))
      ∙ ap₂ (λ (rs : List Round) (r : Round). rs ++ r ∷ []) old new

-- a round that is appended stands behind the rounds that were there
pub append_grows : (s buffer : List ℕ) (used : ℕ) (round : Round) → (append s buffer used round).answer.refusal ≡ 0
    → Grows file_calls s (take used buffer) round (take (append s buffer used round).answer.length (append s buffer used round).buffer)
unfolding file_version
append_grows s buffer used round e =
    let f = take used buffer in
    let (l, u, narrow, fits) = (append_runs s buffer used round).0 e in
    let file = grown_file u.file u.room round in
    let before = count_given s f ((count_runs s f).1 (l, u.file)) in
    rw (append_given s buffer used round e, in_use_grown u round fits) (record {
      version = grown_version u.file u.room round;
      count = count_given s _ ((count_runs s _).1 (l, file)) ∙ rw (grown_count u.file u.room round, before);
      rounds = λ words.
          rounds_read_law s _ l file ∙ grown_rounds u.file u.room round words
          ∙ ap (λ (rs : List Round). rs ++ padded_round (header_of s) round ∷ []) (sym (rounds_read_law s f l u.file));
    })
