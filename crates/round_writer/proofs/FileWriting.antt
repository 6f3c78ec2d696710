-- The calls that write a round file, return by return. `tested` is what the test before the return answered.
-- Assumes nothing.
use Prim.Native.Nat.{ℕ, ◌+◌, ◌-◌, ◌*◌, ◌≤◌, ◌<◌}
use mathlib.Core.Path.{◌≡◌, refl, sym, ap, ◌∙◌}
use mathlib.Core.Bool.{Bool, true, false, not-eq-not}
use mathlib.Core.List.{List, [], ◌∷◌, ◌++◌}
use native.Mathlib.Omega.{arith}
use lib.ListN.{length, take, drop}
use lib.Seq.{sets}
use borrow.Author.Tests.{lt-ltb}
use Rattle.types.specs.declared.Header.{Header}
use Rattle.types.specs.declared.Round.{Round}
use Rattle.lists.specs.Places.{places}
use Rattle.lists.proofs.Places.{length_places}
use Rattle.encoding.specs.Bytes.{bytes_of, bytes_of_each}
use Rattle.encoding.specs.Placed.{Placed}
use Rattle.encoding.proofs.Bytes.{length_bytes_of_each, number_at_take}
use Rattle.encoding.proofs.Placed.{placed_number, placed_words}
use Rattle.encoding.proofs.Replaced.{part_replaced_front}
use Rattle.rules.specs.Call.{answer, number_of}
use Rattle.rules.specs.Rule.{◌when◌}
use Rattle.rules.proofs.Call.{tested_refused, tested_value}
use Rattle.rules.proofs.Lowest.{clear_lowest, lowest_clear, pass, stop}
use Rattle.refusals.specs.declared.Refusal.{Refusal}
use Rattle.refusals.specs.Number.{number}
use Rattle.refusals.proofs.Positive.{call_answered, call_refused}
use Rattle.formats.specs.Append.{appended, appending, empty_file, starting, wide_challenge}
use Rattle.formats.specs.Meaning.{InUse}
use Rattle.formats.specs.RoundFile.{
  challenge_width,
  count_field,
  file_version,
  no_rounds,
  record_bytes,
  record_length,
  round_mark,
  unknown_version,
  width_in_use,
}
use Rattle.formats.specs.Write.{short}
use Rattle.formats.proofs.Appending.{in_use_long, length_record_bytes}
use Rattle.formats.proofs.Files.{in_use_passes, length_round_mark, width_version}
use Rattle.formats.proofs.Writing.{Leaves, leaves, length_no_rounds, short_passes}

module _ (version : ℕ) (buffer : List ℕ) where
  -- the mark, the version and the count of no rounds stored one behind the other are the file of no rounds stored
  no_rounds_stored : sets (sets (sets buffer 0 round_mark) 3 (bytes_of 2 version)) 5 (bytes_of 2 0) ≡ sets buffer 0 (no_rounds version)
  unfolding no_rounds
  no_rounds_stored =
      let mark : Placed buffer 0 round_mark (sets buffer 0 round_mark) 3 =
      record { stored = refl; behind = omega (arith, length_round_mark) } in
      (placed_number (placed_number mark 2 version refl) 2 0 refl).stored

  module _ {unknown : Bool} (tested : unknown ≡ unknown_version version) where
    -- an unknown version is refused, and the buffer kept
    pub empty_unknown : unknown ≡ true → Leaves (record { refusal = 12; length = 0 }) buffer (empty_file version buffer)
    unfolding empty_file starting number_of
    empty_unknown e =
        let number = stop 12 ((22 when short buffer (length (no_rounds version))) ∷ []) (sym tested ∙ e) in
        leaves (tested_refused (starting version buffer) (sym number) (λ (z : 12 ≡ 0). omega arith))

    -- a buffer of under seven bytes is kept
    pub empty_none : unknown ≡ false → length buffer < 7
        → Leaves (record { refusal = 22; length = 0 }) buffer (empty_file version buffer)
    unfolding empty_file starting number_of short
    empty_none e less =
        let few = lt-ltb (length buffer) (length (no_rounds version)) (omega (arith, length_no_rounds version)) in
        let number = pass 12 _ (sym tested ∙ e) ∙ stop 22 [] few in
        leaves (tested_refused (starting version buffer) (sym number) (λ (z : 22 ≡ 0). omega arith))

    -- in any other the mark, the version and the count of no rounds are stored
    pub empty_made : {marked versioned after : List ℕ} → unknown ≡ false → 7 ≤ length buffer
        → marked ≡ sets buffer 0 round_mark → versioned ≡ sets marked 3 (bytes_of 2 version) → after ≡ sets versioned 5 (bytes_of 2 0)
        → Leaves (record { refusal = 0; length = 7 }) after (empty_file version buffer)
    unfolding empty_file starting number_of
    empty_made e room is_marked is_versioned is_after =
        let size = length_no_rounds version in
        let fits = (short_passes buffer (length (no_rounds version))).1 (omega arith) in
        let number = lowest_clear (starting version buffer).refusals (sym tested ∙ e, (fits, tt)) in
        let (answers, bytes) = leaves (tested_value (starting version buffer) (sym number) refl) in (
          ap (λ (n : ℕ). record { refusal = 0; length = n }) (sym size) ∙ answers,
          rw (is_after, is_versioned, is_marked) no_rounds_stored ∙ bytes,
        )

-- the three fields of a record stored one behind the other are the record stored
pub record_stored : (width : ℕ) (h : Header) (round : Round) (l : List ℕ) {with_t with_c with_r : List ℕ}
    → with_t ≡ sets l 0 (bytes_of_each 4 (places h.rows round.commitment))
    → with_c ≡ sets with_t (4 * h.rows) (bytes_of width round.challenge)
    → with_r ≡ sets with_c (4 * h.rows + width) (bytes_of_each 4 (places h.columns round.response))
    → with_r ≡ sets l 0 (record_bytes width h round)
unfolding record_bytes
record_stored width h round l is_t is_c is_r =
    let t = places h.rows round.commitment in
    let commitment : Placed l 0 (bytes_of_each 4 t) _ (4 * h.rows) = record {
      stored = is_t;
      behind = omega (arith, length_bytes_of_each 4 t, length_places h.rows round.commitment);
    } in
    let challenge = placed_number commitment width round.challenge is_c in
    (placed_words challenge h.columns (places h.columns round.response) is_r (length_places _ _)).stored

-- the width of the bytes in use stands in the buffer
pub in_use_width : {h : Header} {buffer : List ℕ} {used : ℕ} → InUse h buffer used
    → width_in_use buffer used ≡ challenge_width buffer
unfolding file_version
in_use_width {buffer = buffer} {used} u =
    width_version (take used buffer) buffer (number_at_take 2 used buffer 3 (omega (arith, in_use_long u)))

module _ (h : Header) (buffer : List ℕ) (used : ℕ) (round : Round) where
  -- bytes in use that are no round file with room for a round are refused
  pub in_use_refused : ¬ InUse h buffer used → 12 ≡ number_of (appending h buffer used round)
  unfolding appending number_of
  in_use_refused other = sym (stop 12 _ ((not-eq-not {b = true}).0 (λ e. other ((in_use_passes h buffer used).0 e))))

  module _ (u : InUse h buffer used) {version : ℕ} {wide : Bool} (is_version : version ≡ file_version (take used buffer))
      (tested : wide ≡ wide_challenge version round.challenge) where
    -- the test of the challenge is the rule's
    wide_tested : wide ≡ wide_challenge (file_version (take used buffer)) round.challenge
    wide_tested = tested ∙ ap (λ (v : ℕ). wide_challenge v round.challenge) is_version

    -- a challenge that a record of the version cannot hold is refused
    pub wide_refused : wide ≡ true → 15 ≡ number_of (appending h buffer used round)
    unfolding appending number_of
    wide_refused e = sym (pass 12 _ ((in_use_passes h buffer used).1 u) ∙ stop 15 _ (sym wide_tested ∙ e))

    module _ (narrow : wide ≡ false) {width size : ℕ} (is_width : width ≡ width_in_use buffer used)
        (is_size : size ≡ record_length width h) where
      -- a buffer without room for the record is refused
      pub room_refused : length buffer < used + size → 22 ≡ number_of (appending h buffer used round)
      unfolding appending number_of short
      room_refused less =
          sym (pass 12 _ ((in_use_passes h buffer used).1 u) ∙ pass 15 _ (sym wide_tested ∙ narrow)
          ∙ stop 22 [] (lt-ltb (length buffer) (used + record_length (width_in_use buffer used) h) (rw (← is_width, ← is_size) less)))

      -- one with room is not
      pub append_passes : used + size ≤ length buffer → 0 ≡ number_of (appending h buffer used round)
      unfolding appending number_of
      append_passes fits =
          let room = (short_passes buffer (used + record_length (width_in_use buffer used) h)).1 (rw (← is_width, ← is_size) fits) in
          sym (lowest_clear _ ((in_use_passes h buffer used).1 u, (sym wide_tested ∙ narrow, (room, tt))))

  -- a refused call keeps the buffer
  pub append_none : (refusal : Refusal) → number refusal ≡ number_of (appending h buffer used round)
      → Leaves (record { refusal = number refusal; length = 0 }) buffer (answer (appending h buffer used round))
  unfolding appending
  append_none refusal tested = leaves (call_refused (appending h buffer used round) refusal tested)

  module _ (tested : 0 ≡ number_of (appending h buffer used round)) where
    -- where nothing is refused, the bytes in use are a round file with room for a round
    in_use_there : InUse h buffer used
    unfolding appending number_of
    in_use_there = (in_use_passes h buffer used).0 (clear_lowest (appending h buffer used round).refusals tt (sym tested)).0

    -- the buffer then has the seven bytes before the records
    pub seven_used : 7 ≤ length buffer
    seven_used = omega (arith, in_use_long in_use_there, in_use_there.inside)

    -- and room for the record
    pub record_room : {width : ℕ} → width ≡ challenge_width buffer → used + record_length width h ≤ length buffer
    unfolding appending number_of
    record_room is_width =
        let (file, (narrow, (room, none))) = clear_lowest (appending h buffer used round).refusals tt (sym tested) in
        rw (is_width, ← in_use_width in_use_there) ((short_passes buffer _).0 room)

    -- a call that is not refused answers the bytes in use and leaves the record and the raised count
    pub append_record : {count width size : ℕ} {part after : List ℕ}
        → count ≡ count_field buffer → width ≡ challenge_width buffer → size ≡ record_length width h
        → part ≡ sets (take (length buffer - used) (drop used buffer)) 0 (record_bytes width h round)
        → after ≡ sets (take used buffer ++ (part ++ drop (length buffer - used) (drop used buffer))) 5 (bytes_of 2 (count + 1))
        → Leaves (record { refusal = 0; length = used + size }) after (answer (appending h buffer used round))
    unfolding appending appended
    append_record {width = width} {after = after} is_count is_width is_size is_part is_after =
        let same : width_in_use buffer used ≡ width = in_use_width in_use_there ∙ sym is_width in
        let bytes = record_bytes width h round in
        let room : length bytes ≤ length buffer - used = omega (arith, length_record_bytes width h round, record_room is_width) in
        let back = part_replaced_front used (length buffer - used) buffer bytes room in
        let stored : after ≡ appended h buffer used round = rw (same, is_after, is_part, is_count, back) in
        let (answers, bytes_left) = leaves (call_answered (appending h buffer used round) tested) in (
          ap (λ (n : ℕ). record { refusal = 0; length = used + n }) (is_size ∙ ap (λ (k : ℕ). record_length k h) (sym same)) ∙ answers,
          stored ∙ bytes_left,
        )
