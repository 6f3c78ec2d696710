-- The converter, return by return. `tested` is what the test before the return answered.
-- Assumes nothing.
use Prim.Native.Nat.{ℕ, ◌<◌, ◌≤◌}
use mathlib.Core.Path.{◌≡◌, sym, ap, ap₂, ◌∙◌}
use mathlib.Core.Bool.{Bool, true, false}
use mathlib.Core.List.{List, [], ◌++◌}
use native.Mathlib.Omega.{arith}
use lib.ListN.{length}
use lib.Seq.{sets}
use borrow.Author.Tests.{lt-ltb}
use Rattle.types.specs.declared.Header.{Header}
use Rattle.encoding.specs.Bytes.{bytes_of}
use Rattle.encoding.specs.Placed.{Placed}
use Rattle.encoding.proofs.Placed.{placed_behind, placed_number, placed_stored}
use Rattle.rules.specs.Call.{answer, number_of}
use Rattle.rules.proofs.Lowest.{clear_lowest, lowest_clear, lowest_earlier, pass, stop}
use Rattle.refusals.specs.declared.Refusal.{Refusal}
use Rattle.refusals.specs.Number.{number}
use Rattle.refusals.proofs.Positive.{call_answered, call_refused, number_positive}
use Rattle.formats.specs.Convert.{converted, converting, other_version, wide_record}
use Rattle.formats.specs.Meaning.{IsRoundFile}
use Rattle.formats.specs.RoundCalls.{counting}
use Rattle.formats.specs.RoundFile.{bad_file, count_field, file_version, record_start, round_mark}
use Rattle.formats.specs.Rounds.{file_in, rounds_of}
use Rattle.formats.specs.Write.{short}
use Rattle.formats.proofs.Converting.{length_converted}
use Rattle.formats.proofs.Files.{file_passes, length_round_mark, record_behind}
use Rattle.formats.proofs.Growing.{file_long}
use Rattle.formats.proofs.Rounds.{length_rounds_of}
use Rattle.formats.proofs.Writing.{Leaves, leaves, short_passes}
use Rattle.round_layout.proofs.FileTest.{file_clear}
use Rattle.converter.specs.Records.{other_records, other_width}

module _ (h : Header) (f buffer : List ℕ) where
  -- a file that is no round file of the sheet is refused with its number
  pub file_stops : (refusal : Refusal) → number refusal ≡ number_of (counting h f) → number refusal ≡ number_of (converting h f buffer)
  unfolding counting converting number_of
  file_stops refusal tested =
      let some : 0 < number_of (counting h f) = omega (arith, tested, number_positive refusal) in
      tested ∙ sym (lowest_earlier (counting h f).refusals _ some)

  module _ (tested : 0 ≡ number_of (counting h f)) {wide : Bool} (wide_tested : wide ≡ wide_record h f) where
    -- a file that passes is a round file
    file_good : bad_file h f ≡ false
    file_good = (file_passes h f).1 (file_clear h f tested)

    -- a record that the other version cannot hold is refused
    pub wide_stops : wide ≡ true → 15 ≡ number_of (converting h f buffer)
    unfolding converting number_of
    wide_stops e = sym (pass 12 _ file_good ∙ stop 15 _ (sym wide_tested ∙ e))

    module _ (narrow : wide ≡ false) {size : ℕ} (is_size : size ≡ record_start (other_width f) h (count_field f)) where
      -- a buffer that is shorter than the result is refused
      pub room_stops : length buffer < size → 22 ≡ number_of (converting h f buffer)
      unfolding converting number_of short
      room_stops less =
          sym (pass 12 _ file_good ∙ pass 15 _ (sym wide_tested ∙ narrow)
          ∙ stop 22 [] (lt-ltb (length buffer) _ (rw (← is_size) less)))

      -- one that can hold it is not
      pub convert_passes : size ≤ length buffer → 0 ≡ number_of (converting h f buffer)
      unfolding converting number_of
      convert_passes fits =
          let room = (short_passes buffer (record_start (other_width f) h (count_field f))).1 (rw (← is_size) fits) in
          sym (lowest_clear _ (file_good, (sym wide_tested ∙ narrow, (room, tt))))

  -- a refused call keeps the buffer
  pub convert_none : (refusal : Refusal) → number refusal ≡ number_of (converting h f buffer)
      → Leaves (record { refusal = number refusal; length = 0 }) buffer (answer (converting h f buffer))
  unfolding converting
  convert_none refusal tested = leaves (call_refused (converting h f buffer) refusal tested)

  module _ (tested : 0 ≡ number_of (converting h f buffer)) where
    -- if nothing is refused, the file is a round file of the sheet and the buffer can hold the result
    pub convert_clear : IsRoundFile h f × (record_start (other_width f) h (count_field f) ≤ length buffer)
    unfolding converting number_of
    convert_clear =
        let (file, (narrow, (room, none))) = clear_lowest (converting h f buffer).refusals tt (sym tested) in
        ((file_passes h f).0 file, (short_passes buffer _).0 room)

    -- each of them has the seven bytes before the records
    pub seven_bytes : (7 ≤ length f) × (7 ≤ length buffer)
    seven_bytes =
        let (file, room) = convert_clear in
        (file_long file, omega (arith, record_behind (other_width f) h (count_field f)))

    -- a call that is not refused leaves the mark, the version, the count and the records
    pub convert_made : {version count size : ℕ} {marked versioned counted after : List ℕ}
        → marked ≡ sets buffer 0 round_mark
        → version ≡ other_version (file_version f) → versioned ≡ sets marked 3 (bytes_of 2 version)
        → count ≡ count_field f → counted ≡ sets versioned 5 (bytes_of 2 count)
        → after ≡ sets counted 7 (other_records h f (count_field f))
        → size ≡ record_start (other_width f) h (count_field f)
        → Leaves (record { refusal = 0; length = size }) after (answer (converting h f buffer))
    unfolding converting converted file_in other_records rounds_of
    convert_made {version} {count} is_marked is_version is_versioned is_count is_counted is_after is_size =
        let mark : Placed buffer 0 round_mark _ 3 = record { stored = is_marked; behind = omega (arith, length_round_mark) } in
        let fields = placed_number (placed_number mark 2 version is_versioned) 2 count is_counted in
        let bytes : ℕ → ℕ → List ℕ = λ v n. round_mark ++ bytes_of 2 v ++ bytes_of 2 n ++ other_records h f (count_field f) in
        let whole : _ ≡ sets buffer 0 (bytes version count) =
        (placed_behind fields (placed_stored _ 7 (other_records h f (count_field f)) is_after)).stored in
        let same = ap₂ (λ (v n : ℕ). sets buffer 0 (bytes v n)) is_version (is_count ∙ sym (length_rounds_of h f)) in
        let (answers, bytes_left) = leaves (call_answered (converting h f buffer) tested) in (
          ap (λ (n : ℕ). record { refusal = 0; length = n }) (is_size ∙ sym (length_converted h f)) ∙ answers,
          whole ∙ same ∙ bytes_left,
        )
