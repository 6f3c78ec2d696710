-- The call that converts a round file (02, card 7): when it runs, what it leaves in the buffer, and that the calls which read
-- files answer the same on the result as on the original.
-- Assumes nothing.
use Prim.Native.Nat.{ℕ, ◌≤◌}
use mathlib.Core.Path.{◌≡◌, refl, sym, ap, subst, ◌∙◌}
use mathlib.Core.Bool.{false}
use mathlib.Core.Logic.{◌↔◌}
use mathlib.Core.List.{List}
use native.Mathlib.Decide.{dec_lt}
use native.Mathlib.Omega.{arith}
use lib.ListN.{length}
use Rattle.types.specs.declared.Round.{Round}
use Rattle.encoding.specs.Bytes.{AllBytes}
use Rattle.rules.specs.Call.{number_of}
use Rattle.rules.proofs.Call.{answer_number}
use Rattle.formats.specs.Convert.{convert, converted, converting, other_version, wide_record}
use Rattle.formats.specs.Load.{on_sheet}
use Rattle.formats.specs.Meaning.{IsRoundFile, Loads}
use Rattle.formats.specs.Outcome.{Puts}
use Rattle.formats.specs.RoundCalls.{check_round, checking, count_rounds, fetch_round, no_round}
use Rattle.formats.specs.RoundFile.{count_field, file_version, record_start, width_of}
use Rattle.formats.specs.Sheet.{header_of}
use Rattle.formats.proofs.Converting.{
  converted_again,
  converted_count,
  converted_file,
  converted_narrow,
  converted_round,
  length_converted,
}
use Rattle.formats.proofs.Files.{check_runs, count_given, count_runs, fetch_given, fetch_refused, file_passes}
use Rattle.formats.proofs.OnSheet.{on_sheet_runs}
use Rattle.formats.proofs.Writing.{short_passes, start_written}

module _ (s f buffer : List ℕ) where
  -- the number that it answers
  convert_number : (convert s f buffer).answer.refusal ≡ number_of (on_sheet s (converting (header_of s) f buffer))
  unfolding convert converting
  convert_number = answer_number (on_sheet s (converting (header_of s) f buffer)) (λ w. w.answer.refusal) refl (λ n. refl)

  -- it runs exactly where the sheet loads, the file is one of its round files, no challenge is too wide and the buffer can hold
  -- the result
  pub convert_runs : ((convert s f buffer).answer.refusal ≡ 0)
      ↔ (Loads s × IsRoundFile (header_of s) f × (wide_record (header_of s) f ≡ false)
      × (record_start (width_of (other_version (file_version f))) (header_of s) (count_field f) ≤ length buffer))
  unfolding converting
  convert_runs =
      let h = header_of s in
      let runs = on_sheet_runs s (converting h f buffer) tt in
      let room = short_passes buffer (record_start (width_of (other_version (file_version f))) h (count_field f)) in (
        λ e.
            let (l, (file, (narrow, (fits, none)))) = runs.0 (sym convert_number ∙ e) in
            (l, (file_passes h f).0 file, narrow, room.0 fits),
        λ (l, r, narrow, fits). convert_number ∙ runs.1 (l, ((file_passes h f).1 r, (narrow, (room.1 fits, tt)))),
      )

  -- it then puts the file in the other version at the start of the buffer
  pub convert_puts : (convert s f buffer).answer.refusal ≡ 0 → Puts (converted (header_of s) f) buffer (convert s f buffer)
  unfolding convert converting
  convert_puts e =
      let (l, r, narrow, fits) = convert_runs.0 e in
      start_written _ (converted (header_of s) f) buffer e (omega (arith, length_converted (header_of s) f))

-- ---- what is read of the result

module _ (s f : List ℕ) (l : Loads s) (r : IsRoundFile (header_of s) f) where
  -- its rounds are counted as the file's
  pub convert_count : count_rounds s (converted (header_of s) f) ≡ count_rounds s f
  convert_count =
      let g = converted (header_of s) f in
      count_given s g ((count_runs s g).1 (l, converted_file (header_of s) f r))
      ∙ ap (λ (n : ℕ). record { refusal = 0; count = n }) (converted_count (header_of s) f r)
      ∙ sym (count_given s f ((count_runs s f).1 (l, r)))

  -- a round number is checked as the file's
  pub convert_check : (k : ℕ) → check_round s (converted (header_of s) f) k ≡ check_round s f k
  unfolding check_round checking
  convert_check k =
      let h = header_of s in
      rw (
        converted_count h f r,
        (file_passes h (converted h f)).1 (converted_file h f r),
        (file_passes h f).1 r,
      )

  module _ (b : AllBytes f) (narrow : wide_record (header_of s) f ≡ false) where
    -- a round is read as the file's
    pub convert_fetch : (k : ℕ) → fetch_round s (converted (header_of s) f) k ≡ fetch_round s f k
    convert_fetch k =
        let h = header_of s in
        let same = convert_check k in
        elim (dec_lt 0 (check_round s f k)) [
          | yes some ↦
              fetch_refused s (converted h f) k (rw same some)
              ∙ ap (λ (n : ℕ). record { refusal = n; round = no_round }) same ∙ sym (fetch_refused s f k some)
          | no none ↦
              let passed : check_round s f k ≡ 0 = omega arith in
              let (sheet, file, below) = (check_runs s f k).0 passed in
              fetch_given s (converted h f) k (same ∙ passed)
              ∙ ap (λ (round : Round). record { refusal = 0; round = round }) (converted_round h f r b narrow k below)
              ∙ sym (fetch_given s f k passed)
        ]

    -- the result is converted to the file
    pub convert_again : (buffer : List ℕ) → length f ≤ length buffer → Puts f buffer (convert s (converted (header_of s) f) buffer)
    convert_again buffer fits =
        let h = header_of s in
        let g = converted h f in
        let size = length_converted h g in
        let back = converted_again h f r b narrow in
        let runs = (convert_runs s g buffer).1 (l, converted_file h f r, converted_narrow h f r b narrow, omega (arith, ap length back)) in
        subst (λ (bytes : List ℕ). Puts bytes buffer (convert s g buffer)) back (convert_puts s g buffer runs)
