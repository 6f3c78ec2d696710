-- Writing into a lent buffer: a refused call changes no byte and answers length 0; a call that is not refused puts its bytes
-- at the start, answers their length and changes no byte after them.
-- Assumes nothing.
use Prim.Native.Nat.{ℕ, ◌<◌, ◌≤◌}
use mathlib.Core.Path.{◌≡◌, refl, sym, ap, ◌∙◌}
use mathlib.Core.Logic.{◌↔◌}
use mathlib.Core.Bool.{false, true}
use mathlib.Core.List.{List, [], ◌∷◌, ◌++◌}
use native.Mathlib.Omega.{arith}
use lib.ListN.{length, take, length-append}
use lib.Seq.{sets, length-sets}
use borrow.Author.Tests.{ltb-false, le-ltb}
use Rattle.types.specs.declared.Header.{Header}
use Rattle.types.specs.declared.Written.{Written}
use Rattle.encoding.proofs.Bytes.{length_bytes_of, length_bytes_of_each}
use Rattle.encoding.proofs.Replaced.{take_sets_front, drop_sets_front}
use Rattle.lists.proofs.Places.{length_places}
use Rattle.rules.specs.Call.{answer, number_of}
use Rattle.rules.specs.Condition.{Condition, Tests}
use Rattle.rules.specs.Order.{is_sublist, refusal_order}
use Rattle.rules.specs.Refuses.{Refuses, condition_numbers}
use Rattle.rules.specs.Rule.{Rule, ◌when◌, lowest}
use Rattle.rules.proofs.Call.{answer_number, answer_refused, answer_value}
use Rattle.rules.proofs.Lowest.{clear_append, clear_lowest, lowest_clear}
use Rattle.rules.proofs.Refuses.{refuses_call}
use Rattle.sigma.specs.Admission.{header_rules, element_rules}
use Rattle.sigma.specs.Instance.{Instance}
use Rattle.sigma.specs.Valid.{Valid}
use Rattle.sigma.proofs.Valid.{clear_valid}
use Rattle.formats.specs.Append.{empty_file, starting}
use Rattle.formats.specs.Encode.{encode, encoding, header_bytes, sheet_of}
use Rattle.formats.specs.Meaning.{IsVersion}
use Rattle.formats.specs.Outcome.{Keeps, Puts}
use Rattle.formats.specs.RoundFile.{no_rounds}
use Rattle.formats.specs.Sheet.{sheet_length}
use Rattle.formats.specs.Write.{Writing, short, writing, writing_at_start}
use Rattle.formats.proofs.Entries.{length_stored_entries}
use Rattle.formats.proofs.Files.{length_round_mark, version_passes}
use Rattle.formats.proofs.Loads.{length_sheet_mark}
use Rattle.formats.proofs.Positive.{encode_positive}

-- ---- any writing call

-- a call's answer and the bytes that it leaves in the buffer are those of an outcome
abbrev pub Leaves : Written → List ℕ → Writing → Type 0
Leaves answer bytes w = (answer ≡ w.answer) × (bytes ≡ w.buffer)

-- so they are if both make up the outcome
pub leaves : {w w' : Writing} → w ≡ w' → Leaves w.answer w.buffer w'
leaves same = (λ j. (same j).answer, λ j. (same j).buffer)

-- not 22: the buffer is as long as the result
pub short_passes : (buffer : List ℕ) (needed : ℕ) → (short buffer needed ≡ false) ↔ (needed ≤ length buffer)
unfolding short
short_passes buffer needed = (ltb-false (length buffer) needed, le-ltb (length buffer) needed)

module _ (refusals : List Rule) (used : ℕ) (left buffer : List ℕ) where
  -- the number answered is that of the first refusal that applies
  pub written_refusal : (answer (writing refusals used left buffer)).answer.refusal ≡ lowest refusals
  unfolding number_of
  written_refusal = answer_number (writing refusals used left buffer) (λ w. w.answer.refusal) refl (λ n. refl)

  -- a refused call keeps the buffer
  pub written_refused : 0 < (answer (writing refusals used left buffer)).answer.refusal
      → Keeps buffer (answer (writing refusals used left buffer))
  unfolding number_of
  written_refused some =
      rw (answer_refused (writing refusals used left buffer) (rw written_refusal at some)) (record { answered = refl; same = refl })

  -- a call that is not refused leaves its bytes and answers its length
  pub written_given : (answer (writing refusals used left buffer)).answer.refusal ≡ 0
      → answer (writing refusals used left buffer) ≡ record { answer = record { refusal = 0; length = used }; buffer = left }
  unfolding number_of
  written_given e = answer_value (writing refusals used left buffer) (sym written_refusal ∙ e)

-- what demand 1 asks of a writing call: its refusals test conditions with numbers in the order
pub writing_refuses : (numbers : List ℕ) (conditions : List Condition) → condition_numbers conditions ≡ numbers
    → is_sublist numbers refusal_order ≡ true → (refusals : List Rule) (used : ℕ) (left buffer : List ℕ) → Tests refusals conditions
    → Refuses numbers conditions (answer (writing refusals used left buffer)).answer.refusal
    (Keeps buffer (answer (writing refusals used left buffer)))
writing_refuses numbers conditions numbered ordered refusals used left buffer tests =
    refuses_call numbers conditions numbered ordered (writing refusals used left buffer) (λ w. w.answer.refusal) refl (λ n. refl)
    (Keeps buffer) tests (λ n. record { answered = refl; same = refl })

-- a call that is not refused and whose bytes the buffer can hold puts them at its start
pub start_written : (refusals : List Rule) (bytes buffer : List ℕ)
    → (answer (writing_at_start refusals bytes buffer)).answer.refusal ≡ 0 → length bytes ≤ length buffer
    → Puts bytes buffer (answer (writing_at_start refusals bytes buffer))
start_written refusals bytes buffer e fits =
    rw (written_given refusals (length bytes) (sets buffer 0 bytes) buffer e) (record {
      number = refl;
      answered = refl;
      start = take_sets_front buffer bytes fits;
      behind = drop_sets_front buffer bytes;
      size = length-sets buffer 0 bytes;
    })

-- the bytes that were put are what the answered length cuts out of the buffer
pub puts_front : {bytes buffer : List ℕ} {w : Writing} → Puts bytes buffer w → take w.answer.length w.buffer ≡ bytes
puts_front {w = w} p = ap (λ (n : ℕ). take n w.buffer) p.answered ∙ p.start

-- ---- the length of a sheet

-- the fixed fields are 20 bytes
pub length_header_bytes : (h : Header) → length (header_bytes h) ≡ 20
unfolding header_bytes
length_header_bytes h = simp (length-append, length_bytes_of, length_sheet_mark)

-- a sheet is as long as its header says
pub length_sheet_of : (i : Instance) → length (sheet_of i) ≡ sheet_length i.header
unfolding sheet_of sheet_length
length_sheet_of i =
    simp (length-append, length_header_bytes, length_bytes_of_each, length_places, length_stored_entries) (omega arith)

-- ---- the second writer

module _ (i : Instance) (buffer : List ℕ) where
  -- its number is what its rules give
  pub encode_refusal : (encode i buffer).answer.refusal ≡ lowest (encoding i buffer).refusals
  unfolding encode encoding
  encode_refusal = written_refusal _ _ _ _

  -- it runs exactly for Valid values and a buffer that can hold the sheet
  pub encode_runs : ((encode i buffer).answer.refusal ≡ 0) ↔ (Valid i × (sheet_length i.header ≤ length buffer))
  unfolding encoding
  encode_runs =
      let values = header_rules i.header ++ element_rules i in
      let room = (22 when short buffer (sheet_length i.header)) ∷ [] in
      let both = clear_append values room in
      let parts = clear_append (header_rules i.header) (element_rules i) in
      let passes = short_passes buffer (sheet_length i.header) in (
        λ e.
            let (valid, (fits, none)) = both.0 (clear_lowest (values ++ room) (encode_positive i buffer) (sym encode_refusal ∙ e)) in
            ((clear_valid i).0 (parts.0 valid), passes.0 fits),
        λ (v, fits).
            encode_refusal ∙ lowest_clear (values ++ room) (both.1 (parts.1 ((clear_valid i).1 v), (passes.1 fits, tt))),
      )

  -- it then puts the sheet at the start of the buffer
  pub encode_puts : (encode i buffer).answer.refusal ≡ 0 → Puts (sheet_of i) buffer (encode i buffer)
  unfolding encode encoding
  encode_puts e =
      start_written _ (sheet_of i) buffer e (omega (arith, length_sheet_of i, (encode_runs.0 e).1))

-- ---- the file of no rounds

-- it has seven bytes
pub length_no_rounds : (version : ℕ) → length (no_rounds version) ≡ 7
unfolding no_rounds
length_no_rounds version = simp (length-append, length_bytes_of, length_round_mark)

module _ (version : ℕ) (buffer : List ℕ) where
  -- it is made exactly in version 1 or 2 and in a buffer of at least seven bytes
  pub empty_runs : ((empty_file version buffer).answer.refusal ≡ 0) ↔ (IsVersion version × (7 ≤ length buffer))
  unfolding empty_file starting
  empty_runs =
      let rules = (starting version buffer).refusals in
      let size = length_no_rounds version in
      let passes = short_passes buffer (length (no_rounds version)) in (
        λ e.
            let (known, (fits, none)) = clear_lowest rules tt (sym (written_refusal _ _ _ buffer) ∙ e) in
            ((version_passes version).0 known, omega (arith, passes.0 fits)),
        λ (known, fits).
            written_refusal _ _ _ buffer ∙ lowest_clear rules ((version_passes version).1 known, (passes.1 (omega arith), tt)),
      )

  -- a refused call keeps the buffer
  pub empty_refused : 0 < (empty_file version buffer).answer.refusal → Keeps buffer (empty_file version buffer)
  unfolding empty_file starting
  empty_refused some = written_refused _ _ _ _ some

  -- else the file of no rounds stands at the start of the buffer
  pub empty_puts : (empty_file version buffer).answer.refusal ≡ 0 → Puts (no_rounds version) buffer (empty_file version buffer)
  unfolding empty_file starting
  empty_puts e =
      start_written _ (no_rounds version) buffer e (omega (arith, length_no_rounds version, (empty_runs.0 e).1))
