-- How long the line of a round is at most that is not refused: 201 bytes, for eight rows with two numbers of ten digits.
-- Assumes nothing.
use Prim.Native.Nat.{ℕ, ◌%◌, ◌<◌, ◌≤◌}
use mathlib.Core.Path.{◌≡◌}
use mathlib.Core.List.{List, ◌++◌, flatten, map}
use mathlib.Core.Logic.{inl, inr, ⊎_elim}
use native.Mathlib.Nat.{mod-lt}
use native.Mathlib.Omega.{arith}
use lib.ListN.{get_or, length, length-append}
use Rattle.numbers.specs.Bits.{bit}
use Rattle.lists.proofs.Words.{words_short}
use Rattle.encoding.specs.Bytes.{AllBytes}
use Rattle.encoding.specs.Text.{ascii, decimal}
use Rattle.encoding.proofs.Text.{decimal_length}
use Rattle.encoding.proofs.Words.{number_fits}
use Rattle.formats.specs.Sheet.{header_of, instance_of}
use Rattle.formats.proofs.Loads.{loads_valid}
use Rattle.rules.proofs.Says.{says_decides}
use Rattle.sigma.specs.Answer.{rows_of}
use Rattle.sigma.specs.Image.{row_image}
use Rattle.sigma.specs.Instance.{Table, table_of}
use Rattle.sigma.proofs.ByKind.{row_image_exponent, row_image_root}
use Rattle.sigma.proofs.Tests.{says_exponent}
use Rattle.reasons.specs.Lines.{rejected_line}
use Rattle.reasons.specs.Ours.{first_round}
use Rattle.reasons.specs.Reason.{reason_number, reason_text, row_text}
use Rattle.reasons.specs.ReasonsTrue.{left_side, right_side, told_row}
use Rattle.reasons.proofs.Judged.{first_judged, reason_loads}
use Rattle.reasons.proofs.Line.{text_accepted, text_rejected}

-- a row and its two sides
row_short : (row left right : ℕ) → row < 8 → left < 4294967296 → right < 4294967296
    → length (ascii " " ++ decimal row ++ ascii " " ++ decimal left ++ ascii " " ++ decimal right) ≤ 24
unfolding ascii
row_short row left right few small small' =
    let one = decimal_length 0 row (omega arith) in
    let two = decimal_length 9 left (omega arith) in
    let three = decimal_length 9 right (omega arith) in
    simp length-append (omega arith)

-- a line of such rows
line_short : (word : ℕ → List ℕ) (mask : ℕ) → ((row : ℕ) → row < 8 → length (word row) ≤ 24)
    → length (ascii "rejected" ++ flatten (map word (rows_of mask)) ++ ascii "\n") ≤ 201
unfolding ascii rows_of
line_short word mask short = simp length-append (omega (arith, words_short word 24 8 (bit mask) short))

-- the line of a rejected round whose sides have 32 bits
pub rejected_short : (mask : ℕ) (left right : List ℕ)
    → ((row : ℕ) → row < 8 → (get_or left row 0 < 4294967296) × (get_or right row 0 < 4294967296))
    → length (rejected_line mask left right) ≤ 201
unfolding row_text
rejected_short mask left right small =
    line_short (row_text left right) mask (λ row few. let (a, b) = small row few in row_short row _ _ few a b)

-- a row of [x] is below the modulus
row_image_below : (table : Table) (x : List ℕ) (row : ℕ) → 0 < table.header.modulus → row_image table x row < table.header.modulus
row_image_below table x row some = elim (says_decides (says_exponent table.header)) [
  | inl e ↦ rw (row_image_exponent table e x row) (mod-lt _ some)
  | inr n ↦ rw (row_image_root table n x row) (mod-lt _ some)
]

module _ (s f : List ℕ) (bytes : AllBytes s) (none : reason_number s f ≡ 0) where
  -- the modulus is not 0 and has 32 bits
  some_modulus : 0 < (header_of s).modulus
  unfolding instance_of
  some_modulus = omega (arith, (loads_valid s (reason_loads s f none)).table.modulus)

  few_bits : (header_of s).modulus < 4294967296
  unfolding header_of
  few_bits = number_fits 4 s 6 bytes

  -- so the sides of a row are short
  told_short : (row : ℕ) → row < 8 → length (told_row s (first_round s f) row) ≤ 24
  unfolding instance_of
  told_short row few =
      let left = row_image_below (table_of (instance_of s)) (first_round s f).response row some_modulus in
      let right : right_side s (first_round s f) row < (header_of s).modulus = mod-lt _ some_modulus in
      row_short row (left_side s (first_round s f) row) (right_side s (first_round s f) row) few (omega (arith, few_bits)) (omega (arith, few_bits))

  -- the line
  pub reason_short : length (reason_text s f) ≤ 201
  unfolding ascii
  reason_short =
      ⊎_elim (λ e. rw (text_accepted s f e) (omega arith))
      (λ (mask, e, all). rw (text_rejected s f mask e (λ k m. ((all.exactly k).0 m).0)) (line_short (told_row s (first_round s f)) mask told_short))
      (first_judged s f none)
