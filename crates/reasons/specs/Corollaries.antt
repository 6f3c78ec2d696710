-- What is true of the reason's line beside what 02 asks: how long it is, and how much of the two files it takes.
-- Assumes nothing.
use Rattle.std.specs.Prelude.{ℕ, ◌≤◌, ◌≡◌, List, length, take}
use Rattle.encoding.specs.Bytes.{AllBytes}
use Rattle.reasons.specs.Reason.{reason_line, reason_number, reason_text}

pub record ReasonCorollaries : Type 0 where
  -- where nothing is refused, the line has 201 bytes at most
  pub short : (s f : List ℕ) → AllBytes s → reason_number s f ≡ 0 → length (reason_text s f) ≤ 201
  -- 309 bytes of a sheet and 34,824 of a file are enough, and a length that is told is that of the whole file
  pub kept : (a b : ℕ) → 309 ≤ a → 34824 ≤ b → (s f : List ℕ)
      → reason_line (take a s) (length s) (take b f) (length f) ≡ reason_text s f
