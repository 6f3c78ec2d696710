-- The converter of round files (02, card 7): when it is refused, and that it turns each version into the other and loses nothing.
-- Assumes nothing.
use Rattle.std.specs.Prelude.{ℕ, ◌≤◌, ◌≡◌, ◌⊎◌, List, [], ◌∷◌, length}
use Rattle.encoding.specs.Bytes.{AllBytes, number_at}
use Rattle.formats.specs.FileCalls.{FileCalls}
use Rattle.formats.specs.Outcome.{Keeps, Puts, front}
use Rattle.formats.specs.Refusals.{RefusesOn, convert_conditions}
use Rattle.formats.specs.Rounds.{file_in, rounds_read}
use Rattle.formats.specs.Sheet.{header_of}

-- of the two versions of round files, one and the other
abbrev pub OneAndOther : ℕ → ℕ → Type 0
OneAndOther version other = ((version ≡ 1) × (other ≡ 2)) ⊎ ((version ≡ 2) × (other ≡ 1))

module _ (code : FileCalls) where
  open code use {convert}

  -- its refusals; a refused call keeps the buffer's bytes and answers length 0
  pub record ConvertRefusals : Type 0 where
    pub converting : (sheet f buffer : List ℕ)
        → RefusesOn sheet (12 ∷ 15 ∷ 22 ∷ []) (convert_conditions (header_of sheet) f buffer)
        (convert sheet f buffer).answer.refusal (Keeps buffer (convert sheet f buffer))

  -- and what it leaves of a file that converts
  pub record Converts : Type 0 where
    -- the rounds that are read of the file, as a file of the other version, stand at the buffer's start, and no byte after them is
    -- changed
    pub converted : (sheet f buffer : List ℕ) (other : ℕ) → (convert sheet f buffer).answer.refusal ≡ 0
        → OneAndOther (number_at 2 f 3) other
        → Puts (file_in other (header_of sheet) (rounds_read code sheet f)) buffer (convert sheet f buffer)
    -- this file converts to the original, byte by byte
    pub again : (sheet f buffer other : List ℕ) → AllBytes f → (convert sheet f buffer).answer.refusal ≡ 0
        → length f ≤ length other → Puts f other (convert sheet (front (convert sheet f buffer)) other)
