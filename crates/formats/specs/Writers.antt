-- What the calls that write leave in a lent buffer where they are not refused: which bytes, and no other byte (01, "The
-- patterns" and "A round"; 02, card 7).
-- Assumes nothing.
use Rattle.std.specs.Prelude.{ℕ, ◌≡◌, List, [], ◌∷◌}
use Rattle.types.specs.declared.Round.{Round}
use Rattle.sigma.specs.Instance.{Instance}
use Rattle.formats.specs.Encode.{sheet_of}
use Rattle.formats.specs.FileCalls.{FileCalls}
use Rattle.formats.specs.Outcome.{Adds, Puts}
use Rattle.formats.specs.Sheet.{header_of}

module _ (code : FileCalls) where
  open code use {encode, empty_file, append}

  pub record Writers : Type 0 where
    -- the second writer puts the sheet of its values at the buffer's start
    pub encoded : (inst : Instance) (buffer : List ℕ) → (encode inst buffer).answer.refusal ≡ 0
        → Puts (sheet_of inst) buffer (encode inst buffer)
    -- a file of no rounds is seven bytes
    pub empty : (version : ℕ) (buffer : List ℕ) → (empty_file version buffer).answer.refusal ≡ 0
        → Puts (0x52 ∷ 0x4E ∷ 0x44 ∷ 0 ∷ version ∷ 0 ∷ 0 ∷ []) buffer (empty_file version buffer)
    -- the record writer puts the record straight after the bytes in use and raises the count by one
    pub appended : (sheet buffer : List ℕ) (used : ℕ) (round : Round) → (append sheet buffer used round).answer.refusal ≡ 0
        → Adds (header_of sheet) round buffer used (append sheet buffer used round)
