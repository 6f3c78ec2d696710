-- What a line opens to as it is kept, and a line without a round.
-- Assumes nothing.
use Rattle.std.specs.Prelude.{ℕ, List, [], ◌∷◌, ◌≡◌, get_or}
use Rattle.ledgers.specs.Write.{Opening, opening_at}
use Rattle.ledgers.specs.declared.Line.{Line}
use Rattle.ledger_writer.specs.declared.opened.Opened.{Opened}

-- the opening
abbrev pub opening : Opened → Opening
opening opened = record { value = opened.value; blinding = opened.blinding }

-- what stands beyond the openings that are kept
abbrev pub none_opened : Opened
none_opened = record { value = 0; blinding = 0 }

-- an array keeps the openings of the lines above
abbrev pub Keeps : List Opened → List Opening → Type 0
Keeps array above = (k : ℕ) → opening (get_or array k none_opened) ≡ opening_at above k

-- a line of a kind, two lines and a commitment, and zeros
abbrev pub plain_line : ℕ → ℕ → ℕ → ℕ → Line
plain_line kind first second commitment =
    record {
      kind = kind;
      first = first;
      second = second;
      commitment = commitment;
      t = 0 ∷ 0 ∷ [];
      challenge = 0;
      response = 0 ∷ 0 ∷ 0 ∷ [];
    }
