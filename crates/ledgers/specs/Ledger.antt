-- A ledger (02, card 14; 001, exercise 10.3): the commitment of each line, and the product statement of a product line.
-- Assumes nothing.
use Rattle.std.specs.Prelude.{ℕ, zero, suc, ◌*◌, ◌%◌, cond, List, [], ◌∷◌, ◌++◌, eqb, get_or}
use Rattle.types.specs.declared.Round.{Round}
use Rattle.patterns.specs.Table.{made}
use Rattle.sigma.specs.Instance.{Instance}
use Rattle.sigma.specs.Reads.{round_of}
use Rattle.ledgers.specs.Lines.{line_at}
use Rattle.ledgers.specs.declared.Base.{Base}
use Rattle.ledgers.specs.declared.Ledger.{Ledger}
use Rattle.ledgers.specs.declared.Line.{Line}

-- the commitment of a line, of those of the lines above it: two of these multiplied for a sum, else its own
unfoldable pub line_commitment : ℕ → List ℕ → Line → ℕ
line_commitment m above line =
    cond (eqb line.kind 2) (get_or above line.first 0 * get_or above line.second 0 % m) line.commitment

-- the commitments of the first i lines
unfoldable pub commitments : ℕ → Ledger → ℕ → List ℕ
commitments m ledger zero = []
commitments m ledger (suc i) = commitments m ledger i ++ line_commitment m (commitments m ledger i) (line_at ledger i) ∷ []

-- the product statement, 01's pattern 5, of the commitments A and B of two factors and E of their product
unfoldable pub product_of : Base → ℕ → ℕ → ℕ → Instance
product_of base A B E =
    made 5 base.modulus base.order base.challenges (base.g ∷ base.h ∷ B ∷ []) (A ∷ E ∷ [])

-- that of a line, of the commitments of the lines above it
unfoldable pub line_instance : Base → List ℕ → Line → Instance
line_instance base above line =
    product_of base (get_or above line.first 0) (get_or above line.second 0) line.commitment

-- the round of a line
abbrev pub line_round : Line → Round
line_round line = round_of line.t line.challenge line.response
