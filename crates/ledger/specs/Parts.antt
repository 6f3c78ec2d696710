-- A ledger of its two parts, and the rules of its lines, behind those of what they share.
-- Assumes nothing.
use Rattle.std.specs.Prelude.{ℕ, List, [], ◌∷◌, ltb}
use Rattle.numbers.specs.Search.{any}
use Rattle.rules.specs.Rule.{Rule, ◌when◌}
use Rattle.ledgers.specs.Check.{bad_elements, bad_line_challenge, bad_line_kind, bad_response, not_above}
use Rattle.ledgers.specs.Lines.{line_at}
use Rattle.ledgers.specs.declared.Base.{Base}
use Rattle.ledgers.specs.declared.Ledger.{Ledger}
use Rattle.ledgers.specs.declared.Line.{Line}

-- a ledger of its lines and its count
abbrev pub ledger_with : List Line → ℕ → Ledger
ledger_with lines count = record { lines = lines; count = count }

-- the rules of the lines
unfoldable pub lines_rules : Base → Ledger → List Rule
lines_rules base ledger =
    (37 when ltb 64 ledger.count) ∷
    (35 when any ledger.count (λ i. bad_line_kind (line_at ledger i).kind)) ∷
    (36 when any ledger.count (λ i. not_above i (line_at ledger i).kind (line_at ledger i).first (line_at ledger i).second)) ∷
    (14 when any ledger.count (λ i. bad_elements base (line_at ledger i))) ∷
    (15 when any ledger.count (λ i. bad_line_challenge base (line_at ledger i).kind (line_at ledger i).challenge)) ∷
    (16 when any ledger.count (λ i. bad_response base (line_at ledger i))) ∷ []
