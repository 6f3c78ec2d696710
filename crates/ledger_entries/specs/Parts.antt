-- Entries of their two parts, and their rules behind those of what they share.
-- Assumes nothing.
use Rattle.std.specs.Prelude.{ℕ, List, [], ◌∷◌, ltb}
use Rattle.numbers.specs.Search.{any}
use Rattle.rules.specs.Rule.{Rule, ◌when◌}
use Rattle.ledgers.specs.Check.{bad_line_challenge, bad_line_kind, not_above}
use Rattle.ledgers.specs.Lines.{entry_at}
use Rattle.ledgers.specs.Write.{bad_numbers}
use Rattle.ledgers.specs.declared.Base.{Base}
use Rattle.ledgers.specs.declared.Entries.{Entries}
use Rattle.ledgers.specs.declared.Entry.{Entry}

-- entries and their count
abbrev pub entries_with : List Entry → ℕ → Entries
entries_with entries count = record { entries = entries; count = count }

-- the rules of the entries
unfoldable pub entries_rules : Base → Entries → List Rule
entries_rules base entries =
    (37 when ltb 64 entries.count) ∷
    (35 when any entries.count (λ i. bad_line_kind (entry_at entries i).kind)) ∷
    (36 when any entries.count (λ i. not_above i (entry_at entries i).kind (entry_at entries i).first (entry_at entries i).second)) ∷
    (15 when any entries.count (λ i. bad_line_challenge base (entry_at entries i).kind (entry_at entries i).challenge)) ∷
    (16 when any entries.count (λ i. bad_numbers base (entry_at entries i))) ∷ []
