-- What is read of a ledger and of its writer's entries (02, card 14): as many lines as the count says, and of a line what its kind uses.
-- Assumes nothing.
use Rattle.std.specs.Prelude.{ℕ, ◌<◌, ◌≡◌, ◌⊎◌}
use Rattle.sigma.specs.Reads.{Agree}
use Rattle.ledgers.specs.Lines.{entry_at, line_at}
use Rattle.ledgers.specs.declared.Entries.{Entries}
use Rattle.ledgers.specs.declared.Entry.{Entry}
use Rattle.ledgers.specs.declared.Ledger.{Ledger}
use Rattle.ledgers.specs.declared.Line.{Line}

-- two lines agree in what their kind uses: a commitment its commitment, a sum the two lines, and a product all numbers
pub record SameLine (line line' : Line) : Type 0 where
  pub kind : line.kind ≡ line'.kind
  pub lines : (line.kind ≡ 2) ⊎ (line.kind ≡ 3) → (line.first ≡ line'.first) × (line.second ≡ line'.second)
  pub commitment : (line.kind ≡ 1) ⊎ (line.kind ≡ 3) → line.commitment ≡ line'.commitment
  pub round : line.kind ≡ 3
      → Agree 2 line.t line'.t × (line.challenge ≡ line'.challenge) × Agree 3 line.response line'.response

-- two ledgers have one count and agree in what is used of these lines
pub record SameLedger (ledger ledger' : Ledger) : Type 0 where
  pub count : ledger.count ≡ ledger'.count
  pub lines : (i : ℕ) → i < ledger.count → SameLine (line_at ledger i) (line_at ledger' i)

-- two entries agree in what their kind uses: a commitment its value and blinding number, a sum the two lines, and a product the two
-- lines, its blinding number, the nonce and the challenge
pub record SameEntry (e e' : Entry) : Type 0 where
  pub kind : e.kind ≡ e'.kind
  pub lines : (e.kind ≡ 2) ⊎ (e.kind ≡ 3) → (e.first ≡ e'.first) × (e.second ≡ e'.second)
  pub value : e.kind ≡ 1 → e.value ≡ e'.value
  pub blinding : (e.kind ≡ 1) ⊎ (e.kind ≡ 3) → e.blinding ≡ e'.blinding
  pub round : e.kind ≡ 3 → Agree 3 e.nonce e'.nonce × (e.challenge ≡ e'.challenge)

-- two lists of entries have one count and agree in what is used of these entries
pub record SameEntries (entries entries' : Entries) : Type 0 where
  pub count : entries.count ≡ entries'.count
  pub lines : (i : ℕ) → i < entries.count → SameEntry (entry_at entries i) (entry_at entries' i)
