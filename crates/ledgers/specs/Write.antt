-- Writing a ledger (02, card 14; refusals 5, 6, 8, 10, 37, 35, 36, 15 and 16): the commitments and the honest rounds of all lines in
-- one call.
-- Assumes nothing.
use Rattle.std.specs.Prelude.{ℕ, zero, suc, ◌+◌, ◌-◌, ◌*◌, ◌%◌, Bool, cond, ◌&&◌, ◌||◌, List, [], ◌∷◌, ◌++◌, eqb, leb, ltb, get_or, replicate}
use Rattle.lists.specs.Places.{tabulate}
use Rattle.numbers.specs.Search.{any}
use Rattle.patterns.specs.Table.{pedersen}
use Rattle.rules.specs.Call.{Call, answer}
use Rattle.rules.specs.Rule.{◌when◌}
use Rattle.sigma.specs.Element.{some_non_coordinate}
use Rattle.sigma.specs.Image.{image}
use Rattle.sigma.specs.Instance.{Instance, table_of}
use Rattle.sigma.specs.Round.{response}
use Rattle.ledgers.specs.Check.{bad_line_challenge, bad_line_kind, base_rules, not_above}
use Rattle.ledgers.specs.Ledger.{product_of}
use Rattle.ledgers.specs.Lines.{entry_at}
use Rattle.ledgers.specs.Refusals.{product_header}
use Rattle.ledgers.specs.declared.Base.{Base}
use Rattle.ledgers.specs.declared.Entries.{Entries}
use Rattle.ledgers.specs.declared.Entry.{Entry}
use Rattle.ledgers.specs.declared.Ledger.{Ledger}
use Rattle.ledgers.specs.declared.LedgerWritten.{LedgerWritten}
use Rattle.ledgers.specs.declared.Line.{Line}

-- what a commitment opens to: a value and a blinding number
pub record Opening : Type 0 where
  pub value : ℕ
  pub blinding : ℕ

-- opening i of those above a line
unfoldable pub opening_at : List Opening → ℕ → Opening
opening_at above i = get_or above i (record { value = 0; blinding = 0 })

-- the opening of a line, of those of the lines above it: what is given for a commitment, the sums mod q for a sum, and for a product
-- the product mod q with the given blinding number
unfoldable pub opening_of : ℕ → List Opening → Entry → Opening
opening_of q above e =
    let one : Opening = opening_at above e.first in
    let two : Opening = opening_at above e.second in
    cond (eqb e.kind 2) (record { value = (one.value + two.value) % q; blinding = (one.blinding + two.blinding) % q })
    (cond (eqb e.kind 3) (record { value = one.value * two.value % q; blinding = e.blinding })
    (record { value = e.value; blinding = e.blinding }))

-- the openings of the first i lines
unfoldable pub openings : ℕ → Entries → ℕ → List Opening
openings q entries zero = []
openings q entries (suc i) = openings q entries i ++ opening_of q (openings q entries i) (entry_at entries i) ∷ []

-- the commitment to an opening
unfoldable pub commit_to : Base → Opening → ℕ
commit_to base o = pedersen base.modulus base.g base.h o.value o.blinding

-- the witness (a, α, ε − aβ mod q) of a product
unfoldable pub product_witness : ℕ → Opening → Opening → ℕ → List ℕ
product_witness q one two ε = one.value ∷ one.blinding ∷ (ε + (q - one.value * two.blinding % q)) % q ∷ []

-- a line of zeros
unfoldable pub zero_line : Line
zero_line = record { kind = 0; first = 0; second = 0; commitment = 0; t = 0 ∷ 0 ∷ []; challenge = 0; response = 0 ∷ 0 ∷ 0 ∷ [] }

-- a commitment's line
unfoldable pub made_commitment : ℕ → Line
made_commitment commitment =
    record {
      kind = 1;
      first = 0;
      second = 0;
      commitment = commitment;
      t = 0 ∷ 0 ∷ [];
      challenge = 0;
      response = 0 ∷ 0 ∷ 0 ∷ [];
    }

-- a sum's line
unfoldable pub made_sum : ℕ → ℕ → Line
made_sum first second =
    record {
      kind = 2;
      first = first;
      second = second;
      commitment = 0;
      t = 0 ∷ 0 ∷ [];
      challenge = 0;
      response = 0 ∷ 0 ∷ 0 ∷ [];
    }

-- a product's line, with the honest round of its nonce and its challenge
unfoldable pub made_product : Base → List Opening → Opening → Entry → Line
made_product base above own e =
    let one : Opening = opening_at above e.first in
    let two : Opening = opening_at above e.second in
    let inst : Instance = product_of base (commit_to base one) (commit_to base two) (commit_to base own) in
    record {
      kind = 3;
      first = e.first;
      second = e.second;
      commitment = commit_to base own;
      t = image (table_of inst) e.nonce;
      challenge = e.challenge;
      response = response inst.header e.nonce e.challenge (product_witness base.order one two e.blinding);
    }

-- the line of an entry, of the openings of the lines above it
unfoldable pub line_of : Base → List Opening → Entry → Line
line_of base above e =
    let own : Opening = opening_of base.order above e in
    cond (eqb e.kind 2) (made_sum e.first e.second)
    (cond (eqb e.kind 3) (made_product base above own e) (made_commitment (commit_to base own)))

-- line i as it is made
unfoldable pub made_line : Base → Entries → ℕ → Line
made_line base entries i = line_of base (openings base.order entries i) (entry_at entries i)

-- a value, a blinding number or a nonce slot that is used is q or more (16)
unfoldable pub bad_numbers : Base → Entry → Bool
bad_numbers base e =
    (eqb e.kind 1 && (leb base.order e.value || leb base.order e.blinding)) ||
    (eqb e.kind 3 && (leb base.order e.blinding || some_non_coordinate (product_header base) 3 e.nonce))

-- a ledger of so many lines, with zeros beyond them
unfoldable pub ledger_of : ℕ → (ℕ → Line) → Ledger
ledger_of count line = record { lines = tabulate count line ++ replicate (64 - count) zero_line; count = count }

-- writing: 37 for more than 64 entries, then 35, 36, 15 and 16; a refused call answers a ledger of zeros
unfoldable pub writing_ledger : Base → Entries → Call LedgerWritten
writing_ledger base entries =
    record {
      refusals =
          base_rules base ++
          (37 when ltb 64 entries.count) ∷
          (35 when any entries.count (λ i. bad_line_kind (entry_at entries i).kind)) ∷
          (36 when any entries.count
          (λ i. not_above i (entry_at entries i).kind (entry_at entries i).first (entry_at entries i).second)) ∷
          (15 when any entries.count (λ i. bad_line_challenge base (entry_at entries i).kind (entry_at entries i).challenge)) ∷
          (16 when any entries.count (λ i. bad_numbers base (entry_at entries i))) ∷ [];
      value = record { ledger = ledger_of entries.count (made_line base entries); refusal = 0 };
      refused = λ n. record { ledger = ledger_of 0 (λ i. zero_line); refusal = n };
    }

-- the writer
unfoldable pub write_ledger : Base → Entries → LedgerWritten
write_ledger base entries = answer (writing_ledger base entries)
