-- The conditions of a ledger's refusals as facts (02, card 14; 01, "Turned back", 5, 6, 8, 10 and 14 to 16), in order. Each number is
-- asked of all lines before the next, and of a line only what its kind uses.
-- Assumes nothing.
use Rattle.std.specs.Prelude.{ℕ, ◌<◌, ◌≤◌, ◌≡◌, ◌⊎◌, List, [], ◌∷◌, ◌++◌, get_or}
use Rattle.types.specs.declared.Header.{Header}
use Rattle.rules.specs.Condition.{Condition, ◌if◌}
use Rattle.sigma.specs.Element.{Element}
use Rattle.sigma.specs.Refusals.{Refusal5, Refusal6, Refusal8}
use Rattle.ledgers.specs.Lines.{entry_at, line_at}
use Rattle.ledgers.specs.declared.Base.{Base}
use Rattle.ledgers.specs.declared.Entries.{Entries}
use Rattle.ledgers.specs.declared.Entry.{Entry}
use Rattle.ledgers.specs.declared.Ledger.{Ledger}
use Rattle.ledgers.specs.declared.Line.{Line}

-- the fixed fields of every product line's sheet, which is of kind 1 and has two rows and three columns
abbrev pub product_header : Base → Header
product_header base =
    record {
      kind = 1;
      modulus = base.modulus;
      order = base.order;
      challenges = base.challenges;
      rows = 2;
      columns = 3;
    }

-- ---- what is asked of one line or entry

-- the kind is none of 1, 2 and 3
abbrev pub UnknownKind : ℕ → Type 0
UnknownKind kind = ¬ ((kind ≡ 1) ⊎ (kind ≡ 2) ⊎ (kind ≡ 3))

-- line i is a sum or a product, and a line that it names is not above it
abbrev pub NotAbove : ℕ → ℕ → ℕ → ℕ → Type 0
NotAbove i kind first second = ((kind ≡ 2) ⊎ (kind ≡ 3)) × ((i ≤ first) ⊎ (i ≤ second))

-- a commitment that the line stores, or a value of its t, is no group element
abbrev pub BadElements : Base → Line → Type 0
BadElements base line =
    (((line.kind ≡ 1) ⊎ (line.kind ≡ 3)) × (¬ Element (product_header base) line.commitment)) ⊎
    ((line.kind ≡ 3) ×
    ((¬ Element (product_header base) (get_or line.t 0 0)) ⊎ (¬ Element (product_header base) (get_or line.t 1 0))))

-- a challenge that is used is K or more
abbrev pub HighChallenge : Base → ℕ → ℕ → Type 0
HighChallenge base kind challenge = (kind ≡ 3) × (base.challenges ≤ challenge)

-- one of three slots is q or more
abbrev pub HighSlot : Base → List ℕ → Type 0
HighSlot base slots =
    (base.order ≤ get_or slots 0 0) ⊎ (base.order ≤ get_or slots 1 0) ⊎ (base.order ≤ get_or slots 2 0)

-- a slot of a product line's response is q or more
abbrev pub HighResponse : Base → Line → Type 0
HighResponse base line = (line.kind ≡ 3) × HighSlot base line.response

-- a value or a blinding number of a commitment, or a blinding number or a nonce slot of a product is q or more
abbrev pub HighNumber : Base → Entry → Type 0
HighNumber base e =
    ((e.kind ≡ 1) × ((base.order ≤ e.value) ⊎ (base.order ≤ e.blinding))) ⊎
    ((e.kind ≡ 3) × ((base.order ≤ e.blinding) ⊎ HighSlot base e.nonce))

-- ---- the calls

-- what the lines share; 10 is for a g or an h that is no group element
abbrev pub base_conditions : Base → List Condition
base_conditions base =
    (5 if Refusal5 (product_header base)) ∷
    (6 if Refusal6 (product_header base)) ∷
    (8 if Refusal8 (product_header base)) ∷
    (10 if ((¬ Element (product_header base) base.g) ⊎ (¬ Element (product_header base) base.h))) ∷ []

-- the checker; 37 is for more than 64 lines
abbrev pub check_conditions : Base → Ledger → List Condition
check_conditions base ledger =
    base_conditions base ++
    (37 if (64 < ledger.count)) ∷
    (35 if ((i : ℕ) × (i < ledger.count) × UnknownKind (line_at ledger i).kind)) ∷
    (36 if
    ((i : ℕ) × (i < ledger.count) × NotAbove i (line_at ledger i).kind (line_at ledger i).first (line_at ledger i).second)) ∷
    (14 if ((i : ℕ) × (i < ledger.count) × BadElements base (line_at ledger i))) ∷
    (15 if ((i : ℕ) × (i < ledger.count) × HighChallenge base (line_at ledger i).kind (line_at ledger i).challenge)) ∷
    (16 if ((i : ℕ) × (i < ledger.count) × HighResponse base (line_at ledger i))) ∷ []

-- the writer
abbrev pub write_conditions : Base → Entries → List Condition
write_conditions base entries =
    base_conditions base ++
    (37 if (64 < entries.count)) ∷
    (35 if ((i : ℕ) × (i < entries.count) × UnknownKind (entry_at entries i).kind)) ∷
    (36 if
    ((i : ℕ) × (i < entries.count) × NotAbove i (entry_at entries i).kind (entry_at entries i).first (entry_at entries i).second)) ∷
    (15 if ((i : ℕ) × (i < entries.count) × HighChallenge base (entry_at entries i).kind (entry_at entries i).challenge)) ∷
    (16 if ((i : ℕ) × (i < entries.count) × HighNumber base (entry_at entries i))) ∷ []
