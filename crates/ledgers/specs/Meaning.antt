-- What the lines of a ledger mean (02, card 14; 001, exercise 10.3; 01, pattern 5), in numbers: the commitment of each line, what it
-- opens to, the sheet of a product line byte by byte, and when its round is accepted. No definition of a call is named.
-- Assumes nothing.
use Rattle.std.specs.Prelude.{ℕ, ◌+◌, ◌*◌, ◌%◌, ◌^◌, ◌<◌, ◌≡◌, ◌≢◌, List, [], ◌∷◌, ◌++◌, get_or}
use Rattle.types.specs.declared.Round.{Round}
use Rattle.encoding.specs.Bytes.{bytes_of_each}
use Rattle.sigma.specs.Reads.{round_of}
use Rattle.ledgers.specs.Lines.{entry_at, line_at}
use Rattle.ledgers.specs.declared.Base.{Base}
use Rattle.ledgers.specs.declared.Entries.{Entries}
use Rattle.ledgers.specs.declared.Ledger.{Ledger}
use Rattle.ledgers.specs.declared.Line.{Line}

-- ---- commitments

-- the commitment C(v, ρ) = g^v · h^ρ mod m
abbrev pub committed : Base → ℕ → ℕ → ℕ
committed base v ρ = base.g ^ v * base.h ^ ρ % base.modulus

-- a commitment opens to v with ρ: it is C(v, ρ), and both are below q
pub record Opens (base : Base) (commitment v ρ : ℕ) : Type 0 where
  pub opened : commitment ≡ committed base v ρ
  pub value_below : v < base.order
  pub blinding_below : ρ < base.order

-- the commitment of line i is C i: for a sum those of the two lines that it names, multiplied mod m, else the one that is stored
pub record Commits (base : Base) (ledger : Ledger) (C : ℕ → ℕ) : Type 0 where
  pub stored : (i : ℕ) → i < ledger.count → (line_at ledger i).kind ≢ 2 → C i ≡ (line_at ledger i).commitment
  pub multiplied : (i : ℕ) → i < ledger.count → (line_at ledger i).kind ≡ 2
      → C i ≡ C (line_at ledger i).first * C (line_at ledger i).second % base.modulus

-- line i is a product, the first line that it names has the commitment A, the second B, and its own is E
pub record ProductLine (ledger : Ledger) (C : ℕ → ℕ) (i A B E : ℕ) : Type 0 where
  pub inside : i < ledger.count
  pub kind : (line_at ledger i).kind ≡ 3
  pub first : C (line_at ledger i).first ≡ A
  pub second : C (line_at ledger i).second ≡ B
  pub own : (line_at ledger i).commitment ≡ E

-- ---- values

-- entry i has the value v i with the blinding number ρ i: for a commitment they are given, for a sum they are those of the two lines
-- added mod q, and for a product the two values multiplied mod q with the given blinding number
pub record Values (base : Base) (entries : Entries) (v ρ : ℕ → ℕ) : Type 0 where
  pub given : (i : ℕ) → i < entries.count → (entry_at entries i).kind ≡ 1
      → (v i ≡ (entry_at entries i).value) × (ρ i ≡ (entry_at entries i).blinding)
  pub added : (i : ℕ) → i < entries.count → (entry_at entries i).kind ≡ 2
      → (v i ≡ (v (entry_at entries i).first + v (entry_at entries i).second) % base.order)
      × (ρ i ≡ (ρ (entry_at entries i).first + ρ (entry_at entries i).second) % base.order)
  pub multiplied : (i : ℕ) → i < entries.count → (entry_at entries i).kind ≡ 3
      → (v i ≡ v (entry_at entries i).first * v (entry_at entries i).second % base.order)
      × (ρ i ≡ (entry_at entries i).blinding)

-- entry i is a product of a with the blinding number α and b with β, and δ is its own blinding number less aβ, mod q
pub record ProductEntry (base : Base) (entries : Entries) (v ρ : ℕ → ℕ) (i a α b β δ : ℕ) : Type 0 where
  pub inside : i < entries.count
  pub kind : (entry_at entries i).kind ≡ 3
  pub first : (v (entry_at entries i).first ≡ a) × (ρ (entry_at entries i).first ≡ α)
  pub second : (v (entry_at entries i).second ≡ b) × (ρ (entry_at entries i).second ≡ β)
  pub below : δ < base.order
  pub own : (a * β + δ) % base.order ≡ (entry_at entries i).blinding

-- ---- rounds of the product statement

-- the sheet of the product statement for A, B and E: `HOM`, version 1, kind 1, then m, q and K, two rows and three columns, the rows
-- (g h 1) and (B 1 h), and the statement (A, E), each number in four bytes
unfoldable pub product_sheet : Base → ℕ → ℕ → ℕ → List ℕ
product_sheet base A B E =
    0x48 ∷ 0x4F ∷ 0x4D ∷ 0 ∷ 1 ∷ 1 ∷ bytes_of_each 4 (base.modulus ∷ base.order ∷ base.challenges ∷ []) ++
    2 ∷ 3 ∷ bytes_of_each 4 (base.g ∷ base.h ∷ 1 ∷ B ∷ 1 ∷ base.h ∷ A ∷ E ∷ [])

-- the round of line i, of which 01's calls read the two places of t and the three of r (`ReadAlone` of runs)
abbrev pub round_at : Ledger → ℕ → Round
round_at ledger i = round_of (line_at ledger i).t (line_at ledger i).challenge (line_at ledger i).response

-- a line's round is accepted for A, B and E: g^r0 · h^r1 = t0 · A^c and B^r0 · h^r2 = t1 · E^c, mod m
abbrev pub RowsHold : Base → ℕ → ℕ → ℕ → Line → Type 0
RowsHold base A B E line =
    (base.g ^ get_or line.response 0 0 * base.h ^ get_or line.response 1 0 % base.modulus
    ≡ get_or line.t 0 0 * A ^ line.challenge % base.modulus)
    × (B ^ get_or line.response 0 0 * base.h ^ get_or line.response 2 0 % base.modulus
    ≡ get_or line.t 1 0 * E ^ line.challenge % base.modulus)
