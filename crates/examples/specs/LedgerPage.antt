-- Worked ledgers (02, card 14). The card's page, over g 2, h 3, m 23, q 11 and K 11: C(2, 1), C(3, 0), their sum and their product. A
-- second one whose two factors are not alike, and in which a line is multiplied with itself. And one over an m and a q that are no
-- primes, with sums of sums and products of products. All that the calls answer, in numbers.
-- Assumes nothing.
use Rattle.std.specs.Prelude.{ℕ, ◌-◌, ◌≡◌, List, [], ◌∷◌, ◌++◌, map, get_or, length, replicate, take}
use Rattle.types.specs.declared.Computed.{Computed}
use Rattle.types.specs.declared.Round.{Round}
use Rattle.runs.specs.Calls.{extract_witness}
use Rattle.ledgers.specs.Check.{check_ledger}
use Rattle.ledgers.specs.Ledger.{commitments}
use Rattle.ledgers.specs.Meaning.{committed, product_sheet}
use Rattle.ledgers.specs.Write.{write_ledger}
use Rattle.ledgers.specs.declared.Base.{Base}
use Rattle.ledgers.specs.declared.Checked.{Checked}
use Rattle.ledgers.specs.declared.Entries.{Entries}
use Rattle.ledgers.specs.declared.Entry.{Entry}
use Rattle.ledgers.specs.declared.Ledger.{Ledger}
use Rattle.ledgers.specs.declared.LedgerWritten.{LedgerWritten}
use Rattle.ledgers.specs.declared.Line.{Line}
use Rattle.examples.specs.Sheets.{sheet_bytes}
use Rattle.examples.specs.TwoRows.{eight, round_with}

-- ---- in numbers

-- what the lines share: g, h, m, q and K
unfoldable pub base_of : ℕ → ℕ → ℕ → ℕ → ℕ → Base
base_of g h m q K = record { g = g; h = h; modulus = m; order = q; challenges = K }

-- a line of ten numbers: kind, the two lines, commitment, t, c and r
unfoldable pub line_with : List ℕ → Line
line_with v =
    record {
      kind = get_or v 0 0;
      first = get_or v 1 0;
      second = get_or v 2 0;
      commitment = get_or v 3 0;
      t = get_or v 4 0 ∷ get_or v 5 0 ∷ [];
      challenge = get_or v 6 0;
      response = get_or v 7 0 ∷ get_or v 8 0 ∷ get_or v 9 0 ∷ [];
    }

-- an entry of nine numbers: kind, the two lines, value, ρ, nonce and c
unfoldable pub entry_with : List ℕ → Entry
entry_with v =
    record {
      kind = get_or v 0 0;
      first = get_or v 1 0;
      second = get_or v 2 0;
      value = get_or v 3 0;
      blinding = get_or v 4 0;
      nonce = get_or v 5 0 ∷ get_or v 6 0 ∷ get_or v 7 0 ∷ [];
      challenge = get_or v 8 0;
    }

-- a ledger as it is made: these lines, and zeros beyond them
unfoldable pub made_of : List (List ℕ) → Ledger
made_of lines = record { lines = map line_with (lines ++ replicate (64 - length lines) (replicate 10 0)); count = length lines }

-- a ledger as it may be found: lines beyond the count hold 99, which no call may read
unfoldable pub found_of : List (List ℕ) → Ledger
found_of lines = record { lines = map line_with (take 64 (lines ++ replicate 64 (replicate 10 99))); count = length lines }

-- entries, with 99 beyond the count
unfoldable pub asked : List (List ℕ) → Entries
asked entries =
    record { entries = map entry_with (take 64 (entries ++ replicate 64 (replicate 9 99))); count = length entries }

-- the entry of a commitment to v with ρ, of the sum of lines i and j, and of their product with ρ, a nonce and c; what the kind does not
-- use holds 99
unfoldable pub given : ℕ → ℕ → List ℕ
given v ρ = 1 ∷ 99 ∷ 99 ∷ v ∷ ρ ∷ 99 ∷ 99 ∷ 99 ∷ 99 ∷ []

unfoldable pub added : ℕ → ℕ → List ℕ
added i j = 2 ∷ i ∷ j ∷ 99 ∷ 99 ∷ 99 ∷ 99 ∷ 99 ∷ 99 ∷ []

unfoldable pub multiplied : ℕ → ℕ → ℕ → List ℕ → ℕ → List ℕ
multiplied i j ρ nonce c = 3 ∷ i ∷ j ∷ 99 ∷ ρ ∷ [] ++ nonce ++ c ∷ []

-- ---- answers

-- the writer made these lines
unfoldable pub wrote : List (List ℕ) → LedgerWritten
wrote lines = record { ledger = made_of lines; refusal = 0 }

-- the checker accepted, or rejected line i
unfoldable pub accepted : Checked
accepted = record { accepted = 1; line = 0; refusal = 0 }

unfoldable pub rejected_at : ℕ → Checked
rejected_at i = record { accepted = 0; line = i; refusal = 0 }

-- the extractor gave these values
unfoldable pub gave : List ℕ → Computed
gave values = record { values = eight values; refusal = 0 }

-- what the extractor gives for two rounds on the first t in the one order and in the other
unfoldable pub both_orders : List ℕ → Round → Round → List Computed
both_orders sheet one two = extract_witness sheet one two ∷ extract_witness sheet two one ∷ []

-- ---- the pages

-- g 2, h 3, m 23, q 11, K 11
unfoldable pub small_base : Base
small_base = base_of 2 3 23 11 11

-- the card's page: C(2, 1), C(3, 0), their sum, and their product with ρ 4, the nonce (1, 2, 3) and a challenge
unfoldable pub page_entries : ℕ → List (List ℕ)
page_entries c = given 2 1 ∷ given 3 0 ∷ added 0 1 ∷ multiplied 0 1 4 (1 ∷ 2 ∷ 3 ∷ []) c ∷ []

-- its lines, the last with the challenge and this response
unfoldable pub page_lines : ℕ → ℕ → ℕ → ℕ → List (List ℕ)
page_lines c r0 r1 r2 =
    (1 ∷ 0 ∷ 0 ∷ 12 ∷ 0 ∷ 0 ∷ 0 ∷ 0 ∷ 0 ∷ 0 ∷ []) ∷
    (1 ∷ 0 ∷ 0 ∷ 8 ∷ 0 ∷ 0 ∷ 0 ∷ 0 ∷ 0 ∷ 0 ∷ []) ∷
    (2 ∷ 0 ∷ 1 ∷ 0 ∷ 0 ∷ 0 ∷ 0 ∷ 0 ∷ 0 ∷ 0 ∷ []) ∷
    (3 ∷ 0 ∷ 1 ∷ 9 ∷ 18 ∷ 9 ∷ c ∷ r0 ∷ r1 ∷ r2 ∷ []) ∷ []

-- C(2, 1), C(5, 4), their sum, the sum times the first, with ρ 6, the nonce (3, 4, 5) and a challenge, and the second times itself
unfoldable pub unequal_entries : ℕ → List (List ℕ)
unequal_entries c =
    given 2 1 ∷ given 5 4 ∷ added 0 1 ∷ multiplied 2 0 6 (3 ∷ 4 ∷ 5 ∷ []) c ∷ multiplied 1 1 0 (1 ∷ 0 ∷ 2 ∷ []) 3 ∷ []

-- its lines, line 3 with these two lines, the challenge and this response
unfoldable pub unequal_lines : ℕ → ℕ → ℕ → ℕ → ℕ → ℕ → List (List ℕ)
unequal_lines i j c r0 r1 r2 =
    (1 ∷ 0 ∷ 0 ∷ 12 ∷ 0 ∷ 0 ∷ 0 ∷ 0 ∷ 0 ∷ 0 ∷ []) ∷
    (1 ∷ 0 ∷ 0 ∷ 16 ∷ 0 ∷ 0 ∷ 0 ∷ 0 ∷ 0 ∷ 0 ∷ []) ∷
    (2 ∷ 0 ∷ 1 ∷ 0 ∷ 0 ∷ 0 ∷ 0 ∷ 0 ∷ 0 ∷ 0 ∷ []) ∷
    (3 ∷ i ∷ j ∷ 13 ∷ 4 ∷ 16 ∷ c ∷ r0 ∷ r1 ∷ r2 ∷ []) ∷
    (3 ∷ 1 ∷ 1 ∷ 8 ∷ 2 ∷ 6 ∷ 3 ∷ 5 ∷ 1 ∷ 8 ∷ []) ∷ []

-- g 2, h 5, m 21, q 6, K 2, and six lines
unfoldable pub composite_base : Base
composite_base = base_of 2 5 21 6 2

unfoldable pub composite_lines : List (List ℕ)
composite_lines =
    (1 ∷ 0 ∷ 0 ∷ 8 ∷ 0 ∷ 0 ∷ 0 ∷ 0 ∷ 0 ∷ 0 ∷ []) ∷
    (1 ∷ 0 ∷ 0 ∷ 17 ∷ 0 ∷ 0 ∷ 0 ∷ 0 ∷ 0 ∷ 0 ∷ []) ∷
    (2 ∷ 0 ∷ 1 ∷ 0 ∷ 0 ∷ 0 ∷ 0 ∷ 0 ∷ 0 ∷ 0 ∷ []) ∷
    (2 ∷ 2 ∷ 2 ∷ 0 ∷ 0 ∷ 0 ∷ 0 ∷ 0 ∷ 0 ∷ 0 ∷ []) ∷
    (3 ∷ 3 ∷ 1 ∷ 17 ∷ 20 ∷ 17 ∷ 1 ∷ 0 ∷ 1 ∷ 4 ∷ []) ∷
    (3 ∷ 4 ∷ 4 ∷ 20 ∷ 2 ∷ 5 ∷ 1 ∷ 5 ∷ 1 ∷ 3 ∷ []) ∷ []

pub record LedgerPage : Type 0 where
  -- the card's page with c 3 and with c 5, and what the checker says of them
  pub made : write_ledger small_base (asked (page_entries 3)) ≡ wrote (page_lines 3 7 5 4)
  pub made_again : write_ledger small_base (asked (page_entries 5)) ≡ wrote (page_lines 5 0 7 1)
  pub checked : check_ledger small_base (made_of (page_lines 3 7 5 4)) ≡ accepted
  pub checked_again : check_ledger small_base (found_of (page_lines 5 0 7 1)) ≡ accepted
  -- its commitments; the sum's is 12 · 8 mod 23
  pub line_commitments : commitments 23 (made_of (page_lines 3 7 5 4)) 4 ≡ 12 ∷ 8 ∷ 4 ∷ 9 ∷ []
  -- the product line's sheet, byte by byte: the rows (2 3 1) and (8 1 3) and z (12, 9)
  pub sheet : product_sheet small_base 12 8 9 ≡ sheet_bytes 1 23 11 11 2 3 (2 ∷ 3 ∷ 1 ∷ 8 ∷ 1 ∷ 3 ∷ 12 ∷ 9 ∷ [])
  -- both rounds give a 2, α 1 and δ 4
  pub extracted :
      both_orders (product_sheet small_base 12 8 9) (round_with (18 ∷ 9 ∷ []) 3 (7 ∷ 5 ∷ 4 ∷ [])) (round_with (18 ∷ 9 ∷ []) 5 (0 ∷ 7 ∷ 1 ∷ []))
      ≡ replicate 2 (gave (2 ∷ 1 ∷ 4 ∷ []))
  -- the second page; with the factors of line 3 exchanged it is rejected there, and with c 2 made again
  pub unequal : write_ledger small_base (asked (unequal_entries 7)) ≡ wrote (unequal_lines 2 0 7 8 6 9)
  pub unequal_checked : check_ledger small_base (made_of (unequal_lines 2 0 7 8 6 9)) ≡ accepted
  pub unequal_exchanged : check_ledger small_base (made_of (unequal_lines 0 2 7 8 6 9)) ≡ rejected_at 3
  pub unequal_again : write_ledger small_base (asked (unequal_entries 2)) ≡ wrote (unequal_lines 2 0 2 6 3 3)
  pub unequal_commitments : commitments 23 (made_of (unequal_lines 2 0 7 8 6 9)) 5 ≡ 12 ∷ 16 ∷ 8 ∷ 13 ∷ 8 ∷ []
  -- line 3's A is 8 and its B 12; its rounds give a 7, α 5 and δ 10
  pub unequal_extracted :
      both_orders (product_sheet small_base 8 12 13) (round_with (4 ∷ 16 ∷ []) 7 (8 ∷ 6 ∷ 9 ∷ [])) (round_with (4 ∷ 16 ∷ []) 2 (6 ∷ 3 ∷ 3 ∷ []))
      ≡ replicate 2 (gave (7 ∷ 5 ∷ 10 ∷ []))
  -- which open the first factor, and with the second, C(2, 1), the product: 7 · 2 mod 11 is 3, and 7 · 1 + 10 mod 11 is 6
  pub unequal_opened :
      committed small_base 7 5 ∷ committed small_base 2 1 ∷ committed small_base 3 6 ∷ []
      ≡ 8 ∷ 12 ∷ 13 ∷ []
  -- C(5, 4), C(2, 3), their sum, this doubled, that times C(2, 3), and this times itself
  pub composite :
      write_ledger composite_base
      (asked
      (given 5 4 ∷ given 2 3 ∷ added 0 1 ∷ added 2 2 ∷ multiplied 3 1 1 (4 ∷ 5 ∷ 3 ∷ []) 1 ∷ multiplied 4 4 5 (1 ∷ 0 ∷ 2 ∷ []) 1 ∷ []))
      ≡ wrote composite_lines
  pub composite_checked : check_ledger composite_base (found_of composite_lines) ≡ accepted
  -- no lines
  pub none : write_ledger small_base (asked []) ≡ wrote []
  pub none_checked : check_ledger small_base (found_of []) ≡ accepted
