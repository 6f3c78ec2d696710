-- Worked rounds that multiply (02, card 11), in both kinds: the sheet for z·z', the products of two rounds of each sheet, and what is
-- extracted from all three sheets.
-- Assumes nothing.
use Rattle.std.specs.Prelude.{ℕ, ◌≡◌, List, [], ◌∷◌, length, replicate}
use Rattle.types.specs.declared.Round.{Round}
use Rattle.types.specs.declared.Verdict.TheVariants.{Accepted}
use Rattle.formats.specs.Encode.{encode}
use Rattle.formats.specs.Load.{load}
use Rattle.formats.specs.Ours.{file_calls, loaded}
use Rattle.runs.specs.Calls.{extract_witness, judge_round}
use Rattle.sigma.specs.Reads.{round_of}
use Rattle.products.specs.RoundsMultiply.{ProductSheet, SameTable, joined_answer, product_round, product_values}
use Rattle.examples.specs.Corners.{root_bytes}
use Rattle.examples.specs.Pages.{array, small_round}
use Rattle.examples.specs.Sheets.{schnorr_sheet, sheet_bytes, small_sheet}
use Rattle.examples.specs.TeamPage.{pair_bytes}

-- the whole answer of an extraction on a sheet of one column
abbrev pub Extracts : List ℕ → Round → Round → ℕ → Type 0
Extracts sheet one two x = extract_witness sheet one two ≡ record { values = x ∷ replicate 7 0; refusal = 0 }

-- two sheets of one table that load, a sheet for z·z', and that the second writer puts its bytes into a buffer of their length
pub record SheetsMultiply (sheet sheet' product : List ℕ) : Type 0 where
  pub loads : ((load sheet).refusal ≡ 0) × ((load sheet').refusal ≡ 0)
  pub alike : SameTable file_calls sheet sheet'
  pub whole : ProductSheet file_calls sheet sheet' product
  pub written : encode (product_values (loaded sheet) (loaded sheet')) (replicate (length sheet) 0)
      ≡ record { answer = record { length = length sheet; refusal = 0 }; buffer = product }

-- a round of each sheet, accepted, and the numbers of their product, which is accepted in eight places
pub record Multiplies (sheet sheet' product : List ℕ) (round round' : Round) (t : List ℕ) (c : ℕ) (r : List ℕ) : Type 0 where
  pub factors : (judge_round sheet round ≡ Accepted) × (judge_round sheet' round' ≡ Accepted)
  pub values : product_round (load sheet).header round round' ≡ round_of t c r
  pub whole : judge_round product (round_of (array t) c (array r)) ≡ Accepted

-- the whole answers of extracting from two rounds of each sheet and from their products, and that the last is the two others joined
pub record WitnessesJoin (sheet sheet' product : List ℕ) (one two one' two' made made' : Round) (x x' w : ℕ) : Type 0 where
  pub witness : Extracts sheet one two x
  pub witness' : Extracts sheet' one' two' x'
  pub whole : Extracts product made made' w
  pub joined : joined_answer (load sheet).header (extract_witness sheet one two) (extract_witness sheet' one' two')
      ≡ record { values = w ∷ replicate 7 0; refusal = 0 }

-- page A's table with z' 4 (x 2, nonce 2), with z' 6 (x 9, nonce 2), and with the products 6 and 9
unfoldable pub logarithm : ℕ → List ℕ
logarithm z = small_sheet 23 11 11 2 z

-- page E's table with the statement (z, z')
unfoldable pub logarithms : ℕ → ℕ → List ℕ
logarithms z z' = sheet_bytes 1 23 11 11 2 1 (2 ∷ 16 ∷ z ∷ z' ∷ [])

-- page G's table with z' 33 (x 3, nonce 2), and with the product 6
unfoldable pub root : ℕ → List ℕ
root z = sheet_bytes 2 35 5 5 1 1 (z ∷ [])

-- a round of two rows and one column
unfoldable pub pair_round : ℕ → ℕ → ℕ → ℕ → Round
pair_round t t' c r = round_of (array (t ∷ t' ∷ [])) c (array (r ∷ []))

pub record ProductsPage : Type 0 where
  -- kind 1: 13 · 4 = 6, and 7 + 2 = 9
  pub sheets : SheetsMultiply schnorr_sheet (logarithm 4) (logarithm 6)
  pub three : Multiplies schnorr_sheet (logarithm 4) (logarithm 6) (small_round 9 3 4) (small_round 4 3 8) (13 ∷ []) 3 (1 ∷ [])
  pub one : Multiplies schnorr_sheet (logarithm 4) (logarithm 6) (small_round 9 1 1) (small_round 4 1 4) (13 ∷ []) 1 (5 ∷ [])
  pub witnesses : WitnessesJoin schnorr_sheet (logarithm 4) (logarithm 6) (small_round 9 3 4) (small_round 9 1 1) (small_round 4 3 8)
      (small_round 4 1 4) (small_round 13 3 1) (small_round 13 1 5) 7 2 9
  -- slots that add up to q or more: 13 · 6 = 9, 4 + 7 = 11 gives 0, and 7 + 9 = 16 gives 5
  pub sheets_over : SheetsMultiply schnorr_sheet (logarithm 6) (logarithm 9)
  pub three_over : Multiplies schnorr_sheet (logarithm 6) (logarithm 9) (small_round 9 3 4) (small_round 4 3 7) (13 ∷ []) 3 (0 ∷ [])
  pub one_over : Multiplies schnorr_sheet (logarithm 6) (logarithm 9) (small_round 9 1 1) (small_round 4 1 0) (13 ∷ []) 1 (1 ∷ [])
  pub witnesses_over : WitnessesJoin schnorr_sheet (logarithm 6) (logarithm 9) (small_round 9 3 4) (small_round 9 1 1) (small_round 4 3 7)
      (small_round 4 1 0) (small_round 13 3 0) (small_round 13 1 1) 7 9 5
  -- equal statements, in two rows: (13, 18) · (13, 18) = (8, 2), and 7 + 7 = 14 gives 3
  pub sheets_squared : SheetsMultiply pair_bytes pair_bytes (logarithms 8 2)
  pub three_squared : Multiplies pair_bytes pair_bytes (logarithms 8 2) (pair_round 9 6 3 4) (pair_round 9 6 3 4) (12 ∷ 13 ∷ []) 3 (8 ∷ [])
  pub one_squared : Multiplies pair_bytes pair_bytes (logarithms 8 2) (pair_round 9 6 1 1) (pair_round 9 6 1 1) (12 ∷ 13 ∷ []) 1 (2 ∷ [])
  pub witnesses_squared : WitnessesJoin pair_bytes pair_bytes (logarithms 8 2) (pair_round 9 6 3 4) (pair_round 9 6 1 1) (pair_round 9 6 3 4)
      (pair_round 9 6 1 1) (pair_round 12 13 3 8) (pair_round 12 13 1 2) 7 7 3
  -- kind 2: 32 · 33 = 6, and 2 · 3 = 6
  pub sheets_root : SheetsMultiply root_bytes (root 33) (root 6)
  pub one_root : Multiplies root_bytes (root 33) (root 6) (small_round 33 1 6) (small_round 32 1 6) (6 ∷ []) 1 (1 ∷ [])
  pub three_root : Multiplies root_bytes (root 33) (root 6) (small_round 33 3 24) (small_round 32 3 19) (6 ∷ []) 3 (1 ∷ [])
  pub witnesses_root : WitnessesJoin root_bytes (root 33) (root 6) (small_round 33 1 6) (small_round 33 3 24) (small_round 32 1 6)
      (small_round 32 3 19) (small_round 6 1 1) (small_round 6 3 1) 2 3 6
