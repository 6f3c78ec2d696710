-- What 02's eleventh card asks: rounds of two sheets that differ at most in their statements multiply to a round for the product of the
-- statements, and extracting from such rounds gives the two sheets' extracted witnesses, joined. It is said of any calls, in both kinds.
-- Assumes nothing.
use Rattle.std.specs.Prelude.{ℕ, ◌+◌, ◌*◌, ◌%◌, ◌<◌, ◌≤◌, ◌≡◌, List, get_or, length}
use Rattle.types.specs.declared.Computed.{Computed}
use Rattle.types.specs.declared.Header.{Header}
use Rattle.types.specs.declared.Round.{Round}
use Rattle.encoding.specs.Bytes.{AllBytes}
use Rattle.lists.specs.Places.{pad8}
use Rattle.formats.specs.FileCalls.{FileCalls, loaded}
use Rattle.formats.specs.Outcome.{front}
use Rattle.runs.specs.Knowledge.{Accepts}
use Rattle.runs.specs.RunCalls.{RunCalls}
use Rattle.sigma.specs.Instance.{Instance}
use Rattle.sigma.specs.Joined.{join_slots, multiply_rows, with_statement}
use Rattle.sigma.specs.Knowledge.{AcceptedPair}
use Rattle.sigma.specs.Reads.{SameRound, round_of}

-- ---- the products

-- z·z': the statements of two sheets' values multiplied mod m, row by row
abbrev pub product_statement : Instance → Instance → List ℕ
product_statement inst inst' = multiply_rows inst.header inst.statement inst'.statement

-- the first one's values with z·z' as the statement, in eight places
abbrev pub product_values : Instance → Instance → Instance
product_values inst inst' = with_statement inst (pad8 0 (product_statement inst inst'))

-- two rounds multiplied: the commitments multiplied mod m, row by row, the first one's challenge, and the responses joined
abbrev pub product_round : Header → Round → Round → Round
product_round h round round' =
    round_of (multiply_rows h round.commitment round'.commitment) round.challenge
    (join_slots h round.response round'.response)

-- the answer of an extraction that is not refused and gives the witnesses of two others, joined, with 0 beyond n
abbrev pub joined_answer : Header → Computed → Computed → Computed
joined_answer h x x' = record { refusal = 0; values = pad8 0 (join_slots h x.values x'.values) }

module _ (files : FileCalls) where
  open files use {load, load_entries}

  -- two sheets differ at most in their statements: the same header and the same entries are loaded from both
  pub record SameTable (sheet sheet' : List ℕ) : Type 0 where
    pub header : (load sheet).header ≡ (load sheet').header
    pub entries : load_entries sheet ≡ load_entries sheet'

  -- a sheet for the statement z·z': it loads, and gives the first sheet's values with that statement
  pub record ProductSheet (sheet sheet' product : List ℕ) : Type 0 where
    pub loads : (load product).refusal ≡ 0
    pub values : loaded files product ≡ product_values (loaded files sheet) (loaded files sheet')

-- ---- the card

module _ (files : FileCalls) (code : RunCalls) where
  open files use {load, encode}
  open code use {extract_witness}

  -- rounds of two sheets of one table; a product is any round that has the product's values where rounds are read, so that places
  -- beyond s and n hold anything
  pub record RoundsMultiply (sheet sheet' : List ℕ) : Type 0 where
    -- there is a sheet for z·z': given these values and a buffer as long as the first sheet or longer, the second writer is not
    -- refused, and what it wrote is one; a sheet of bytes has numbers below 2^32, as the one for z·z' stores them
    pub sheet_there : AllBytes sheet → (buffer : List ℕ) → length sheet ≤ length buffer
        → ((encode (product_values (loaded files sheet) (loaded files sheet')) buffer).answer.refusal ≡ 0)
        × ProductSheet files sheet sheet' (front (encode (product_values (loaded files sheet) (loaded files sheet')) buffer))
    -- for every sheet for z·z': a round of each sheet, accepted, with the same challenge make an accepted one, whether or not any of
    -- the statements has a witness
    pub accepted : (product : List ℕ) → ProductSheet files sheet sheet' product → (round round' made : Round)
        → Accepts code sheet round → Accepts code sheet' round' → round.challenge ≡ round'.challenge
        → SameRound (load sheet).header made (product_round (load sheet).header round round')
        → Accepts code product made
    -- two accepted rounds of each sheet, with one commitment in each and the same two unequal challenges: neither extraction is
    -- refused, and extracting from the products gives both extracted witnesses, joined
    pub extracted : (product : List ℕ) → ProductSheet files sheet sheet' product → (one two one' two' made made' : Round)
        → AcceptedPair (load sheet).header (Accepts code sheet) one two
        → AcceptedPair (load sheet').header (Accepts code sheet') one' two'
        → one.challenge ≡ one'.challenge → two.challenge ≡ two'.challenge
        → SameRound (load sheet).header made (product_round (load sheet).header one one')
        → SameRound (load sheet).header made' (product_round (load sheet).header two two')
        → ((extract_witness sheet one two).refusal ≡ 0) × ((extract_witness sheet' one' two').refusal ≡ 0)
        × (extract_witness product made made'
        ≡ joined_answer (load sheet).header (extract_witness sheet one two) (extract_witness sheet' one' two'))

  pub record ProductsWork : Type 0 where
    -- the products in numbers: statements and commitments are multiplied row by row mod m
    pub rows : (h : Header) (t u : List ℕ) (i : ℕ) → i < h.rows → get_or (multiply_rows h t u) i 0 ≡ get_or t i 0 * get_or u i 0 % h.modulus
    -- joined slots are added mod q in kind 1
    pub sums : (h : Header) → h.kind ≡ 1 → (x y : List ℕ) (j : ℕ) → j < h.columns
        → get_or (join_slots h x y) j 0 ≡ (get_or x j 0 + get_or y j 0) % h.order
    -- and multiplied mod m in kind 2
    pub slots : (h : Header) → h.kind ≡ 2 → (x y : List ℕ) (j : ℕ) → j < h.columns
        → get_or (join_slots h x y) j 0 ≡ get_or x j 0 * get_or y j 0 % h.modulus
    -- the card, of any two sheets that load and differ at most in their statements
    pub multiply : (sheet sheet' : List ℕ) → (load sheet).refusal ≡ 0 → (load sheet').refusal ≡ 0
        → SameTable files sheet sheet' → RoundsMultiply sheet sheet'
