-- A call's outcome depends only on the places that 01 reads: rounds that are the same there give the same answer.
-- Assumes nothing.
use Prim.Native.Nat.{ℕ, ◌*◌, ◌%◌, ◌^◌, ◌<◌}
use mathlib.Core.Path.{◌≡◌, refl, sym, ap, ap₂, ◌∙◌, subst}
use mathlib.Core.Logic.{inl, inr}
use mathlib.Core.List.{List}
use native.Mathlib.Omega.{arith}
use lib.ListN.{get_or}
use Rattle.types.specs.declared.Header.{Header}
use Rattle.types.specs.declared.Round.{Round}
use Rattle.numbers.proofs.Product.{product_agree}
use Rattle.lists.specs.Places.{places}
use Rattle.lists.proofs.Places.{places_agree, get_d_pad8, get_d_places}
use Rattle.rules.specs.Call.{answer}
use Rattle.rules.proofs.Says.{says_decides}
use Rattle.sigma.specs.Instance.{Instance, Table, entry, statement_at}
use Rattle.sigma.specs.Element.{Element, Coordinate}
use Rattle.sigma.specs.Valid.{Valid, ValidTable}
use Rattle.sigma.specs.Image.{row_image}
use Rattle.sigma.specs.Reads.{Agree, SameRound, padded_round, read_round}
use Rattle.sigma.specs.Meaning.{RowHolds, Holds, FailsExactly, Elements, Coordinates, Fits}
use Rattle.sigma.specs.Judge.{judging, judge_loaded}
use Rattle.sigma.specs.Simulator.{simulating}
use Rattle.sigma.specs.Extractor.{extracting}
use Rattle.sigma.proofs.Tests.{says_exponent}
use Rattle.sigma.proofs.ByKind.{row_image_exponent, row_image_root}
use Rattle.sigma.proofs.Fails.{fails_alike}
use Rattle.sigma.proofs.Valid.{valid_kind}

-- ---- rounds

-- a round is the same as itself
pub same_round_refl : (h : Header) (round : Round) → SameRound h round round
same_round_refl h round = record { commitment = λ j b. refl; challenge = refl; response = λ j b. refl }

module _ {h : Header} {round round' : Round} (s : SameRound h round round') where
  -- the same rounds, the other way round
  pub same_round_sym : SameRound h round' round
  same_round_sym = record {
    commitment = λ j b. sym (s.commitment j b);
    challenge = sym s.challenge;
    response = λ j b. sym (s.response j b);
  }

  -- the same rounds follow one another
  pub same_round_trans : {round'' : Round} → SameRound h round' round'' → SameRound h round round''
  same_round_trans t = record {
    commitment = λ j b. s.commitment j b ∙ t.commitment j b;
    challenge = s.challenge ∙ t.challenge;
    response = λ j b. s.response j b ∙ t.response j b;
  }

  -- what is read of their commitments is the same
  pub same_commitment_law : places h.rows round.commitment ≡ places h.rows round'.commitment
  same_commitment_law = places_agree h.rows round.commitment round'.commitment s.commitment

  -- what is read of their responses is the same
  pub same_response : places h.columns round.response ≡ places h.columns round'.response
  same_response = places_agree h.columns round.response round'.response s.response

-- what is read of a round is the same round
pub same_round_of_read : (h : Header) (round : Round) → SameRound h (read_round h round) round
same_round_of_read h round = record {
  commitment = get_d_places h.rows round.commitment;
  challenge = refl;
  response = get_d_places h.columns round.response;
}

-- with 0 in the places that are not read it is so too
pub same_round_of_padded : (h : Header) (round : Round) → SameRound h (padded_round h round) round
unfolding padded_round
same_round_of_padded h round = record {
  commitment = λ j b. get_d_pad8 0 (places h.rows round.commitment) j ∙ get_d_places h.rows round.commitment j b;
  challenge = refl;
  response = λ j b. get_d_pad8 0 (places h.columns round.response) j ∙ get_d_places h.columns round.response j b;
}

-- ---- facts

-- a row of [x] reads n places of x; in kind 2 there are as many rows
pub row_image_agree : {table : Table} → ValidTable table → (x x' : List ℕ) → Agree table.header.columns x x'
    → (row : ℕ) → row < table.header.rows → row_image table x row ≡ row_image table x' row
row_image_agree {table} v x x' a row h = elim (says_decides (says_exponent table.header)) [
  | inl e ↦
      let powers = product_agree table.header.columns (λ c. entry table row c ^ get_or x c 0) (λ c. entry table row c ^ get_or x' c 0)
      (λ c b. ap (λ (k : ℕ). entry table row c ^ k) (a c b)) in
      row_image_exponent table e x row ∙ ap (λ (k : ℕ). k % table.header.modulus) powers ∙ sym (row_image_exponent table e x' row)
  | inr n ↦
      let same : get_or x row 0 ≡ get_or x' row 0 = a row (omega (arith, v.square (valid_kind v n))) in
      row_image_root table n x row ∙ ap (λ (k : ℕ). k ^ table.header.order % table.header.modulus) same
      ∙ sym (row_image_root table n x' row)
]

-- whether all values are group elements depends only on the places that are read
pub elements_agree : (i : Instance) (t t' : List ℕ) → Agree i.header.rows t t' → Elements i t → Elements i t'
elements_agree i t t' a f row h = subst (λ (v : ℕ). Element i.header v) (a row h) (f row h)

-- whether all slots are coordinates depends only on the places that are read
pub coordinates_agree : (i : Instance) (x x' : List ℕ) → Agree i.header.columns x x' → Coordinates i x → Coordinates i x'
coordinates_agree i x x' a f j h = subst (λ (v : ℕ). Coordinate i.header v) (a j h) (f j h)

module _ (i : Instance) {round round' : Round} (s : SameRound i.header round round') where
  -- what fits depends only on the places that are read
  pub fits_same : Fits i round → Fits i round'
  fits_same f = record {
    commitment = elements_agree i round.commitment round'.commitment s.commitment f.commitment;
    challenge = rw s.challenge at f.challenge;
    response = coordinates_agree i round.response round'.response s.response f.response;
  }

  -- so does the equation in a row
  pub row_same : Valid i → (row : ℕ) → row < i.header.rows → RowHolds i round row → RowHolds i round' row
  row_same v row h e =
      sym (row_image_agree v.table round.response round'.response s.response row h) ∙ e
      ∙ ap₂ (λ (u c : ℕ). u * statement_at i row ^ c % i.header.modulus) (s.commitment row h) s.challenge

  -- so does the equation in every row
  pub holds_same : Valid i → Holds i round → Holds i round'
  holds_same v f row h = row_same v row h (f row h)

-- so do the rows in which the equation fails
pub fails_same : (i : Instance) {round round' : Round} → SameRound i.header round round' → Valid i → (rows : List ℕ)
    → FailsExactly i round rows → FailsExactly i round' rows
fails_same i {round} {round'} s v rows =
    fails_alike i i round round' refl (λ row h. (row_same i s v row h, row_same i (same_round_sym s) v row h)) rows

-- ---- the calls

module _ (i : Instance) where
  -- judging
  pub judging_same : {round round' : Round} → SameRound i.header round round' → judging i round ≡ judging i round'
  unfolding judging
  judging_same s = cc (same_commitment_law s, same_response s, s.challenge)

  -- simulating
  pub simulating_same : (c : ℕ) (r r' : List ℕ) → Agree i.header.columns r r' → simulating i c r ≡ simulating i c r'
  unfolding simulating
  simulating_same c r r' a = rw (places_agree i.header.columns r r' a)

  -- extracting
  pub extracting_same : {first first' second second' : Round}
      → SameRound i.header first first' → SameRound i.header second second'
      → extracting i first second ≡ extracting i first' second'
  unfolding extracting
  extracting_same s t =
      cc (same_commitment_law s, same_response s, s.challenge, same_commitment_law t, same_response t, t.challenge)

  -- judging on loaded values
  pub judge_same : {round round' : Round} → SameRound i.header round round' → judge_loaded i round ≡ judge_loaded i round'
  unfolding judge_loaded
  judge_same s = ap answer (judging_same s)
