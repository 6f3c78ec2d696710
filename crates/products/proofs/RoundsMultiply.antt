-- Rounds that multiply: the product of two accepted rounds is accepted for the product of the statements, and what is extracted from
-- products is what is extracted from each, joined.
-- Assumes nothing.
use Prim.Native.Nat.{ℕ, ◌*◌, ◌%◌, ◌≤◌}
use mathlib.Core.Path.{◌≡◌, sym, ap, ap₂, ◌∙◌, subst}
use mathlib.Core.List.{List}
use native.Mathlib.Omega.{arith}
use lib.IntN.{ℤ}
use lib.ListN.{get_or, length}
use Rattle.types.specs.declared.Computed.{Computed}
use Rattle.types.specs.declared.Header.{Header}
use Rattle.types.specs.declared.Loaded.{Loaded}
use Rattle.types.specs.declared.Round.{Round}
use Rattle.encoding.specs.Bytes.{AllBytes}
use Rattle.lists.specs.Places.{pad8}
use Rattle.lists.proofs.Each.{each_length}
use Rattle.lists.proofs.Places.{get_d_pad8, length_tabulate, places_pad8, places_whole}
use Rattle.groups.specs.Transcript.{Bezout}
use Rattle.formats.specs.Encode.{encode, sheet_of}
use Rattle.formats.specs.Load.{load, load_refusal}
use Rattle.formats.specs.Ours.{file_calls, loaded}
use Rattle.formats.specs.Outcome.{front}
use Rattle.formats.specs.Sheet.{instance_of}
use Rattle.formats.proofs.Loads.{entries_given, load_given, loaded_given, loads, loads_valid}
use Rattle.formats.proofs.Writing.{encode_puts, encode_runs, puts_front}
use Rattle.runs.specs.Calls.{extract_witness}
use Rattle.runs.specs.Ours.{Accepts, run_calls}
use Rattle.runs.proofs.Demand3.{sheet_extraction}
use Rattle.runs.proofs.Protocol.{sheet_accepted}
use Rattle.runs.proofs.ReadAlone.{judge_round_same}
use Rattle.sigma.specs.Extractor.{formula}
use Rattle.sigma.specs.Instance.{Instance, statement_at}
use Rattle.sigma.specs.Joined.{join_slots, multiply_rows, with_statement}
use Rattle.sigma.specs.Knowledge.{AcceptedPair}
use Rattle.sigma.specs.Meaning.{Elements, Fits, Holds}
use Rattle.sigma.specs.Reads.{SameRound, round_of}
use Rattle.sigma.specs.Valid.{Valid}
use Rattle.sigma.proofs.ByKind.{combine_exponent, combine_root}
use Rattle.sigma.proofs.Formula.{formula_agree, formula_by_kind}
use Rattle.sigma.proofs.Joined.{join_at, join_in, joins_agree, multiply_at, multiply_in, second_decides, with_statement_valid}
use Rattle.sigma.proofs.JoinedFormula.{formula_joined, formula_restated}
use Rattle.products.specs.RoundsMultiply.{
  ProductSheet,
  ProductsWork,
  RoundsMultiply,
  SameTable,
  joined_answer,
  product_round,
  product_statement,
  product_values,
}
use Rattle.products.proofs.PlayerSheets.{fits_own, player_loads, player_values, row_restated}

-- the answer of an extraction that is not refused
abbrev answering : List ℕ → Computed
answering x = record { refusal = 0; values = pad8 0 x }

-- what is extracted, by the formula at any integers that fit
extracted_is : (sheet : List ℕ) → load_refusal sheet ≡ 0 → (one two : Round)
    → AcceptedPair (instance_of sheet).header (Accepts sheet) one two → (a b : ℤ)
    → Bezout (instance_of sheet).header.order one.challenge two.challenge a b
    → extract_witness sheet one two ≡ answering (formula (instance_of sheet) a b one.response two.response)
extracted_is sheet loaded one two p a b fit =
    let e = sheet_extraction sheet loaded one two p in
    e.answer
    ∙ ap answering
    (sym (formula_by_kind (instance_of sheet) a b one.response two.response e.value (each_length _ _ e.value e.witness.slots)
    (λ k j h. e.exponent k a b fit j h) (λ k j h. e.root k a b fit j h)))

-- two sheets that load, of one table
module _ (sheet sheet' : List ℕ) (first : load_refusal sheet ≡ 0) (second : load_refusal sheet' ≡ 0)
    (table : instance_of sheet' ≡ with_statement (instance_of sheet) (instance_of sheet').statement) where
  -- the first sheet's values are Valid
  valid : Valid (instance_of sheet)
  valid = loads_valid sheet first

  -- both statements are group elements
  first_elements : Elements (instance_of sheet) (instance_of sheet).statement
  unfolding statement_at
  first_elements = valid.statement

  second_elements : Elements (instance_of sheet) (instance_of sheet').statement
  unfolding statement_at
  second_elements = (subst (λ (inst : Instance). Valid inst) table (loads_valid sheet' second)).statement

  -- a round that the second sheet accepts, on the first one's table
  second_accepted : (round : Round) → Accepts sheet' round
      → Fits (instance_of sheet) round × Holds (with_statement (instance_of sheet) (instance_of sheet').statement) round
  second_accepted round e =
      let (fits, holds) = subst (λ (inst : Instance). Fits inst round × Holds inst round) table ((sheet_accepted sheet' second round).0 e) in
      (fits_own (instance_of sheet) _ fits, holds)

  -- ---- two accepted rounds

  module _ (round round' : Round) (e : Accepts sheet round) (e' : Accepts sheet' round') where
    -- if the challenges are the same, the product holds in every row for the product of the statements
    product_holds : round.challenge ≡ round'.challenge
        → Holds (with_statement (instance_of sheet) (product_statement (instance_of sheet) (instance_of sheet')))
        (product_round (instance_of sheet).header round round')
    product_holds same i b =
        let inst = instance_of sheet in
        let z' = (instance_of sheet').statement in
        let (fits, holds) = (sheet_accepted sheet first round).0 e in
        let (fits', holds') = second_accepted round' e' in
        (second_decides valid inst.statement z' round.commitment round'.commitment round.response round'.response
        round.challenge fits.response fits'.response i b (holds i b)).1
        (subst (λ (c : ℕ). Holds (with_statement inst z') (round_of round'.commitment c round'.response)) (sym same) holds' i b)

    -- it fits
    product_fits : Fits (instance_of sheet) (product_round (instance_of sheet).header round round')
    product_fits =
        let (fits, holds) = (sheet_accepted sheet first round).0 e in
        let (fits', holds') = second_accepted round' e' in
        record {
          commitment = multiply_in valid round.commitment round'.commitment fits.commitment fits'.commitment;
          challenge = fits.challenge;
          response = join_in valid round.response round'.response fits.response fits'.response;
        }

  -- ---- on a sheet for the product

  module _ (product : List ℕ) (whole : load_refusal product ≡ 0)
      (values : instance_of product ≡ product_values (instance_of sheet) (instance_of sheet')) where
    -- its header is the first sheet's
    same_header : (instance_of product).header ≡ (instance_of sheet).header
    same_header = ap (λ (inst : Instance). inst.header) values

    -- the product of two accepted rounds with one challenge is accepted
    pub product_accepted : (round round' made : Round) → Accepts sheet round → Accepts sheet' round' → round.challenge ≡ round'.challenge
        → SameRound (instance_of sheet).header made (product_round (instance_of sheet).header round round')
        → Accepts product made
    product_accepted round round' made e e' same is =
        let inst = instance_of sheet in
        let z = product_statement inst (instance_of sheet') in
        let exact = product_round inst.header round round' in
        let fits = product_fits round round' e e' in
        judge_round_same product (subst (λ (h : Header). SameRound h made exact) (sym same_header) is)
        ∙ (sheet_accepted product whole exact).1 (rw values (
          record { commitment = fits.commitment; challenge = fits.challenge; response = fits.response },
          λ i b. row_restated inst z (pad8 0 z) exact i (sym (get_d_pad8 0 z i)) (product_holds round round' e e' same i b),
        ))

    module _ (one two one' two' made made' : Round) (p : AcceptedPair (instance_of sheet).header (Accepts sheet) one two)
        (p' : AcceptedPair (instance_of sheet').header (Accepts sheet') one' two') (same : one.challenge ≡ one'.challenge)
        (same' : two.challenge ≡ two'.challenge)
        (is : SameRound (instance_of sheet).header made (product_round (instance_of sheet).header one one'))
        (is' : SameRound (instance_of sheet).header made' (product_round (instance_of sheet).header two two')) where
      -- the second sheet's header is the first one's
      second_header : (instance_of sheet').header ≡ (instance_of sheet).header
      second_header = ap (λ (inst : Instance). inst.header) table

      -- the products have one commitment and different challenges, and are accepted
      product_pair : AcceptedPair (instance_of product).header (Accepts product) made made'
      product_pair =
          let h = (instance_of sheet).header in
          let q = subst (λ (k : Header). AcceptedPair k (Accepts sheet') one' two') second_header p' in
          subst (λ (k : Header). AcceptedPair k (Accepts product) made made') (sym same_header) (record {
            first_accepted = product_accepted one one' made p.first_accepted p'.first_accepted same is;
            second_accepted = product_accepted two two' made' p.second_accepted p'.second_accepted same' is';
            commitments = λ i b.
                is.commitment i b ∙ multiply_at h one.commitment one'.commitment i b
                ∙ ap₂ (λ (x y : ℕ). x * y % h.modulus) (p.commitments i b) (q.commitments i b)
                ∙ sym (is'.commitment i b ∙ multiply_at h two.commitment two'.commitment i b);
            challenges = λ e. p.challenges (sym is.challenge ∙ e ∙ is'.challenge);
          })

      -- the formula of the products gives the joined formulas
      formula_product : (a b : ℤ)
          → formula (instance_of product) a b made.response made'.response
          ≡ join_slots (instance_of sheet).header (formula (instance_of sheet) a b one.response two.response)
          (formula (instance_of sheet') a b one'.response two'.response)
      formula_product a b =
          let inst = instance_of sheet in
          let h = inst.header in
          let z = product_statement inst (instance_of sheet') in
          let slots : (round : Round) → Accepts sheet round → _ = λ round e. ((sheet_accepted sheet first round).0 e).0.response in
          let slots' : (round : Round) → Accepts sheet' round → _ = λ round e. (second_accepted round e).0.response in
          ap (λ (i : Instance). formula i a b made.response made'.response) values
          ∙ formula_agree (product_values inst (instance_of sheet')) a b made.response made'.response
          (join_slots h one.response one'.response) (join_slots h two.response two'.response) is.response is'.response
          ∙ formula_restated inst (pad8 0 z) z a b _ _ (get_d_pad8 0 z)
          ∙ formula_joined valid inst.statement (instance_of sheet').statement first_elements second_elements a b one.response
          two.response one'.response two'.response (slots one p.first_accepted) (slots two p.second_accepted)
          (slots' one' p'.first_accepted) (slots' two' p'.second_accepted)
          ∙ ap (λ (x : List ℕ). join_slots h (formula inst a b one.response two.response) x)
          (ap (λ (i : Instance). formula i a b one'.response two'.response) (sym table))

      -- what is extracted from the products
      pub product_extracted : ((extract_witness sheet one two).refusal ≡ 0) × ((extract_witness sheet' one' two').refusal ≡ 0)
          × (extract_witness product made made'
          ≡ joined_answer (instance_of sheet).header (extract_witness sheet one two) (extract_witness sheet' one' two'))
      product_extracted =
          let (a, b, fit) = (sheet_extraction sheet first one two p).some_integers in
          let fit' : Bezout (instance_of sheet').header.order one'.challenge two'.challenge a b =
          rw (second_header, sym same, sym same') fit in
          let fit'' : Bezout (instance_of product).header.order made.challenge made'.challenge a b =
          rw (same_header, is.challenge, is'.challenge) fit in
          let x = extracted_is sheet first one two p a b fit in
          let x' = extracted_is sheet' second one' two' p' a b fit' in (
            ap (λ (answer : Computed). answer.refusal) x,
            ap (λ (answer : Computed). answer.refusal) x',
            extracted_is product whole made made' product_pair a b fit''
                ∙ ap answering
                (formula_product a b
                ∙ joins_agree (instance_of sheet).header _ (extract_witness sheet one two).values _
                (extract_witness sheet' one' two').values
                (λ j d. sym (ap (λ (answer : Computed). get_or answer.values j 0) x ∙ get_d_pad8 0 _ j))
                (λ j d. sym (ap (λ (answer : Computed). get_or answer.values j 0) x' ∙ get_d_pad8 0 _ j))),
          )

  -- ---- a sheet for the product

  -- z·z' in eight places are group elements
  product_elements : Elements (instance_of sheet) (pad8 0 (product_statement (instance_of sheet) (instance_of sheet')))
  product_elements i b =
      let inst = instance_of sheet in
      rw (get_d_pad8 0 (product_statement inst (instance_of sheet')) i)
      (multiply_in valid inst.statement (instance_of sheet').statement first_elements second_elements i b)

  -- in a buffer that can hold the first sheet the second writer is not refused
  product_runs : (buffer : List ℕ) → length sheet ≤ length buffer
      → (encode (product_values (instance_of sheet) (instance_of sheet')) buffer).answer.refusal ≡ 0
  unfolding instance_of
  product_runs buffer room =
      (encode_runs (product_values (instance_of sheet) (instance_of sheet')) buffer).1 (
        with_statement_valid valid _ product_elements,
        omega (arith, ((loads sheet).0 first).exact),
      )

  module _ (bytes : AllBytes sheet) (buffer : List ℕ) (room : length sheet ≤ length buffer) where
    -- what it wrote
    written_is : front (encode (product_values (instance_of sheet) (instance_of sheet')) buffer)
        ≡ sheet_of (product_values (instance_of sheet) (instance_of sheet'))
    written_is = puts_front (encode_puts (product_values (instance_of sheet) (instance_of sheet')) buffer (product_runs buffer room))

    -- it loads
    pub product_loads : load_refusal (front (encode (product_values (instance_of sheet) (instance_of sheet')) buffer)) ≡ 0
    product_loads = ap load_refusal written_is ∙ player_loads sheet bytes first _ product_elements

    -- with these values
    pub product_values_law : instance_of (front (encode (product_values (instance_of sheet) (instance_of sheet')) buffer))
        ≡ product_values (instance_of sheet) (instance_of sheet')
    unfolding multiply_rows
    product_values_law =
        let inst = instance_of sheet in
        let z = product_statement inst (instance_of sheet') in
        ap instance_of written_is ∙ player_values sheet bytes first _ product_elements
        ∙ ap (λ (x : List ℕ). with_statement inst (pad8 0 x))
        (places_pad8 inst.header.rows z ∙ places_whole inst.header.rows z (length_tabulate _ _))

-- ---- by what loading gives

module _ (sheet sheet' : List ℕ) (first : load_refusal sheet ≡ 0) (second : load_refusal sheet' ≡ 0)
    (alike : SameTable file_calls sheet sheet') where
  -- the header that is loaded
  header_given : (s : List ℕ) → load_refusal s ≡ 0 → (load s).header ≡ (instance_of s).header
  header_given s e = ap (λ (answer : Loaded). answer.header) (load_given s e)

  -- the second sheet's values are the first one's with another statement
  one_table : instance_of sheet' ≡ with_statement (instance_of sheet) (instance_of sheet').statement
  one_table =
      let headers = sym (header_given sheet' second) ∙ sym alike.header ∙ header_given sheet first in
      let entries = sym (entries_given sheet' second) ∙ sym alike.entries ∙ entries_given sheet first in
      λ i. record { header = headers i; entries = entries i; statement = (instance_of sheet').statement }

  -- the values with z·z'
  values_given : product_values (loaded sheet) (loaded sheet') ≡ product_values (instance_of sheet) (instance_of sheet')
  values_given = ap₂ (λ (i i' : Instance). product_values i i') (loaded_given sheet first) (loaded_given sheet' second)

  -- a sheet for z·z' loads with them
  sheet_given : (product : List ℕ) → ProductSheet file_calls sheet sheet' product
      → (load_refusal product ≡ 0) × (instance_of product ≡ product_values (instance_of sheet) (instance_of sheet'))
  unfolding load
  sheet_given product whole = (whole.loads, sym (loaded_given product whole.loads) ∙ whole.values ∙ values_given)

  -- the second writer's is one
  sheet_there : AllBytes sheet → (buffer : List ℕ) → length sheet ≤ length buffer
      → ((encode (product_values (loaded sheet) (loaded sheet')) buffer).answer.refusal ≡ 0)
      × ProductSheet file_calls sheet sheet' (front (encode (product_values (loaded sheet) (loaded sheet')) buffer))
  unfolding load
  sheet_there bytes buffer room =
      let none = product_loads sheet sheet' first second one_table bytes buffer room in
      let same = product_values_law sheet sheet' first second one_table bytes buffer room in
      subst
      (λ (inst : Instance). ((encode inst buffer).answer.refusal ≡ 0) × ProductSheet file_calls sheet sheet' (front (encode inst buffer)))
      (sym values_given) (
        product_runs sheet sheet' first second one_table buffer room,
        record { loads = none; values = loaded_given _ none ∙ same ∙ sym values_given },
      )

  -- the card, of two sheets
  pub rounds_multiply : RoundsMultiply file_calls run_calls sheet sheet'
  rounds_multiply =
      let h = (instance_of sheet).header in
      let own : (load sheet).header ≡ h = header_given sheet first in
      let own' : (load sheet').header ≡ (instance_of sheet').header = header_given sheet' second in
      let exact : (made round round' : Round) → SameRound (load sheet).header made (product_round (load sheet).header round round')
      → SameRound h made (product_round h round round') =
      λ made round round' is. subst (λ (k : Header). SameRound k made (product_round k round round')) own is in
      record {
        sheet_there = sheet_there;
        accepted = λ product whole round round' made e e' same is.
            let (none, values) = sheet_given product whole in
            product_accepted sheet sheet' first second one_table product none values round round' made e e' same
            (exact made round round' is);
        extracted = λ product whole one two one' two' made made' p p' same same' is is'.
            let (none, values) = sheet_given product whole in
            let (runs, runs', answer) =
            product_extracted sheet sheet' first second one_table product none values one two one' two' made made'
            (subst (λ (k : Header). AcceptedPair k (Accepts sheet) one two) own p)
            (subst (λ (k : Header). AcceptedPair k (Accepts sheet') one' two') own' p') same same' (exact made one one' is)
            (exact made' two two' is') in (
              runs,
              runs',
              answer
                  ∙ ap (λ (k : Header). joined_answer k (extract_witness sheet one two) (extract_witness sheet' one' two')) (sym own),
            );
      }

pub products_work : ProductsWork file_calls run_calls
unfolding load
products_work = record {
  rows = multiply_at;
  sums = λ h e x y j b. join_at h x y j b ∙ combine_exponent h e (get_or x j 0) (get_or y j 0);
  slots = λ h e x y j b. join_at h x y j b ∙ combine_root h (λ one. omega (arith, e, one)) (get_or x j 0) (get_or y j 0);
  multiply = rounds_multiply;
}
