-- A commitment, the witness of a product and its line, of what the code computes.
-- Assumes nothing.
use Prim.Native.Nat.{ℕ, ◌+◌, ◌-◌, ◌*◌, ◌%◌, ◌^◌}
use mathlib.Core.Path.{◌≡◌, refl, sym, ap, ap₂, ◌∙◌}
use mathlib.Core.List.{List, [], ◌∷◌}
use lib.ListN.{get_or}
use Rattle.lists.specs.Places.{items_at, pad8, tabulate}
use Rattle.numbers.specs.Product.{product}
use Rattle.numbers.proofs.Congruence.{mod_mul_both}
use Rattle.patterns.specs.Pattern.{header_for, made_for}
use Rattle.patterns.specs.Table.{kind_of, made, pattern_of, patterns, pedersen}
use Rattle.sigma.specs.Image.{image, row_image}
use Rattle.sigma.specs.Instance.{Table, is_exponent, table_of, table_with}
use Rattle.sigma.specs.Round.{response}
use Rattle.types.specs.declared.Header.{Header}
use Rattle.ledgers.specs.Ledger.{product_of}
use Rattle.ledgers.specs.Refusals.{product_header}
use Rattle.ledgers.specs.Write.{Opening, commit_to, made_product, opening_at, product_witness}
use Rattle.ledgers.specs.declared.Base.{Base}
use Rattle.ledgers.specs.declared.Entry.{Entry}
use Rattle.ledgers.specs.declared.Line.{Line}

-- an opening of two numbers
abbrev pub opening : ℕ → ℕ → Opening
opening v ρ = record { value = v; blinding = ρ }

-- two powers multiplied are a commitment
pub commit_is : (base : Base) (v ρ x y r : ℕ) → x ≡ base.g ^ v % base.modulus → y ≡ base.h ^ ρ % base.modulus
    → r ≡ x * y % base.modulus → r ≡ commit_to base (opening v ρ)
unfolding commit_to pedersen
commit_is base v ρ x y r is_x is_y is =
    is ∙ ap₂ (λ (a b : ℕ). a * b % base.modulus) is_x is_y ∙ mod_mul_both base.modulus (base.g ^ v) (base.h ^ ρ)

-- the witness of a product, in eight places
pub witness_is : (q a α β own n rest : ℕ) → n ≡ a * β % q → rest ≡ (own + (q - n)) % q → (b : ℕ)
    → a ∷ α ∷ rest ∷ 0 ∷ 0 ∷ 0 ∷ 0 ∷ 0 ∷ [] ≡ pad8 0 (product_witness q (opening a α) (opening b β) own)
unfolding product_witness pad8
witness_is q a α β own n rest is_n is b =
    ap (λ (x : ℕ). a ∷ α ∷ x ∷ 0 ∷ 0 ∷ 0 ∷ 0 ∷ 0 ∷ []) (is ∙ ap (λ (k : ℕ). (own + (q - k)) % q) is_n)

-- three slots in eight places
abbrev pub eight_of : List ℕ → List ℕ
eight_of xs = get_or xs 0 0 ∷ get_or xs 1 0 ∷ get_or xs 2 0 ∷ 0 ∷ 0 ∷ 0 ∷ 0 ∷ 0 ∷ []

module _ (base : Base) (A B E : ℕ) where
  -- the table of the product statement, of its two parts
  table_is : (h : Header) (entries : List (List ℕ)) → h ≡ product_header base → entries ≡ (product_of base A B E).entries
      → table_with h entries ≡ table_of (product_of base A B E)
  unfolding product_of made made_for header_for kind_of pattern_of patterns
  table_is h entries fields table = rw (fields, table)

  -- its image has two values
  image_two : (nonce : List ℕ)
      → get_or (pad8 0 (image (table_of (product_of base A B E)) (eight_of nonce))) 0 0
      ∷ get_or (pad8 0 (image (table_of (product_of base A B E)) (eight_of nonce))) 1 0 ∷ []
      ≡ image (table_of (product_of base A B E)) nonce
  unfolding image row_image product tabulate items_at pad8 is_exponent product_of made made_for header_for kind_of pattern_of patterns
  image_two nonce = refl

  -- and a response three
  response_three : (nonce : List ℕ) (c q : ℕ) (one two : Opening) (ε : ℕ)
      → get_or (pad8 0 (response (product_header base) (eight_of nonce) c (pad8 0 (product_witness q one two ε)))) 0 0
      ∷ get_or (pad8 0 (response (product_header base) (eight_of nonce) c (pad8 0 (product_witness q one two ε)))) 1 0
      ∷ get_or (pad8 0 (response (product_header base) (eight_of nonce) c (pad8 0 (product_witness q one two ε)))) 2 0 ∷ []
      ≡ response (product_of base A B E).header nonce c (product_witness q one two ε)
  unfolding response tabulate items_at pad8 product_witness product_of made made_for header_for kind_of pattern_of patterns
  response_three nonce c q one two ε = refl

-- a product's line of its parts
unfoldable pub line_with : Entry → ℕ → List ℕ → List ℕ → Line
line_with e commitment t r =
    record {
      kind = 3;
      first = e.first;
      second = e.second;
      commitment = commitment;
      t = t;
      challenge = e.challenge;
      response = r;
    }

module _ (base : Base) (one two own : Opening) (e : Entry) (above : List Opening)
    (first : opening_at above e.first ≡ one) (second : opening_at above e.second ≡ two) where
  -- its line by the definition
  made_is : made_product base above own e
      ≡ line_with e (commit_to base own)
      (image (table_of (product_of base (commit_to base one) (commit_to base two) (commit_to base own))) e.nonce)
      (response (product_of base (commit_to base one) (commit_to base two) (commit_to base own)).header e.nonce
      e.challenge (product_witness base.order one two e.blinding))
  unfolding made_product line_with
  made_is = rw (first, second)

  -- and by what the code computes
  pub product_made : (h : Header) (entries : List (List ℕ)) (B commitment : ℕ) (t x r : List ℕ)
      → h ≡ product_header base → B ≡ commit_to base two
      → ((A E : ℕ) → entries ≡ (product_of base A B E).entries)
      → t ≡ pad8 0 (image (table_with h entries) (eight_of e.nonce))
      → x ≡ pad8 0 (product_witness base.order one two e.blinding)
      → r ≡ pad8 0 (response h (eight_of e.nonce) e.challenge x)
      → commitment ≡ commit_to base own
      → line_with e commitment (get_or t 0 0 ∷ get_or t 1 0 ∷ []) (get_or r 0 0 ∷ get_or r 1 0 ∷ get_or r 2 0 ∷ []) ≡ made_product base above own e
  product_made h entries B commitment t x r fields is_second table is_t is_x is_r is_own =
      let A = commit_to base one in
      let C = commit_to base two in
      let E = commit_to base own in
      let tables : table_with h entries ≡ table_of (product_of base A C E) =
      table_is base A C E h entries fields (table A E ∙ ap (λ (k : ℕ). (product_of base A k E).entries) is_second) in
      let image_is : get_or t 0 0 ∷ get_or t 1 0 ∷ [] ≡ image (table_of (product_of base A C E)) e.nonce =
      ap (λ (l : List ℕ). get_or l 0 0 ∷ get_or l 1 0 ∷ [])
      (is_t ∙ ap (λ (k : Table). pad8 0 (image k (eight_of e.nonce))) tables) ∙ image_two base A C E e.nonce in
      let response_is : get_or r 0 0 ∷ get_or r 1 0 ∷ get_or r 2 0 ∷ []
      ≡ response (product_of base A C E).header e.nonce e.challenge (product_witness base.order one two e.blinding) =
      ap (λ (l : List ℕ). get_or l 0 0 ∷ get_or l 1 0 ∷ get_or l 2 0 ∷ [])
      (is_r ∙ ap₂ (λ (k : Header) (y : List ℕ). pad8 0 (response k (eight_of e.nonce) e.challenge y)) fields is_x)
      ∙ response_three base A C E e.nonce e.challenge base.order one two e.blinding in
      ap (λ (k : ℕ). line_with e k (get_or t 0 0 ∷ get_or t 1 0 ∷ []) (get_or r 0 0 ∷ get_or r 1 0 ∷ get_or r 2 0 ∷ [])) is_own
      ∙ ap₂ (line_with e E) image_is response_is ∙ sym made_is
