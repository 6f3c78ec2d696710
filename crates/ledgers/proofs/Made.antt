-- The lines that the writer makes, by their kinds: commitments, sums, and products with their rounds in numbers.
-- Assumes nothing.
use Prim.Native.Nat.{ℕ, zero, suc, ◌+◌, ◌-◌, ◌*◌, ◌%◌, ◌^◌, ◌<◌, ◌≤◌}
use mathlib.Core.Path.{◌≡◌, sym, ap, subst, ◌∙◌}
use mathlib.Core.List.{List, [], ◌∷◌}
use native.Mathlib.Nat.{mod-eq_of_lt, mod-lt, pow-suc, pow-zero}
use native.Mathlib.Omega.{arith}
use lib.ListN.{get_or-append, get_or, get_or-replicate, length, length-append, length-replicate, replicate}
use lib.Seq.{get_or-append-add}
use Rattle.types.specs.declared.Header.{Header}
use Rattle.lists.specs.Places.{items_at, tabulate}
use Rattle.lists.proofs.Places.{get_d_tabulate, length_tabulate}
use Rattle.numbers.proofs.Congruence.{cong_add_cancel, cong_below, cong_mod, cong_mul, mod_mul_left}
use Rattle.patterns.specs.Pattern.{header_for, made_for}
use Rattle.patterns.specs.Table.{kind_of, made, pattern_of, patterns, pedersen}
use Rattle.patterns.proofs.Meaning.{difference}
use Rattle.sigma.specs.Element.{Element}
use Rattle.sigma.specs.Image.{image}
use Rattle.sigma.specs.Instance.{Instance, is_exponent, table_of}
use Rattle.sigma.specs.Round.{response, response_coordinate}
use Rattle.sigma.specs.Valid.{Valid}
use Rattle.sigma.proofs.ElementGroup.{element_one, element_product}
use Rattle.ledgers.specs.Lines.{line_at, no_line}
use Rattle.ledgers.specs.Ledger.{product_of}
use Rattle.ledgers.specs.Meaning.{committed}
use Rattle.ledgers.specs.Refusals.{product_header}
use Rattle.ledgers.specs.Write.{
  Opening,
  commit_to,
  ledger_of,
  line_of,
  made_commitment,
  made_product,
  made_sum,
  opening_at,
  opening_of,
  product_witness,
  zero_line,
}
use Rattle.ledgers.specs.declared.Base.{Base}
use Rattle.ledgers.specs.declared.Entry.{Entry}
use Rattle.ledgers.specs.declared.Line.{Line}
use Rattle.ledgers.proofs.Product.{image_is}
use Rattle.ledgers.proofs.Valid.{Sound, product_valid}

-- ---- a ledger of so many lines

module _ (count : ℕ) (line : ℕ → Line) where
  pub line_of_law : (i : ℕ) → i < count → line_at (ledger_of count line) i ≡ line i
  unfolding ledger_of
  line_of_law i inside =
      get_or-append (tabulate count line) (replicate (64 - count) zero_line) no_line i (omega (arith, length_tabulate count line))
      ∙ get_d_tabulate count line i no_line inside

  pub line_beyond : (i : ℕ) → count ≤ i → i < 64 → line_at (ledger_of count line) i ≡ zero_line
  unfolding ledger_of
  line_beyond i past inside =
      let long = length_tabulate count line in
      let index : i ≡ length (tabulate count line) + (i - count) = omega (arith, long, past) in
      ap (λ (k : ℕ). line_at (ledger_of count line) k) index
      ∙ get_or-append-add (tabulate count line) (replicate (64 - count) zero_line) (i - count) no_line
      ∙ get_or-replicate (64 - count) (i - count) zero_line no_line (omega (arith, past, inside))

  pub room_of : count ≤ 64 → length (ledger_of count line).lines ≡ 64
  unfolding ledger_of
  room_of few =
      let long = length_tabulate count line in
      length-append (tabulate count line) (replicate (64 - count) zero_line)
      ∙ omega (arith, long, length-replicate (64 - count) zero_line, few)

-- ---- the line of an entry

module _ (base : Base) (above : List Opening) (e : Entry) where
  pub made_given : e.kind ≡ 1 → line_of base above e ≡ made_commitment (commit_to base (opening_of base.order above e))
  unfolding line_of
  made_given one = rw one

  pub made_sum_law : e.kind ≡ 2 → line_of base above e ≡ made_sum e.first e.second
  unfolding line_of
  made_sum_law two = rw two

  pub made_product_law : e.kind ≡ 3 → line_of base above e ≡ made_product base above (opening_of base.order above e) e
  unfolding line_of
  made_product_law three = rw three

-- ---- commitments are group elements

-- a power of a group element is one
power_element : (h : Header) → 1 < h.modulus → 0 < h.order → (v n : ℕ) → Element h v → Element h (v ^ n % h.modulus)
power_element h big some v zero e = rw (pow-zero v) (rw (mod-eq_of_lt big) (element_one h big))
power_element h big some v (suc n) e =
    let m = h.modulus in
    rw (pow-suc v n) (subst (λ (k : ℕ). Element h k) (mod_mul_left m (v ^ n) v) (element_product h big some (v ^ n % m) v (power_element h big some v n e) e))

-- so are two powers multiplied
pub powers_element : (base : Base) → Sound base → (x y n k : ℕ) → Element (product_header base) x → Element (product_header base) y
    → Element (product_header base) (x ^ n * y ^ k % base.modulus)
powers_element base right x y n k ex ey =
    let h = product_header base in
    let m = base.modulus in
    let big : 1 < base.modulus = omega (arith, right.modulus) in
    let some : 0 < base.order = omega (arith, right.order) in
    subst (λ (j : ℕ). Element h j) (cong_mul (cong_mod m (x ^ n)) (cong_mod m (y ^ k))).same
    (element_product h big some (x ^ n % m) (y ^ k % m) (power_element h big some x n ex) (power_element h big some y k ey))

pub commit_element : (base : Base) → Sound base → (o : Opening) → Element (product_header base) (commit_to base o)
unfolding commit_to pedersen
commit_element base right o = powers_element base right base.g base.h o.value o.blinding right.g right.h

-- ---- ε − aβ mod q

-- it is below q and with aβ it is ε
pub difference_is : (q n ε : ℕ) → 1 ≤ q → ε < q → (n + (ε + (q - n % q)) % q) % q ≡ ε
difference_is q n ε some low = (difference q n ε some).same ∙ mod-eq_of_lt low

-- no other number is
pub difference_only : (q n ε δ : ℕ) → 1 ≤ q → δ < q → (n + δ) % q ≡ ε → δ ≡ (ε + (q - n % q)) % q
difference_only q n ε δ some below is =
    let found = (ε + (q - n % q)) % q in
    let low : ε < q = subst (λ (k : ℕ). k < q) is (mod-lt (n + δ) some) in
    let same : (δ + n) % q ≡ (found + n) % q =
    ap (λ (k : ℕ). k % q) {x = δ + n} {y = n + δ} (omega arith) ∙ is ∙ sym (difference_is q n ε some low)
    ∙ ap (λ (k : ℕ). k % q) {x = n + found} {y = found + n} (omega arith) in
    cong_below (cong_add_cancel q δ found n (record { same = same })) below (mod-lt (ε + (q - n % q)) some)

-- ---- the round of a product

module _ (base : Base) (right : Sound base) (above : List Opening) (own : Opening) (e : Entry) (a α b β δ : ℕ)
    (first : opening_at above e.first ≡ record { value = a; blinding = α })
    (second : opening_at above e.second ≡ record { value = b; blinding = β })
    (below : δ < base.order) (blinds : (a * β + δ) % base.order ≡ e.blinding) where
  -- its witness
  pub witness_is : product_witness base.order (opening_at above e.first) (opening_at above e.second) e.blinding ≡ a ∷ α ∷ δ ∷ []
  unfolding product_witness
  witness_is =
      let order = right.order in
      rw (first, second)
      (ap (λ (k : ℕ). a ∷ α ∷ k ∷ []) (sym (difference_only base.order (a * β) e.blinding δ (omega (arith, order)) below blinds)))

  -- the sheet's statement is Valid
  abbrev pub statement : Instance
  statement =
      product_of base (commit_to base (opening_at above e.first)) (commit_to base (opening_at above e.second)) (commit_to base own)

  pub statement_valid : Valid statement
  statement_valid =
      product_valid base right _ _ _ (commit_element base right (opening_at above e.first))
      (commit_element base right (opening_at above e.second)) (commit_element base right own)

  -- the commitment to the second factor
  second_is : commit_to base (opening_at above e.second) ≡ committed base b β
  unfolding commit_to pedersen
  second_is = ap (λ (o : Opening). base.g ^ o.value * base.h ^ o.blinding % base.modulus) second

  -- t
  t_is : image (table_of statement) e.nonce
      ≡ base.g ^ get_or e.nonce 0 0 * base.h ^ get_or e.nonce 1 0 % base.modulus ∷
      committed base b β ^ get_or e.nonce 0 0 * base.h ^ get_or e.nonce 2 0 % base.modulus ∷ []
  t_is =
      image_is base _ _ _ statement_valid e.nonce
      ∙ ap (λ (B : ℕ). base.g ^ get_or e.nonce 0 0 * base.h ^ get_or e.nonce 1 0 % base.modulus ∷
      B ^ get_or e.nonce 0 0 * base.h ^ get_or e.nonce 2 0 % base.modulus ∷ []) second_is

  -- r
  r_is : response statement.header e.nonce e.challenge
      (product_witness base.order (opening_at above e.first) (opening_at above e.second) e.blinding)
      ≡ (get_or e.nonce 0 0 + e.challenge * a) % base.order ∷ (get_or e.nonce 1 0 + e.challenge * α) % base.order ∷
      (get_or e.nonce 2 0 + e.challenge * δ) % base.order ∷ []
  unfolding response response_coordinate is_exponent tabulate items_at product_of made made_for header_for kind_of pattern_of patterns
  r_is = ap (response statement.header e.nonce e.challenge) witness_is

  -- the line
  pub product_line_is : made_product base above own e
      ≡ record {
        kind = 3;
        first = e.first;
        second = e.second;
        commitment = committed base own.value own.blinding;
        t =
            base.g ^ get_or e.nonce 0 0 * base.h ^ get_or e.nonce 1 0 % base.modulus ∷
            committed base b β ^ get_or e.nonce 0 0 * base.h ^ get_or e.nonce 2 0 % base.modulus ∷ [];
        challenge = e.challenge;
        response =
            (get_or e.nonce 0 0 + e.challenge * a) % base.order ∷ (get_or e.nonce 1 0 + e.challenge * α) % base.order ∷
            (get_or e.nonce 2 0 + e.challenge * δ) % base.order ∷ [];
      }
  unfolding made_product commit_to pedersen
  product_line_is = λ i. record {
    kind = 3;
    first = e.first;
    second = e.second;
    commitment = committed base own.value own.blinding;
    t = t_is i;
    challenge = e.challenge;
    response = r_is i;
  }
