-- What a pattern means: row by row the image under its sheet is the product of what its digits stand for, each to its slot. 01's
-- readings of its patterns 1 to 5 follow, and the root's is its own.
-- Assumes nothing.
use Prim.Native.Nat.{ℕ, zero, suc, ◌+◌, ◌-◌, ◌*◌, ◌%◌, ◌^◌, ◌<◌, ◌≤◌}
use mathlib.Core.Path.{◌≡◌, refl, sym, ap, ◌∙◌}
use mathlib.Core.List.{List, [], ◌∷◌}
use native.Mathlib.Nat.{mod-lt, mul_assoc, mul_comm, mul-one, one-mul}
use native.Mathlib.Omega.{arith}
use lib.ListN.{get_or}
use lib.Pow.{pow-add}
use Rattle.lists.specs.Places.{items_at, tabulate}
use Rattle.lists.proofs.Places.{tabulate_agree}
use Rattle.numbers.specs.Congruence.{Cong}
use Rattle.numbers.specs.Product.{product}
use Rattle.numbers.proofs.Congruence.{
  cong_add,
  cong_add_multiple,
  cong_mod,
  cong_mul,
  cong_of_equal,
  cong_pow,
  cong_refl,
  cong_sym,
  mod_pow,
  ◌then◌,
}
use Rattle.numbers.proofs.Powers.{cong_pow_exponent, mul_pow, one_pow, pow_mul}
use Rattle.numbers.proofs.Product.{product_agree}
use Rattle.sigma.specs.Element.{Element}
use Rattle.sigma.specs.Image.{image, row_image}
use Rattle.sigma.specs.Instance.{table_of, entry, is_exponent}
use Rattle.sigma.proofs.ByKind.{row_image_exponent}
use Rattle.patterns.specs.Meaning.{PatternsMean, made_image}
use Rattle.patterns.specs.Pattern.{Pattern, digit, entry_of, header_for, made_for, root}
use Rattle.patterns.specs.Table.{kind_of, made, made_header, pattern_of, patterns, pedersen}
use Rattle.patterns.proofs.Sheets.{made_entry, made_statement}

-- ---- every pattern

-- the product in row i: what each digit stands for, to its slot of x
abbrev pub pattern_row : Pattern → ℕ → List ℕ → List ℕ → ℕ → ℕ
pattern_row p m values x i = product p.columns (λ j. entry_of values (get_or p.digits (p.columns * i + j) 0) ^ get_or x j 0) % m

module _ (p : Pattern) (m ℓ K : ℕ) (values z x : List ℕ) where
  -- row i of [x] is that product
  pub pattern_means : (i : ℕ) → i < p.rows → row_image (table_of (made_for 1 p m ℓ K values z)) x i ≡ pattern_row p m values x i
  unfolding made_for header_for digit
  pattern_means i h =
      let table = table_of (made_for 1 p m ℓ K values z) in
      row_image_exponent table refl x i
      ∙ ap (λ (k : ℕ). k % m)
      (product_agree p.columns (λ j. entry table i j ^ get_or x j 0) _
      (λ j b. ap (λ (k : ℕ). k ^ get_or x j 0) (made_entry 1 p m ℓ K values z refl i j h b)))

  -- so [x] is all of them
  pub pattern_image : image (table_of (made_for 1 p m ℓ K values z)) x ≡ tabulate p.rows (pattern_row p m values x)
  unfolding image made_for header_for
  pattern_image = tabulate_agree p.rows _ (pattern_row p m values x) pattern_means

-- ---- powers and commitments

-- a power of a power, the exponents in the other order
power_of_power : (v b a : ℕ) → (v ^ b) ^ a ≡ v ^ (a * b)
power_of_power v b a = sym (pow_mul v b a) ∙ ap (λ (k : ℕ). v ^ k) (mul_comm b a)

-- B^a · h^δ is C(ab, aβ + δ) where B = C(b, β)
pub pedersen_product : (m g h b β a δ : ℕ) → pedersen m g h b β ^ a * h ^ δ % m ≡ pedersen m g h (a * b) (a * β + δ)
unfolding pedersen
pedersen_product m g h b β a δ =
    let whole : (g ^ b * h ^ β) ^ a * h ^ δ ≡ g ^ (a * b) * h ^ (a * β + δ) =
    rw (mul_pow (g ^ b) (h ^ β) a, power_of_power g b a, power_of_power h β a, mul_assoc, pow-add h (a * β) δ) in
    (cong_mul (cong_pow (cong_mod m (g ^ b * h ^ β)) a) (cong_refl m (h ^ δ))).same ∙ ap (λ (k : ℕ). k % m) whole

-- a number and ε minus it, mod q, are ε together
pub difference : (q n ε : ℕ) → 1 ≤ q → Cong q (n + (ε + (q - n % q)) % q) ε
difference q n ε some =
    let below : n % q < q = mod-lt n some in
    let whole : n % q + (ε + (q - n % q)) ≡ ε + q * 1 = omega (arith, mul-one q) in
    cong_add (cong_sym (cong_mod q n)) (cong_mod q (ε + (q - n % q))) then cong_of_equal q whole then cong_add_multiple q ε 1

-- ---- 01's patterns

-- what holds of each number from 1 to 6 holds of every pattern number
pub by_number : (P : ℕ → Type 0) → P 1 → P 2 → P 3 → P 4 → P 5 → P 6 → (number : ℕ) → 1 ≤ number → number ≤ 6 → P number
by_number P a b c d e f zero l h = absurd (omega arith)
by_number P a b c d e f (suc zero) l h = a
by_number P a b c d e f (suc (suc zero)) l h = b
by_number P a b c d e f (suc (suc (suc zero))) l h = c
by_number P a b c d e f (suc (suc (suc (suc zero)))) l h = d
by_number P a b c d e f (suc (suc (suc (suc (suc zero))))) l h = e
by_number P a b c d e f (suc (suc (suc (suc (suc (suc zero)))))) l h = f
by_number P a b c d e f (suc (suc (suc (suc (suc (suc (suc n))))))) l h = absurd (omega arith)

-- 01's table: how many public values, rows and columns each pattern has
pattern_shape : (number : ℕ) → 1 ≤ number → number ≤ 6
    → ((pattern_of number).values ≡ get_or (1 ∷ 2 ∷ 2 ∷ 2 ∷ 3 ∷ 0 ∷ []) (number - 1) 0)
    × ((pattern_of number).rows ≡ get_or (1 ∷ 1 ∷ 2 ∷ 2 ∷ 2 ∷ 1 ∷ []) (number - 1) 0)
    × ((pattern_of number).columns ≡ get_or (1 ∷ 2 ∷ 1 ∷ 1 ∷ 3 ∷ 1 ∷ []) (number - 1) 0)
unfolding pattern_of patterns root
pattern_shape =
    by_number
    (λ n. ((pattern_of n).values ≡ get_or (1 ∷ 2 ∷ 2 ∷ 2 ∷ 3 ∷ 0 ∷ []) (n - 1) 0)
    × ((pattern_of n).rows ≡ get_or (1 ∷ 1 ∷ 2 ∷ 2 ∷ 2 ∷ 1 ∷ []) (n - 1) 0)
    × ((pattern_of n).columns ≡ get_or (1 ∷ 2 ∷ 1 ∷ 1 ∷ 3 ∷ 1 ∷ []) (n - 1) 0))
    (refl, refl, refl) (refl, refl, refl) (refl, refl, refl) (refl, refl, refl) (refl, refl, refl) (refl, refl, refl)

module _ (m q K : ℕ) where
  -- 1 to 5: the image is the product of the named values, row by row
  table_image : (number : ℕ) → kind_of number ≡ 1 → (values x : List ℕ)
      → made_image number m q K values x ≡ tabulate (pattern_of number).rows (pattern_row (pattern_of number) m values x)
  unfolding made
  table_image number one values x =
      ap (λ (kind : ℕ). image (table_of (made_for kind (pattern_of number) m q K values [])) x) one
      ∙ pattern_image (pattern_of number) m q K values [] x

  -- 1, Schnorr: h^x
  schnorr_image : (h x : ℕ) → made_image 1 m q K (h ∷ []) (x ∷ []) ≡ h ^ x % m ∷ []
  unfolding tabulate items_at product kind_of pattern_of patterns entry_of
  schnorr_image h x = table_image 1 refl (h ∷ []) (x ∷ []) ∙ simp one-mul

  -- 2, Okamoto: h1^x1 · h2^x2
  okamoto_image : (h1 h2 x1 x2 : ℕ) → made_image 2 m q K (h1 ∷ h2 ∷ []) (x1 ∷ x2 ∷ []) ≡ h1 ^ x1 * h2 ^ x2 % m ∷ []
  unfolding tabulate items_at product kind_of pattern_of patterns entry_of
  okamoto_image h1 h2 x1 x2 = table_image 2 refl (h1 ∷ h2 ∷ []) (x1 ∷ x2 ∷ []) ∙ simp one-mul

  -- 3, equality: h1^x and h2^x
  equality_image : (h1 h2 x : ℕ) → made_image 3 m q K (h1 ∷ h2 ∷ []) (x ∷ []) ≡ h1 ^ x % m ∷ h2 ^ x % m ∷ []
  unfolding tabulate items_at product kind_of pattern_of patterns entry_of
  equality_image h1 h2 x = table_image 3 refl (h1 ∷ h2 ∷ []) (x ∷ []) ∙ simp one-mul

  -- 4, Diffie-Hellman: h^x and B^x
  diffie_hellman_image : (h B x : ℕ) → made_image 4 m q K (h ∷ B ∷ []) (x ∷ []) ≡ h ^ x % m ∷ B ^ x % m ∷ []
  unfolding tabulate items_at product kind_of pattern_of patterns entry_of
  diffie_hellman_image h B x = table_image 4 refl (h ∷ B ∷ []) (x ∷ []) ∙ simp one-mul

  -- 5, product: g^x1 · h^x2 and B^x1 · h^x3
  product_image : (g h B x1 x2 x3 : ℕ)
      → made_image 5 m q K (g ∷ h ∷ B ∷ []) (x1 ∷ x2 ∷ x3 ∷ []) ≡ g ^ x1 * h ^ x2 % m ∷ B ^ x1 * h ^ x3 % m ∷ []
  unfolding tabulate items_at product kind_of pattern_of patterns entry_of
  product_image g h B x1 x2 x3 =
      table_image 5 refl (g ∷ h ∷ B ∷ []) (x1 ∷ x2 ∷ x3 ∷ []) ∙ simp (one-mul, one_pow, mul-one)

  -- 6, root: x^e
  root_image : (x : ℕ) → made_image 6 m q K [] (x ∷ []) ≡ x ^ q % m ∷ []
  unfolding image row_image tabulate items_at made made_for header_for kind_of pattern_of patterns root is_exponent
  root_image x = refl

  -- ---- 01's reading of 4

  -- where B = h^b, the image of a is A = h^a and the shared key h^(ab)
  diffie_hellman_key : (h a b : ℕ) → made_image 4 m q K (h ∷ h ^ b % m ∷ []) (a ∷ []) ≡ h ^ a % m ∷ h ^ (a * b) % m ∷ []
  diffie_hellman_key h a b =
      diffie_hellman_image h (h ^ b % m) a
      ∙ ap (λ (k : ℕ). h ^ a % m ∷ k ∷ []) (mod_pow m (h ^ b) a ∙ ap (λ (k : ℕ). k % m) (power_of_power h b a))

  -- ---- 01's reading of 5

  -- where B = C(b, β), the image of (a, α, δ) is C(a, α) and C(ab, aβ + δ)
  pub product_commitments : (g h b β a α δ : ℕ)
      → made_image 5 m q K (g ∷ h ∷ pedersen m g h b β ∷ []) (a ∷ α ∷ δ ∷ [])
      ≡ pedersen m g h a α ∷ pedersen m g h (a * b) (a * β + δ) ∷ []
  unfolding pedersen
  product_commitments g h b β a α δ =
      product_image g h (pedersen m g h b β) a α δ
      ∙ ap (λ (k : ℕ). pedersen m g h a α ∷ k ∷ []) (pedersen_product m g h b β a δ)

  -- where moreover h is a group element, the image of the witness (a, α, ε − aβ) is A = C(a, α) and E = C(ab, ε)
  product_witness_law : (g h b β a α ε : ℕ) → 1 ≤ q → Element (made_header 5 m q K) h
      → made_image 5 m q K (g ∷ h ∷ pedersen m g h b β ∷ []) (a ∷ α ∷ (ε + (q - a * β % q)) % q ∷ [])
      ≡ pedersen m g h a α ∷ pedersen m g h (a * b) ε ∷ []
  unfolding pedersen made_header header_for kind_of
  product_witness_law g h b β a α ε some element =
      let same : Cong m (h ^ (a * β + (ε + (q - a * β % q)) % q)) (h ^ ε) =
      cong_pow_exponent m q h (element.ordered refl) _ ε (difference q (a * β) ε some) in
      product_commitments g h b β a α ((ε + (q - a * β % q)) % q)
      ∙ ap (λ (k : ℕ). pedersen m g h a α ∷ k ∷ []) (cong_mul (cong_refl m (g ^ (a * b))) same).same

-- the shape and the meaning of all six
pub patterns_mean : PatternsMean
unfolding made made_for header_for kind_of
patterns_mean = record {
  shapes = record {
    sizes = pattern_shape;
    header = λ number m ℓ K values z. refl;
    statement = λ number. made_statement (kind_of number) (pattern_of number);
    table = λ number m ℓ K values z. refl;
  };
  images = λ m ℓ K. record {
    schnorr = schnorr_image m ℓ K;
    okamoto = okamoto_image m ℓ K;
    equality = equality_image m ℓ K;
    diffie_hellman = diffie_hellman_image m ℓ K;
    diffie_hellman_key = diffie_hellman_key m ℓ K;
    product = product_image m ℓ K;
    product_witness_law = product_witness_law m ℓ K;
    root = root_image m ℓ K;
  };
}
