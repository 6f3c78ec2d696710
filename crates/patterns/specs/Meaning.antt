-- The shape of 01's six patterns, under 01's numbers for them, and what each of them states ("The patterns"). From pattern files
-- on, the root, 01's 6, is asked for as 0.
-- Assumes nothing.
use Rattle.std.specs.Prelude.{ℕ, ◌+◌, ◌-◌, ◌*◌, ◌%◌, ◌^◌, ◌≤◌, ◌≡◌, cond, List, [], ◌∷◌, eqb, get_or}
use Rattle.sigma.specs.Element.{Element}
use Rattle.sigma.specs.Image.{image}
use Rattle.sigma.specs.Instance.{statement_at, table_of}
use Rattle.patterns.specs.Table.{made, made_header, pattern_of, pedersen}

-- the image of a secret under the table of a pattern over public values, for m, ℓ and K
abbrev pub made_image : ℕ → ℕ → ℕ → ℕ → List ℕ → List ℕ → List ℕ
made_image number m ℓ K values x = image (table_of (made number m ℓ K values [])) x

-- the sheet of a pattern
pub record PatternShapes : Type 0 where
  -- how many public values, rows and columns each of the six has
  pub sizes : (number : ℕ) → 1 ≤ number → number ≤ 6
      → ((pattern_of number).values ≡ get_or (1 ∷ 2 ∷ 2 ∷ 2 ∷ 3 ∷ 0 ∷ []) (number - 1) 0)
      × ((pattern_of number).rows ≡ get_or (1 ∷ 1 ∷ 2 ∷ 2 ∷ 2 ∷ 1 ∷ []) (number - 1) 0)
      × ((pattern_of number).columns ≡ get_or (1 ∷ 2 ∷ 1 ∷ 1 ∷ 3 ∷ 1 ∷ []) (number - 1) 0)
  -- the fixed fields and the statement are what the maker is given; 6 is of kind 2
  pub header : (number m ℓ K : ℕ) (values z : List ℕ)
      → (made number m ℓ K values z).header
      ≡ record {
        kind = cond (eqb number 6) 2 1;
        modulus = m;
        order = ℓ;
        challenges = K;
        rows = (pattern_of number).rows;
        columns = (pattern_of number).columns;
      }
  pub statement : (number m ℓ K : ℕ) (values z : List ℕ) (i : ℕ) → statement_at (made number m ℓ K values z) i ≡ get_or z i 0
  -- the table does not depend on the statement
  pub table : (number m ℓ K : ℕ) (values z : List ℕ) → table_of (made number m ℓ K values z) ≡ table_of (made number m ℓ K values [])

-- what a pattern states of a secret
pub record PatternImages (m ℓ K : ℕ) : Type 0 where
  pub schnorr : (h x : ℕ) → made_image 1 m ℓ K (h ∷ []) (x ∷ []) ≡ h ^ x % m ∷ []
  pub okamoto : (h1 h2 x1 x2 : ℕ) → made_image 2 m ℓ K (h1 ∷ h2 ∷ []) (x1 ∷ x2 ∷ []) ≡ h1 ^ x1 * h2 ^ x2 % m ∷ []
  pub equality : (h1 h2 x : ℕ) → made_image 3 m ℓ K (h1 ∷ h2 ∷ []) (x ∷ []) ≡ h1 ^ x % m ∷ h2 ^ x % m ∷ []
  pub diffie_hellman : (h B x : ℕ) → made_image 4 m ℓ K (h ∷ B ∷ []) (x ∷ []) ≡ h ^ x % m ∷ B ^ x % m ∷ []
  -- where B = h^b, that is A = h^a and the shared key h^(ab)
  pub diffie_hellman_key : (h a b : ℕ)
      → made_image 4 m ℓ K (h ∷ h ^ b % m ∷ []) (a ∷ []) ≡ h ^ a % m ∷ h ^ (a * b) % m ∷ []
  -- the product, rows (g h 1) and (B 1 h)
  pub product : (g h B x1 x2 x3 : ℕ)
      → made_image 5 m ℓ K (g ∷ h ∷ B ∷ []) (x1 ∷ x2 ∷ x3 ∷ []) ≡ g ^ x1 * h ^ x2 % m ∷ B ^ x1 * h ^ x3 % m ∷ []
  -- where B = C(b, β), the witness (a, α, ε − aβ) is carried to A = C(a, α) and E = C(ab, ε)
  pub product_witness_law : (g h b β a α ε : ℕ) → 1 ≤ ℓ → Element (made_header 5 m ℓ K) h
      → made_image 5 m ℓ K (g ∷ h ∷ pedersen m g h b β ∷ []) (a ∷ α ∷ (ε + (ℓ - a * β % ℓ)) % ℓ ∷ [])
      ≡ pedersen m g h a α ∷ pedersen m g h (a * b) ε ∷ []
  pub root : (x : ℕ) → made_image 6 m ℓ K [] (x ∷ []) ≡ x ^ ℓ % m ∷ []

pub record PatternsMean : Type 0 where
  pub shapes : PatternShapes
  pub images : (m ℓ K : ℕ) → PatternImages m ℓ K
