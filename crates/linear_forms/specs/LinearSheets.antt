-- What 02's tenth card asks: which refusals the maker of sheets from linear forms gives, which sheet it writes, and that the sheet's
-- image is the formula of Maurer's section 6.5 for every secret.
-- Assumes nothing.
use Rattle.std.specs.Prelude.{ℕ, ◌+◌, ◌*◌, ◌%◌, ◌^◌, ◌<◌, ◌≡◌, true, List, [], ◌∷◌, get_or, length}
use Rattle.numbers.specs.Product.{product, sum}
use Rattle.rules.specs.Order.{is_sublist, refusal_order}
use Rattle.rules.specs.Refuses.{Refuses}
use Rattle.formats.specs.Encode.{sheet_of}
use Rattle.formats.specs.FileCalls.{FileCalls}
use Rattle.formats.specs.Outcome.{Keeps, Puts, front}
use Rattle.formats.specs.Sheet.{instance_of}
use Rattle.sigma.specs.Image.{row_image}
use Rattle.sigma.specs.Instance.{Instance, entry, statement_at, table_of}
use Rattle.linear_forms.specs.LinearCalls.{LinearCalls}
use Rattle.linear_forms.specs.LinearPlan.{LinearPlan}
use Rattle.linear_forms.specs.Refusals.{linear_conditions}

-- values are those of a plan's sheet
pub record OfPlan (p : LinearPlan) (inst : Instance) : Type 0 where
  -- of kind 1, with the m, q, K, s and n that were given
  pub header : inst.header
      ≡ record { kind = 1; modulus = p.modulus; order = p.order; challenges = p.challenges; rows = p.rows; columns = p.columns }
  -- entry (i, j) is the product over the generators of generator^coefficient mod m; coefficients stand by row, then generator, then
  -- column
  pub entries : (i j : ℕ) → i < p.rows → j < p.columns
      → entry (table_of inst) i j
      ≡ product (length p.generators)
      (λ g. get_or p.generators g 0 ^ get_or p.coefficients (i * (length p.generators * p.columns) + g * p.columns + j) 0) % p.modulus
  -- the statement is z
  pub statement : (i : ℕ) → i < p.rows → statement_at inst i ≡ get_or p.statement i 0

module _ (linear : LinearCalls) where
  open linear use {make_linear}

  -- the refusals, for any numbers and any lists; a refused call keeps the buffer's bytes and answers length 0
  pub record LinearRefusals : Type 0 where
    pub making : (p : LinearPlan) (buffer : List ℕ)
        → Refuses (5 ∷ 6 ∷ 7 ∷ 8 ∷ 29 ∷ 30 ∷ 10 ∷ 11 ∷ 22 ∷ []) (linear_conditions p buffer) (make_linear p buffer).answer.refusal
        (Keeps buffer (make_linear p buffer))
    -- in the order of all numbers 29 and 30 stand between 9 and 10
    pub inserted : is_sublist (9 ∷ 29 ∷ 30 ∷ 10 ∷ []) refusal_order ≡ true

module _ (files : FileCalls) (linear : LinearCalls) where
  open files use {load}
  open linear use {make_linear}

  pub record LinearSheets : Type 0 where
    -- if nothing is refused, the sheet of the plan's values stands at the start of the buffer, and no byte after it is changed
    pub written : (p : LinearPlan) (buffer : List ℕ) → (make_linear p buffer).answer.refusal ≡ 0
        → (inst : Instance) × OfPlan p inst × Puts (sheet_of inst) buffer (make_linear p buffer)
    -- it loads as the plan's values, for the m and q of 32 bits that a sheet stores
    pub loads : (p : LinearPlan) (buffer : List ℕ) → p.modulus < 2 ^ 32 → p.order < 2 ^ 32 → (make_linear p buffer).answer.refusal ≡ 0
        → ((load (front (make_linear p buffer))).refusal ≡ 0) × OfPlan p (instance_of (front (make_linear p buffer)))
    -- row i of its image of every secret x is, as in section 6.5, the product over the generators of generator^φ(x), φ being the sum
    -- over j of coefficient · x_j mod q
    pub formula : (p : LinearPlan) (buffer : List ℕ) → p.modulus < 2 ^ 32 → p.order < 2 ^ 32 → (make_linear p buffer).answer.refusal ≡ 0
        → (x : List ℕ) (i : ℕ) → i < p.rows
        → row_image (table_of (instance_of (front (make_linear p buffer)))) x i
        ≡ product (length p.generators) (λ g. get_or p.generators g 0 ^
        (sum p.columns (λ j. get_or p.coefficients (i * (length p.generators * p.columns) + g * p.columns + j) 0 * get_or x j 0) % p.order))
        % p.modulus
