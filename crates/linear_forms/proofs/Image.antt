-- The image of a sheet from linear forms is the formula of Maurer's section 6.5.
-- Assumes nothing.
use Prim.Native.Nat.{ℕ, ◌+◌, ◌*◌, ◌%◌, ◌^◌, ◌<◌}
use mathlib.Core.Path.{◌≡◌, refl, sym, ap, ◌∙◌}
use mathlib.Core.List.{List}
use lib.ListN.{get_or, length}
use Rattle.types.specs.declared.Header.{Header}
use Rattle.numbers.specs.Congruence.{Cong}
use Rattle.numbers.specs.Product.{product, sum}
use Rattle.numbers.proofs.Congruence.{◌then◌, cong_mod, cong_of_equal, cong_pow, cong_sym}
use Rattle.numbers.proofs.Powers.{cong_pow_mod, pow_mul}
use Rattle.numbers.proofs.Product.{pow_sum, product_agree, product_cong, product_pow, product_swap}
use Rattle.sigma.specs.Element.{Element}
use Rattle.sigma.specs.Image.{row_image}
use Rattle.sigma.specs.Instance.{Instance, entry, table_of}
use Rattle.sigma.proofs.ByKind.{row_image_exponent}
use Rattle.linear_forms.specs.LinearPlan.{LinearPlan}
use Rattle.linear_forms.specs.LinearSheets.{OfPlan}
use Rattle.linear_forms.specs.Refusals.{linear_header}

-- a product over n factors of products over k powers of numbers, each raised to a power, is the product over the numbers of the
-- power by the sum of the exponents' products
forms_gathered : (m n k : ℕ) (v x : ℕ → ℕ) (a : ℕ → ℕ → ℕ)
    → Cong m (product n (λ j. (product k (λ g. v g ^ a g j) % m) ^ x j)) (product k (λ g. v g ^ sum n (λ j. a g j * x j)))
forms_gathered m n k v x a =
    product_cong m n _ (λ j. product k (λ g. v g ^ (a g j * x j))) (λ j b.
    cong_pow (cong_mod m (product k (λ g. v g ^ a g j))) (x j)
    then cong_of_equal m (product_pow k (λ g. v g ^ a g j) (x j) ∙ product_agree k _ _ (λ g c. sym (pow_mul (v g) (a g j) (x j)))))
    then cong_of_equal m (product_swap n k (λ j g. v g ^ (a g j * x j))
    ∙ product_agree k _ _ (λ g c. sym (pow_sum (v g) n (λ j. a g j * x j))))

module _ {p : LinearPlan} {inst : Instance} (of_plan : OfPlan p inst) where
  -- where the generators are group elements, row i of the image is the product over the generators of generator^φ(x)
  pub plan_image : ((g : ℕ) → g < length p.generators → Element (linear_header p) (get_or p.generators g 0))
      → (x : List ℕ) (i : ℕ) → i < p.rows
      → row_image (table_of inst) x i
      ≡ product (length p.generators) (λ g. get_or p.generators g 0 ^
      (sum p.columns (λ j. get_or p.coefficients (i * (length p.generators * p.columns) + g * p.columns + j) 0 * get_or x j 0) % p.order))
      % p.modulus
  plan_image elements x i inside =
      let n = length p.generators in
      let m = p.modulus in
      let v : ℕ → ℕ = λ g. get_or p.generators g 0 in
      let a : ℕ → ℕ → ℕ = λ g j. get_or p.coefficients (i * (n * p.columns) + g * p.columns + j) 0 in
      let form : ℕ → ℕ = λ g. sum p.columns (λ j. a g j * get_or x j 0) in
      row_image_exponent (table_of inst) (ap (λ (h : Header). h.kind) of_plan.header) x i
      ∙ ap (λ (h : Header). product h.columns (λ j. entry (table_of inst) i j ^ get_or x j 0) % h.modulus) of_plan.header
      ∙ ap (λ (k : ℕ). k % m)
      (product_agree p.columns _ _ (λ j b. ap (λ (k : ℕ). k ^ get_or x j 0) (of_plan.entries i j inside b)))
      ∙ (forms_gathered m p.columns n v (λ j. get_or x j 0) a
      then product_cong m n _ (λ g. v g ^ (form g % p.order))
      (λ g b. cong_sym (cong_pow_mod m p.order (v g) ((elements g b).ordered refl) (form g)))).same
