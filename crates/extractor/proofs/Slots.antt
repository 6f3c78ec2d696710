-- The extractor's formula slot by slot, in each kind.
-- Assumes nothing.
use mathlib.Core.Path.{◌≡◌, refl, sym, ap, ap₂, ◌∙◌}
use mathlib.Core.Logic.{◌≢◌}
use mathlib.Core.List.{List}
use Prim.Native.Nat.{ℕ, ◌+◌, ◌-◌, ◌*◌, ◌%◌, ◌^◌, ◌<◌}
use native.Mathlib.Nat.{mul_comm}
use native.Mathlib.Omega.{arith}
use lib.IntN.{pos, neg_ℤ, ◌-ℤ◌}
use Rattle.types.specs.declared.Header.{Header}
use Rattle.lists.specs.Places.{places, pad8}
use Rattle.lists.proofs.Places.{tabulate_agree, pad8_at}
use Rattle.numbers.specs.Integer.{power}
use Rattle.numbers.specs.Inverse.{inverse}
use Rattle.numbers.proofs.Congruence.{mod_mul_left}
use Rattle.numbers.proofs.Exponent.{power_pos}
use Rattle.numbers.proofs.Integer.{residue_pos, residue_mul, residue_subtract}
use Rattle.powers.specs.Places.{products_of, powers_of}
use Rattle.powers.proofs.Places.{power_at}
use Rattle.sigma.specs.Extractor.{slot_formula, formula}
use Rattle.sigma.specs.Instance.{instance_with, statement_at}
use Rattle.sigma.proofs.ByKind.{slot_formula_exponent, slot_formula_root}
use Rattle.negatives.specs.Negative.{inverses_of, mul_negative_powers}
use Rattle.extractor.specs.Coefficients.{slot_formulas}

module _ (h : Header) (z a b r s : ℕ) where
  -- a slot of kind 1
  pub slot_exponent : {difference value : ℕ} → h.kind ≡ 1 → s < h.order → difference ≡ (r + (h.order - s)) % h.order
      → value ≡ b * difference % h.order → value ≡ slot_formula h z (neg_ℤ (pos a)) (pos b) r s
  slot_exponent {difference} {value} kind below is_difference is_value =
      let q = h.order in
      is_value ∙ sym (mod_mul_left q b difference)
      ∙ sym (slot_formula_exponent h kind z _ _ r s ∙ residue_mul q (pos b) (pos r -ℤ pos s) (omega arith)
      ∙ ap₂ (λ (x y : ℕ). x * y % q) (residue_pos q b) (residue_subtract q r s below ∙ sym is_difference))

  -- a slot of kind 2
  pub slot_root : {w quotient left right value : ℕ} → h.kind ≢ 1 → w ≡ inverse h.modulus s → quotient ≡ r * w % h.modulus
      → left ≡ power h.modulus z (neg_ℤ (pos a)) → right ≡ quotient ^ b % h.modulus → value ≡ left * right % h.modulus
      → value ≡ slot_formula h z (neg_ℤ (pos a)) (pos b) r s
  slot_root kind is_inverse is_quotient is_left is_right is_value =
      rw (slot_formula_root h kind z _ _ r s, power_pos h.modulus _ b, is_value, is_left, is_right, is_quotient, is_inverse)

module _ (h : Header) (statement : List ℕ) (a b : ℕ) (r s : List ℕ) where
  -- the slots of kind 2 from inverses, quotients and powers of all at once
  pub slots_root : {found quotients values : List ℕ} (raised : List ℕ) → h.kind ≢ 1
      → found ≡ pad8 0 (inverses_of h.modulus h.columns s)
      → quotients ≡ pad8 0 (products_of h.modulus h.columns r found)
      → places h.columns raised ≡ powers_of h.modulus b h.columns quotients
      → values ≡ pad8 0 (mul_negative_powers h.modulus a h.columns raised statement)
      → values ≡ pad8 0 (slot_formulas h statement a b r s)
  unfolding inverses_of products_of mul_negative_powers slot_formulas
  slots_root raised kind inverted divided powered are =
      are ∙ ap (pad8 0)
      (tabulate_agree h.columns _ _ (λ j inside.
      slot_root h _ a b _ _ kind (pad8_at h.columns _ 0 inverted j inside) (pad8_at h.columns _ 0 divided j inside) refl
      (power_at _ _ _ _ raised powered j inside) (ap (λ (x : ℕ). x % h.modulus) (mul_comm _ _))))

  -- the formula from its slots and its two exponents
  pub formula_filled : (entries : List (List ℕ)) {a' b' : ℕ} {values : List ℕ} → a ≡ a' → b ≡ b'
      → values ≡ pad8 0 (slot_formulas h statement a b r s)
      → values ≡ pad8 0 (formula (instance_with h entries statement) (neg_ℤ (pos a')) (pos b') r s)
  unfolding slot_formulas formula statement_at
  formula_filled entries is_left is_right is_values = rw (sym is_left, sym is_right) is_values
