-- Several values at once: the image by its rows side by side, and a response of kind 2.
-- Assumes nothing.
use mathlib.Core.Path.{◌≡◌, sym, ap, ◌∙◌}
use mathlib.Core.Logic.{◌≢◌}
use mathlib.Core.List.{List}
use Prim.Native.Nat.{ℕ}
use lib.ListN.{get_or}
use Rattle.types.specs.declared.Header.{Header}
use Rattle.lists.specs.Places.{places, pad8}
use Rattle.lists.proofs.Places.{tabulate_agree}
use Rattle.powers.specs.Places.{powers_of, mul_powers}
use Rattle.straus.specs.MultiPowers.{entry_of, multi_powers}
use Rattle.sigma.specs.Image.{image}
use Rattle.sigma.specs.Instance.{table_with, entry}
use Rattle.sigma.specs.Round.{response}
use Rattle.sigma.proofs.ByKind.{row_image_exponent, row_image_root, response_coordinate_root}

module _ (h : Header) where
  -- in kind 1 the image is a product of powers for each row
  pub products_image : (entries : List (List ℕ)) (x raised : List ℕ) {values : List ℕ} → h.kind ≡ 1
      → places h.rows raised ≡ multi_powers h.modulus h.rows h.columns (entry_of entries) x
      → values ≡ pad8 0 (places h.rows raised) → values ≡ pad8 0 (image (table_with h entries) x)
  unfolding multi_powers image entry
  products_image entries x raised kind are first =
      first ∙ ap (pad8 0)
      (are ∙ tabulate_agree h.rows _ _ (λ i inside. sym (row_image_exponent (table_with h entries) kind x i)))

  -- in kind 2 it is the powers of the slots
  pub powers_image : (entries : List (List ℕ)) (x raised : List ℕ) {values : List ℕ} → h.kind ≢ 1
      → places h.rows raised ≡ powers_of h.modulus h.order h.rows x
      → values ≡ pad8 0 (places h.rows raised) → values ≡ pad8 0 (image (table_with h entries) x)
  unfolding powers_of image
  powers_image entries x raised kind are first =
      first ∙ ap (pad8 0) (are ∙ tabulate_agree h.rows _ _ (λ i inside. sym (row_image_root (table_with h entries) kind x i)))

  -- in kind 2 the response is the nonce times powers of the witness
  pub powers_response : (k : List ℕ) (c : ℕ) (x : List ℕ) {values : List ℕ} → h.kind ≢ 1
      → values ≡ pad8 0 (mul_powers h.modulus c h.columns k x) → values ≡ pad8 0 (response h k c x)
  unfolding mul_powers response
  powers_response k c x kind are =
      are ∙ ap (pad8 0)
      (tabulate_agree h.columns _ _ (λ j inside. sym (response_coordinate_root h kind (get_or k j 0) c (get_or x j 0))))
