-- Simulating: the simulated commitment row by row, and what the call answers with its number or without one.
-- Assumes nothing.
use mathlib.Core.Path.{◌≡◌, sym, ap, ◌∙◌}
use mathlib.Core.List.{List}
use Prim.Native.Nat.{ℕ, ◌*◌, ◌%◌, ◌<◌}
use lib.IntN.{pos, neg_ℤ}
use lib.ListN.{get_or}
use Rattle.lists.specs.Places.{tabulate, places, pad8, zeros8}
use Rattle.lists.proofs.Places.{get_d_places, pad8_at, tabulate_agree}
use Rattle.numbers.specs.Integer.{power}
use Rattle.rules.specs.Call.{number_of}
use Rattle.rules.specs.Rule.{lowest, Clear}
use Rattle.rules.proofs.Call.{answer_clear, answer_refused}
use Rattle.negatives.specs.Negative.{mul_negative_powers}
use Rattle.sigma.specs.Image.{row_image, image}
use Rattle.sigma.specs.Instance.{Instance, table_of, statement_at}
use Rattle.sigma.specs.Simulator.{simulated, simulating, simulate_loaded}
use Rattle.sigma.specs.Valid.{Valid}
use Rattle.sigma.proofs.Unread.{row_image_agree}

-- row i of [r] · z^(−c)
unfoldable pub simulated_row : Instance → ℕ → List ℕ → ℕ → ℕ
simulated_row inst c r i =
    row_image (table_of inst) r i * power inst.header.modulus (statement_at inst i) (neg_ℤ (pos c)) % inst.header.modulus

-- the simulated commitment is its rows; it reads n places of the response
pub simulated_rows : (inst : Instance) → Valid inst → (c : ℕ) (r : List ℕ)
    → simulated inst c (places inst.header.columns r) ≡ tabulate inst.header.rows (simulated_row inst c r)
unfolding simulated simulated_row
simulated_rows inst v c r =
    tabulate_agree inst.header.rows _ _ (λ i h.
    ap (λ (k : ℕ). k * power inst.header.modulus (statement_at inst i) (neg_ℤ (pos c)) % inst.header.modulus)
    (row_image_agree v.table _ r (λ j l. get_d_places inst.header.columns r j l) i h))

-- it is the image times the statement by −c, place by place
pub simulated_images : (inst : Instance) → Valid inst → (c : ℕ) (r : List ℕ) {images values : List ℕ}
    → images ≡ pad8 0 (image (table_of inst) r)
    → values ≡ pad8 0 (mul_negative_powers inst.header.modulus c inst.header.rows images inst.statement)
    → values ≡ pad8 0 (simulated inst c (places inst.header.columns r))
unfolding mul_negative_powers image simulated_row statement_at
simulated_images inst v c r are_images are =
    are ∙ ap (pad8 0)
    (tabulate_agree inst.header.rows _ _ (λ i inside.
    ap (λ (k : ℕ). k * power inst.header.modulus (get_or inst.statement i 0) (neg_ℤ (pos c)) % inst.header.modulus)
    (pad8_at inst.header.rows _ 0 are_images i inside))
    ∙ sym (simulated_rows inst v c r))

module _ (inst : Instance) (c : ℕ) (r : List ℕ) where
  -- a number above 0 that the refusals give is the whole answer
  pub simulate_refused : (n : ℕ) → 0 < n → lowest (simulating inst c r).refusals ≡ n
      → record { refusal = n; values = zeros8 } ≡ simulate_loaded inst c r
  unfolding simulate_loaded simulating number_of
  simulate_refused n some given = rw (← given) (sym (answer_refused (simulating inst c r) (rw given some)))

  -- if no refusal applies the simulated commitment is given
  pub simulate_passed : Clear (simulating inst c r).refusals → {values : List ℕ}
      → values ≡ pad8 0 (simulated inst c (places inst.header.columns r)) → record { refusal = 0; values = values } ≡ simulate_loaded inst c r
  unfolding simulate_loaded simulating
  simulate_passed none is_values = rw is_values (sym (answer_clear (simulating inst c r) none))
