-- What stands in each place of the lists that a round is made of.
-- Assumes nothing.
use Prim.Native.Nat.{ℕ, ◌*◌, ◌%◌, ◌^◌, ◌<◌}
use mathlib.Core.Path.{◌≡◌}
use mathlib.Core.List.{List}
use lib.IntN.{pos, neg_ℤ}
use lib.ListN.{length, get_or}
use Rattle.types.specs.declared.Header.{Header}
use Rattle.lists.proofs.Places.{length_tabulate, get_d_tabulate}
use Rattle.numbers.specs.Integer.{power}
use Rattle.sigma.specs.Instance.{Instance, Table, table_of, statement_at}
use Rattle.sigma.specs.Image.{row_image, image}
use Rattle.sigma.specs.Round.{response_coordinate, response, expected_image}
use Rattle.sigma.specs.Simulator.{simulated}

module _ (table : Table) where
  -- [x] has a value for each row
  pub length_image : (x : List ℕ) → length (image table x) ≡ table.header.rows
  unfolding image
  length_image x = length_tabulate _ _

  -- row r of [x]
  pub image_at : (x : List ℕ) (r : ℕ) → r < table.header.rows → get_or (image table x) r 0 ≡ row_image table x r
  unfolding image
  image_at x r h = get_d_tabulate _ _ r 0 h

module _ (h : Header) where
  -- a response has a value for each column
  pub length_response : (k : List ℕ) (c : ℕ) (x : List ℕ) → length (response h k c x) ≡ h.columns
  unfolding response
  length_response k c x = length_tabulate _ _

  -- slot j of a response
  pub response_at : (k : List ℕ) (c : ℕ) (x : List ℕ) (j : ℕ) → j < h.columns
      → get_or (response h k c x) j 0 ≡ response_coordinate h (get_or k j 0) c (get_or x j 0)
  unfolding response
  response_at k c x j b = get_d_tabulate _ _ j 0 b

module _ (i : Instance) where
  -- row r of t · z^c
  pub expected_image_at : (t : List ℕ) (c r : ℕ) → r < i.header.rows
      → get_or (expected_image i t c) r 0 ≡ get_or t r 0 * statement_at i r ^ c % i.header.modulus
  unfolding expected_image
  expected_image_at t c r h = get_d_tabulate _ _ r 0 h

  -- a simulated commitment has a value for each row
  pub length_simulated : (c : ℕ) (r : List ℕ) → length (simulated i c r) ≡ i.header.rows
  unfolding simulated
  length_simulated c r = length_tabulate _ _

  -- row `row` of a simulated commitment
  pub simulated_at : (c : ℕ) (r : List ℕ) (row : ℕ) → row < i.header.rows
      → get_or (simulated i c r) row 0
      ≡ row_image (table_of i) r row * power i.header.modulus (statement_at i row) (neg_ℤ (pos c)) % i.header.modulus
  unfolding simulated
  simulated_at c r row h = get_d_tabulate _ _ row 0 h
