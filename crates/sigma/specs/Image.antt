-- The homomorphism of a table (01, "The table's image [x]").
-- Assumes nothing.
use Rattle.std.specs.Prelude.{ℕ, ◌%◌, ◌^◌, cond, List, get_or}
use Rattle.lists.specs.Places.{tabulate}
use Rattle.numbers.specs.Product.{product}
use Rattle.sigma.specs.Instance.{Table, is_exponent, entry}

-- row i of [x]: in kind 1 the product over j of (entry i,j)^(x_j) mod m, in kind 2 x_i^e mod m
unfoldable pub row_image : Table → List ℕ → ℕ → ℕ
row_image table x i =
    cond (is_exponent table.header)
    (product table.header.columns (λ j. entry table i j ^ get_or x j 0) % table.header.modulus)
    (get_or x i 0 ^ table.header.order % table.header.modulus)

-- [x], a value for each row
unfoldable pub image : Table → List ℕ → List ℕ
image table x = tabulate table.header.rows (row_image table x)
