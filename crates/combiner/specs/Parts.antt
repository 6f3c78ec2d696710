-- What the functions on a team's parts read and answer, part by part and place by place.
-- Assumes nothing.
use Rattle.std.specs.Prelude.{ℕ, ◌%◌, Bool, cond, List, get_or}
use Rattle.types.specs.declared.Header.{Header}
use Rattle.numbers.specs.Product.{product, sum}
use Rattle.sigma.specs.Element.{some_non_coordinate, some_non_element}
use Rattle.sigma.specs.Instance.{is_exponent}
use Rattle.products.specs.Team.{part}

-- what place i of part p holds
unfoldable pub place_of : List (List ℕ) → ℕ → ℕ → ℕ
place_of parts i p = get_or (part parts p) i 0

-- slot j of the first parts joined
unfoldable pub joined_slot : Header → ℕ → List (List ℕ) → ℕ → ℕ
joined_slot h count parts j =
    cond (is_exponent h) (sum count (place_of parts j) % h.order) (product count (place_of parts j) % h.modulus)

-- whether part p has a value that is no group element
unfoldable pub non_element_part : Header → List (List ℕ) → ℕ → Bool
non_element_part h parts p = some_non_element h h.rows (part parts p)

-- whether part p has a slot that is no domain slot
unfoldable pub non_coordinate_part : Header → List (List ℕ) → ℕ → Bool
non_coordinate_part h parts p = some_non_coordinate h h.columns (part parts p)
