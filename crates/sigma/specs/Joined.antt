-- Values over one table joined two by two (02, cards 6, 11 and 14): domain slots by the domain's operation, rows by the product mod m,
-- and an instance with another statement.
-- Assumes nothing.
use Rattle.std.specs.Prelude.{ℕ, ◌*◌, ◌%◌, List, get_or}
use Rattle.types.specs.declared.Header.{Header}
use Rattle.lists.specs.Places.{tabulate}
use Rattle.sigma.specs.Element.{combine}
use Rattle.sigma.specs.Instance.{Instance, instance_with}

-- x and y joined: slot by slot by the domain's operation
unfoldable pub join_slots : Header → List ℕ → List ℕ → List ℕ
join_slots h x y = tabulate h.columns (λ j. combine h (get_or x j 0) (get_or y j 0))

-- t and u multiplied mod m, row by row
unfoldable pub multiply_rows : Header → List ℕ → List ℕ → List ℕ
multiply_rows h t u = tabulate h.rows (λ i. get_or t i 0 * get_or u i 0 % h.modulus)

-- the instance with another statement
abbrev pub with_statement : Instance → List ℕ → Instance
with_statement inst z = instance_with inst.header inst.entries z
