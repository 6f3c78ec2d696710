-- The two sides of a table's homomorphism as types: choices of n domain slots, and s group elements.
-- Assumes nothing.
use Rattle.std.specs.Prelude.{ℕ, List}
use Rattle.lists.specs.Each.{Each}
use Rattle.sigma.specs.Instance.{Table}
use Rattle.sigma.specs.Element.{Element, Coordinate}

-- n coordinates of the domain
abbrev pub Domain : Table → Type 0
Domain table = (x : List ℕ) × Each (Coordinate table.header) table.header.columns x

-- s group elements
abbrev pub Codomain : Table → Type 0
Codomain table = (t : List ℕ) × Each (Element table.header) table.header.rows t
