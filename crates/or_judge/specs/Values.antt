-- What the functions on loaded values ask for.
-- Assumes nothing.
use Rattle.std.specs.Prelude.{◌<◌, ◌≤◌, ◌≡◌}
use Rattle.types.specs.declared.Header.{Header}
use Rattle.sigma.specs.Instance.{Instance}
use Rattle.sigma.specs.Valid.{Valid}

-- a modulus, and at most eight rows and columns
abbrev pub FewPlaces : Header → Type 0
FewPlaces h = (0 < h.modulus) × (h.rows ≤ 8) × (h.columns ≤ 8)

-- two instances that are Valid and have one challenge count
pub record FitTogether (i j : Instance) : Type 0 where
  pub first : Valid i
  pub second : Valid j
  pub one_count : i.header.challenges ≡ j.header.challenges
