-- The widths of a stored challenge (02, card 7).
-- Assumes nothing.
use Rattle.std.specs.Prelude.{ℕ, ◌≡◌, ◌⊎◌}

-- a challenge has two or four bytes
abbrev pub IsWidth : ℕ → Type 0
IsWidth width = (width ≡ 2) ⊎ (width ≡ 4)
