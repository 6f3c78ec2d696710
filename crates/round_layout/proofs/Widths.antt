-- The two widths of a stored challenge.
-- Assumes nothing.
use Prim.Native.Nat.{ℕ}
use mathlib.Core.Path.{◌≡◌}
use mathlib.Core.Logic.{◌≢◌, inl, inr}
use Rattle.round_layout.specs.Width.{IsWidth}

-- a width that is not 2 is 4
pub width_four : {width : ℕ} → IsWidth width → width ≢ 2 → width ≡ 4
width_four (inl two) other = absurd (other two)
width_four (inr four) other = four
