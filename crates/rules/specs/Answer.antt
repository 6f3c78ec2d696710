-- What a refused call answers beside the number.
-- Assumes nothing.
use Rattle.std.specs.Prelude.{ℕ, cond, eqb}

-- the value where nothing is refused, and the other where the refusal has a number
unfoldable pub unless_refused {ℓ} : {A : Type ℓ} → ℕ → A → A → A
unless_refused refusal value other = cond (eqb refusal 0) value other
